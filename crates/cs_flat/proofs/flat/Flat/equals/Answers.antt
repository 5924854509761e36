use Rattle.std.proofs.Common.{sym, ap, ◌∙◌}
use Rattle.std.specs.Ordering.{is_eq}
use Rattle.cs_document.specs.TotalOrder.{document_cmp-eq}
use Rattle.cs_document.specs.View.{doc_view}
use Rattle.cs_flat.specs.Listed.{values}
use Rattle.cs_flat.specs.Nodes.{node_at}
use Rattle.cs_flat.proofs.flat.Flat.equals.Goals as goal

-- the order says `Equal` just of the same document
pub returns : goal.returns
returns c = c.is_eq.ensures ∙ ap is_eq c.compare.ensures ∙ sym (document_cmp-eq (doc_view c.args.doc.now) (node_at (values c.args.self.now) c.args.i))
