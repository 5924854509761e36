use Rattle.std.proofs.Common.{◌≡◌, ◌-◌, sym, ap, ◌∙◌, arith}
use Rattle.cs_document.specs.Equality.{document_eq-true}
use Rattle.cs_document.specs.View.{doc_view}
use Rattle.cs_flat.specs.Items.{inside}
use Rattle.cs_flat.specs.Listed.{document_in, values}
use Rattle.cs_flat.specs.Nodes.{node_at}
use Rattle.cs_json.proofs.shown.is_same.Goals as goal

pub returns : goal.returns
returns c = λ yes.
    let listed = c.args.listed.now in
    let last : c.len.result - 1 ≡ inside (document_in listed) = omega (arith, c.len.ensures.count, c.len.ensures.inside) in
    sym (document_eq-true _ _ (sym c.equals.ensures ∙ yes) ∙ ap (node_at (values listed)) last ∙ c.len.ensures.last)
