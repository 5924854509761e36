use Rattle.std.proofs.Common.{sym, ◌∙◌, subst}
use Rattle.cs_flat.specs.Listed.{document_in, IsListed}
use Rattle.cs_flat.proofs.Laws.{length-nodes}
use Rattle.cs_flat.proofs.Listed.{are_values, node_at-IsListed}
use Rattle.cs_flat.proofs.flat.Flat.len.Goals as goal

pub returns-clause-items : goal.returns-clause-items
returns-clause-items c = are_values c.args.self.now (subst (λ xs. IsListed (document_in xs) xs) c.self.view_is c.self.invariant).built

pub returns-clause-whole : goal.returns-clause-whole
returns-clause-whole c = let h = subst (λ xs. IsListed (document_in xs) xs) c.self.view_is c.self.invariant in h.count ∙ sym (length-nodes (document_in c.args.self.now))

pub returns-clause-last : goal.returns-clause-last
returns-clause-last c = node_at-IsListed (document_in c.args.self.now) c.args.self.now (subst (λ xs. IsListed (document_in xs) xs) c.self.view_is c.self.invariant)
