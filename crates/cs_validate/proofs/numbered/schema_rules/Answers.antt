use Rattle.std.proofs.Common.{sym, subst}
use Rattle.cs_profile.specs.SchemaDocument.{document_of}
use Rattle.cs_rules.specs.declared.book.Numbering.{Numbering}
use Rattle.cs_validate.specs.Rooted.{IsRooted}
use Rattle.cs_validate.proofs.numbered.schema_rules.Goals as goal

pub invariant_of-result : goal.invariant_of-result
invariant_of-result c = subst (λ (m : Numbering _ _). IsRooted (document_of c.args.schema.now) m.rules.items m.children.items c.in_ok-numbering.root) (sym c.in_ok-book.ensures) c.in_ok-numbering.ensures
