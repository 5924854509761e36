use Rattle.std.proofs.Common.{refl, subst}
use Rattle.cs_validity_reasons.specs.PlacedTold.{IsNamed}
use Rattle.cs_validity_reasons.proofs.naming.Named.up.Goals as goal

pub returns-in-Some : goal.returns-in-Some
returns-in-Some c =
    let s = c.args.self.now in
    rw c.in-Some.is
    (refl, subst (λ p. IsNamed s.flat.now s.book.now.numbering.rules.items s.book.now.numbering.children.items p c.in-Some.up.cause c.cause.result) c.pair_of.ensures c.cause.ensures)
