use Rattle.std.specs.Prelude.{codes, Some}
use Rattle.std.proofs.Common.{◌≡◌, w64, ap, ap₂, ◌∙◌, rules}
use mir.Val.{to_z, of_z}
use Rattle.cs_document.specs.Document.{integer, member}
use Rattle.cs_profile.specs.SchemaDocument.{set_slot}
use Rattle.cs_compile.specs.Slots.{typed}
use Rattle.cs_compile.specs.Translation.{from_least}
use Rattle.cs_compile.proofs.Slots.{made_of}
use Rattle.cs_compile.proofs.atoms.range.Goals as goal

pub returns-in-Some : goal.returns-in-Some
returns-in-Some c =
    let least : to_z w64 (of_z w64 c.args.least) ≡ c.args.least = search rules in
    let greatest : to_z w64 (of_z w64 c.in-Some.greatest) ≡ c.in-Some.greatest = search rules in
    rw c.in-Some.is (made_of c.object.result c.set-keywords.result c.set.result (set_slot (codes "minimum") (Some (integer (to_z w64 (of_z w64 c.args.least)))) (typed (codes "integer"))) (codes "maximum") _ _
    (c.set-keywords.ensures ∙ ap (set_slot (codes "minimum") (Some (integer (to_z w64 (of_z w64 c.args.least))))) c.typed.ensures) c.set.ensures (ap₂ (λ z l. member (codes "maximum") (integer z) (from_least l)) greatest least) c.object.ensures)

pub returns-in-None : goal.returns-in-None
returns-in-None c =
    let least : to_z w64 (of_z w64 c.args.least) ≡ c.args.least = search rules in
    rw c.in-None.is (made_of c.object-in-None.result c.typed.result c.set-keywords.result (typed (codes "integer")) (codes "minimum") _ _
    c.typed.ensures c.set-keywords.ensures (ap (λ l. from_least l) least) c.object-in-None.ensures)
