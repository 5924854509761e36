use Rattle.std.proofs.Common.{◌≡◌, Some, sym, subst, ◌∙◌}
use Rattle.cs_embeddings.specs.Gathered.{those_of}
use Rattle.cs_embeddings.specs.GatheredTable.{declared_view, TellsLabel}
use Rattle.cs_embeddings.specs.declared.gathered.Label.TheVariants.{Unmet}
use Rattle.cs_embeddings.proofs.Gathering.{first_stands}
use Rattle.cs_embeddings.proofs.gathered.Label.standing.Goals as goal

pub returns-then-is_gathered : goal.returns-then-is_gathered
returns-then-is_gathered c ds all before tables told =
    let d = declared_view c.args.declared in
    let s = d.label.text in
    let is : c.args.known ≡ Some (Unmet c.in-Some-Unmet.together) = cc in
    let known = subst (λ o. TellsLabel o ds s all before) is told in
    let gathers = c.is_gathered.ensures ds s (those_of s all) tables known.0 in
    first_stands ds all before d c.requires c.args.known c.in-Some-Unmet.together is told (sym c.if-is_gathered.true ∙ gathers)
