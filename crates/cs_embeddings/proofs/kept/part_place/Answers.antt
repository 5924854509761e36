use Rattle.std.proofs.Common.{rules, ◌≡◌, None, Some, map, length, ap, ◌∙◌, sym, subst}
use Rattle.cs_embeddings.specs.Bodies.{as_declared, part_place}
use Rattle.cs_embeddings.specs.Gathered.{those_of, is_gathered}
use Rattle.cs_embeddings.specs.GatheredTable.{StandsFor, gathered_view}
use Rattle.cs_embeddings.specs.declared.gathered.Gathered.TheVariants.{Several}
use Rattle.cs_embeddings.proofs.Keeping.{near_placed, far_placed}
use Rattle.cs_embeddings.proofs.kept.part_place.Goals as goal

pub returns-then-count-len : goal.returns-then-count-len
returns-then-count-len c ds ls d tells stands same =
    let t = c.in-Several.together in let all = map as_declared ds in
    let for = subst (λ g. StandsFor (Some g) (is_gathered ds all d) ds all d) c.in-Several.is stands in
    let many : c.len.result ≡ length t.values.items = search (rules, c.len.ensures) in
    let label = ap (λ g. (gathered_view g).label.text) (sym c.in-Several.is) ∙ same in
    subst (λ g. t.place ≡ part_place ds ls d (gathered_view g)) (sym c.in-Several.is)
    (far_placed ds ls d (gathered_view (Several t)) for.0 c.count.result c.len.result
    (c.count.ensures ds ls tells ∙ ap (λ s. length (those_of s ls)) label) (many ∙ for.2) c.if-count-len.true)

pub returns-else-count-len : goal.returns-else-count-len
returns-else-count-len c ds ls d tells stands same =
    let t = c.in-Several.together in let all = map as_declared ds in
    let for = subst (λ g. StandsFor (Some g) (is_gathered ds all d) ds all d) c.in-Several.is stands in
    let many : c.len.result ≡ length t.values.items = search (rules, c.len.ensures) in
    let label = ap (λ g. (gathered_view g).label.text) (sym c.in-Several.is) ∙ same in
    subst (λ g. None ≡ part_place ds ls d (gathered_view g)) (sym c.in-Several.is)
    (near_placed ds ls d (gathered_view (Several t)) for.0 c.count.result c.len.result
    (c.count.ensures ds ls tells ∙ ap (λ s. length (those_of s ls)) label) (many ∙ for.2) c.if-count-len.false)
