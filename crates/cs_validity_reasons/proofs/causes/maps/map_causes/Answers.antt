use Rattle.std.proofs.Common.{◌≡◌, ◌+◌, ◌<◌, ◌^◌, arith, ap, ◌∙◌}
use Rattle.cs_rules.specs.Knowns.{place_count}
use Rattle.cs_validate.specs.Steps.{prefix_place, one_if}
use Rattle.cs_validate.proofs.Asked.{places_fit}
use Rattle.cs_validity_reasons.proofs.causes.maps.map_causes.Goals as goal

pub overflow_add-first : goal.overflow_add-first
overflow_add-first c =
    let k = c.args.conjunction.now in
    let place : c.behind-prefix.result ≡ prefix_place k = c.behind-prefix.ensures ∙ ap (λ p. p + one_if k.keywords.now.rest) c.behind-items.ensures in
    let fits = c.behind-prefix.type_inv in
    let inner : place_count c.args.known.now < 2 ^ 64 = omega arith in
    let all = places_fit (place_count c.args.known.now) (2 ^ 64) (prefix_place k) k.keywords.now.prefix.items c.requires.parts.prefix inner (omega (arith, place, fits)) in
    let long = c.len.ensures in
    omega (arith, all, place, long)
