use Rattle.std.proofs.Common.{◌≡◌, ◌+◌, ◌-◌, length, sym, subst, arith}
use Rattle.cs_profile.specs.SchemaDocument.{schema_view, document_of}
use Rattle.cs_validate.specs.Placing.{Places}
use Rattle.cs_validate.specs.Ranked.{AreRanked, ArePlacedBy}
use Rattle.cs_validate.proofs.Ordered.{are_ranked}
use Rattle.cs_validate.proofs.Wholes.{first, first_numbered, first_known, root_last, placed_all, rooted}
use Rattle.cs_validate.proofs.numbering.rooted.numbering_of.Goals as goal

pub place_definitions-requires : goal.place_definitions-requires
place_definitions-requires c =
    let v = c.args.schema.now in
    let e = c.in_ok-ranked.ensures in
    subst (AreRanked (document_of v)) (sym c.deref.ensures.value) (are_ranked v c.whole_law.ensures.whole c.in_ok-ranked.ranked.items e.same e.ranks e.sorted)

pub overflow_sub-root : goal.overflow_sub-root
overflow_sub-root c =
    let v = c.args.schema.now in
    let ds = c.in_ok-ranked.ranked.items in
    let whole = c.whole_law.ensures.whole in
    let e = c.in_ok-ranked.ensures in
    let ranked = are_ranked v whole ds e.same e.ranks e.sorted in
    let p = c.in_ok-numbers.field-0 in
    let placed = subst (λ xs. ArePlacedBy (document_of v) xs p) c.deref.ensures.value c.in_ok-numbers.ensures in
    let new = c.place.new.numberer in
    let k = c.in_ok-place.field-0 in
    let root = subst (λ s. Places p.numbers p.numberer new (schema_view s) k) c.root.ensures c.in_ok-place.ensures in
    omega (arith, root_last v whole ds p k new e.same ranked placed root, new.rules.ok.0, c.len-root.ensures)

pub invariant_of-result : goal.invariant_of-result
invariant_of-result c =
    let v = c.args.schema.now in
    let ds = c.in_ok-ranked.ranked.items in
    let whole = c.whole_law.ensures.whole in
    let e = c.in_ok-ranked.ensures in
    let ranked = are_ranked v whole ds e.same e.ranks e.sorted in
    let p = c.in_ok-numbers.field-0 in
    let placed = subst (λ xs. ArePlacedBy (document_of v) xs p) c.deref.ensures.value c.in_ok-numbers.ensures in
    let new = c.place.new.numberer in
    let k = c.in_ok-place.field-0 in
    let root = subst (λ s. Places p.numbers p.numberer new (schema_view s) k) c.root.ensures c.in_ok-place.ensures in
    let waited = c.in_ok-children.ensures.placed (document_of v) (first v whole ds p k new e.same ranked placed root) (first_numbered v whole ds p k new e.same ranked placed root) (first_known v whole ds p k new e.same ranked placed root) in
    record { placed = placed_all v whole ds p k new e.same ranked placed root c.place_waiting.new.numberer c.in_ok-children.children.items c.in_ok-children.ensures.all waited }

pub returns : goal.returns
returns c =
    let v = c.args.schema.now in
    let ds = c.in_ok-ranked.ranked.items in
    let whole = c.whole_law.ensures.whole in
    let e = c.in_ok-ranked.ensures in
    let ranked = are_ranked v whole ds e.same e.ranks e.sorted in
    let p = c.in_ok-numbers.field-0 in
    let placed = subst (λ xs. ArePlacedBy (document_of v) xs p) c.deref.ensures.value c.in_ok-numbers.ensures in
    let new = c.place.new.numberer in
    let k = c.in_ok-place.field-0 in
    let root = subst (λ s. Places p.numbers p.numberer new (schema_view s) k) c.root.ensures c.in_ok-place.ensures in
    let waited = c.in_ok-children.ensures.placed (document_of v) (first v whole ds p k new e.same ranked placed root) (first_numbered v whole ds p k new e.same ranked placed root) (first_known v whole ds p k new e.same ranked placed root) in
    let last : (c.len-root.result - 1) + 1 ≡ length new.rules.items = omega (arith, root_last v whole ds p k new e.same ranked placed root, new.rules.ok.0, c.len-root.ensures) in
    rooted v whole ds p k new e.same ranked placed root c.place_waiting.new.numberer c.in_ok-children.children.items c.in_ok-children.ensures.all waited (c.len-root.result - 1) last
