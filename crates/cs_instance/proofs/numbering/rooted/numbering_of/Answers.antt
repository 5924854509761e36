use Rattle.std.proofs.Common.{ℕ, ◌<◌, length, map, refl, sym, subst, arith}
use Rattle.std.proofs.lemmas.Option.{slice_get_read, get_or_from_slice_get}
use Rattle.std.specs.List.{flat_map}
use Rattle.std.specs.List.Sorted.{IsPermutation}
use Rattle.cs_package.specs.Environment.{Environment, declared_names}
use Rattle.cs_guard.specs.Reachable.{AreReachable}
use Rattle.cs_guard.specs.Numbered.{name_of}
use Rattle.cs_instance.specs.Placing.{waiting, AreKnownIn, placed_with, PlacesWaiting}
use Rattle.cs_instance.specs.Ranked.{AreRanked, ArePlacedBy, names_in}
use Rattle.cs_instance.specs.Rooted.{IsRooted}
use Rattle.cs_instance.proofs.Wholes.{names_perm, closed_in, first_known, placed_all, rooted}
use Rattle.cs_instance.proofs.numbering.rooted.numbering_of.Goals as goal

pub place_definitions-requires : goal.place_definitions-requires
place_definitions-requires c =
    let E = c.args.«package».now in
    let order = c.in_ok-order.order.items in
    let ds = c.in_ok-ranked.ranked.items in
    let reach = subst (λ (F : Environment). AreReachable F (name_of F c.args.root) (map (name_of F) order)) c.package.ensures.kept c.in_ok-order.ensures.found in
    let perm = names_perm E order ds (subst (λ xs. IsPermutation xs (map (λ (d : ℕ × ℕ). d.1) ds)) c.deref.ensures.value c.in_ok-ranked.ensures.same) in
    let are : AreRanked E ds = record { ranks = c.in_ok-ranked.ensures.ranks; sorted = c.in_ok-ranked.ensures.sorted; closed = closed_in E (name_of E c.args.root) (map (name_of E) order) (names_in E ds) reach perm } in
    subst (AreRanked E) (sym c.deref-2.ensures.value) are

pub invariant_of-result : goal.invariant_of-result
invariant_of-result c =
    let E = c.args.«package».now in
    let order = c.in_ok-order.order.items in
    let ds = c.in_ok-ranked.ranked.items in
    let ns = names_in E ds in
    let names = map (name_of E) order in
    let reach = subst (λ (F : Environment). AreReachable F (name_of F c.args.root) (map (name_of F) order)) c.package.ensures.kept c.in_ok-order.ensures.found in
    let perm = names_perm E order ds (subst (λ xs. IsPermutation xs (map (λ (d : ℕ × ℕ). d.1) ds)) c.deref.ensures.value c.in_ok-ranked.ensures.same) in
    let p = c.in_ok-numbers.field-0 in
    let last = c.place_waiting.new.numberer in
    let inner = c.in_ok-children.children.items in
    let all = flat_map (placed_with E) ns in
    let placed : ArePlacedBy E ns p = subst (λ xs. ArePlacedBy E (names_in E xs) p) c.deref-2.ensures.value c.in_ok-numbers.ensures in
    let closed = closed_in E (name_of E c.args.root) names ns reach perm in
    let w = subst (λ xs. PlacesWaiting E (declared_names E) xs all p.numberer last inner) c.deref-3.ensures.value
    (c.in_ok-children.ensures.placed E (declared_names E) all placed.numbered
    (subst (λ xs. AreKnownIn (declared_names E) xs all (waiting (declared_names E) p.numberer)) (sym c.deref-3.ensures.value) (first_known E ns p closed placed))) in
    record { placed = placed_all E names ns p last inner perm placed c.in_ok-children.ensures.all w }

pub returns : goal.returns
returns c =
    let E = c.args.«package».now in
    let order = c.in_ok-order.order.items in
    let ds = c.in_ok-ranked.ranked.items in
    let ns = names_in E ds in
    let names = map (name_of E) order in
    let reach = subst (λ (F : Environment). AreReachable F (name_of F c.args.root) (map (name_of F) order)) c.package.ensures.kept c.in_ok-order.ensures.found in
    let perm = names_perm E order ds (subst (λ xs. IsPermutation xs (map (λ (d : ℕ × ℕ). d.1) ds)) c.deref.ensures.value c.in_ok-ranked.ensures.same) in
    let p = c.in_ok-numbers.field-0 in
    let last = c.place_waiting.new.numberer in
    let inner = c.in_ok-children.children.items in
    let all = flat_map (placed_with E) ns in
    let placed : ArePlacedBy E ns p = subst (λ xs. ArePlacedBy E (names_in E xs) p) c.deref-2.ensures.value c.in_ok-numbers.ensures in
    let closed = closed_in E (name_of E c.args.root) names ns reach perm in
    let w = subst (λ xs. PlacesWaiting E (declared_names E) xs all p.numberer last inner) c.deref-3.ensures.value
    (c.in_ok-children.ensures.placed E (declared_names E) all placed.numbered
    (subst (λ xs. AreKnownIn (declared_names E) xs all (waiting (declared_names E) p.numberer)) (sym c.deref-3.ensures.value) (first_known E ns p closed placed))) in
    let within : c.args.root < length p.numbers.items = omega (arith, c.requires, placed.long) in
    let at = get_or_from_slice_get p.numbers.items c.args.root c.index-number.result.now 0 (slice_get_read p.numbers.items (length p.numbers.items) c.args.root c.index-number.result.now refl within c.index-number.ensures) in
    subst (IsRooted E (name_of E c.args.root) last.rules.items inner) at (rooted E names ns p last inner perm placed c.in_ok-children.ensures.all w c.args.root reach)
