use Rattle.std.proofs.Common.{◌≡◌, ℕ, ◌<◌, List, length, map, refl, sym, subst}
use Rattle.std.specs.Prelude.{Contains}
use Rattle.std.specs.List.{flat_map}
use Rattle.std.specs.List.Sorted.{IsPermutation}
use Rattle.cs_graph.specs.Chains.{On}
use Rattle.cs_package.specs.Environment.{Environment, declared_names}
use Rattle.cs_guard.specs.Numbered.{name_of}
use Rattle.cs_guard.specs.Reachable.{referred_of}
use Rattle.cs_instance.specs.Placing.{waiting, AreKnownIn, placed_with, PlacesWaiting}
use Rattle.cs_instance.specs.Ranked.{AreRanked, ArePlacedBy, names_in}
use Rattle.cs_instance.proofs.Wholes.{names_perm, closed_whole, first_known, placed_all, numbered_whole}
use Rattle.cs_instance.proofs.numbering.whole.numbering_of_all.Goals as goal

-- what all definitions refer to is declared
abbrev IsClosed : Environment → Type 0
IsClosed E = (i : ℕ) (m : List ℕ) → i < length E → Contains (referred_of E (name_of E i)) m → On m (declared_names E)

-- the names in another order
named : (E F : Environment) (order : List ℕ) (ds : List (ℕ × ℕ)) → F ≡ E → map (name_of F) order ≡ declared_names F → IsPermutation order (map (λ (d : ℕ × ℕ). d.1) ds) → IsPermutation (declared_names E) (names_in E ds)
named E F order ds kept names same =
    subst (λ ns. IsPermutation ns (names_in E ds)) (subst (λ (G : Environment). map (name_of G) order ≡ declared_names G) kept names) (names_perm E order ds same)

pub place_definitions-requires : goal.place_definitions-requires
place_definitions-requires c =
    let E = c.args.«package».now in
    let order = c.in_ok-order.order.items in
    let ds = c.in_ok-ranked.ranked.items in
    let closed = subst IsClosed c.package.ensures.kept c.in_ok-order.ensures.closed in
    let perm = named E c.package.result.now order ds c.package.ensures.kept c.in_ok-order.ensures.names (subst (λ xs. IsPermutation xs (map (λ (d : ℕ × ℕ). d.1) ds)) c.deref.ensures.value c.in_ok-ranked.ensures.same) in
    let are : AreRanked E ds = record { ranks = c.in_ok-ranked.ensures.ranks; sorted = c.in_ok-ranked.ensures.sorted; closed = closed_whole E (names_in E ds) perm closed } in
    subst (AreRanked E) (sym c.deref-2.ensures.value) are

pub invariant_of-result : goal.invariant_of-result
invariant_of-result c =
    let E = c.args.«package».now in
    let order = c.in_ok-order.order.items in
    let ds = c.in_ok-ranked.ranked.items in
    let ns = names_in E ds in
    let perm = named E c.package.result.now order ds c.package.ensures.kept c.in_ok-order.ensures.names (subst (λ xs. IsPermutation xs (map (λ (d : ℕ × ℕ). d.1) ds)) c.deref.ensures.value c.in_ok-ranked.ensures.same) in
    let p = c.in_ok-numbers.field-0 in
    let last = c.place_waiting.new.numberer in
    let inner = c.in_ok-children.children.items in
    let all = flat_map (placed_with E) ns in
    let placed : ArePlacedBy E ns p = subst (λ xs. ArePlacedBy E (names_in E xs) p) c.deref-2.ensures.value c.in_ok-numbers.ensures in
    let closed = closed_whole E ns perm (subst IsClosed c.package.ensures.kept c.in_ok-order.ensures.closed) in
    let w = subst (λ xs. PlacesWaiting E (declared_names E) xs all p.numberer last inner) c.deref-3.ensures.value
    (c.in_ok-children.ensures.placed E (declared_names E) all placed.numbered
    (subst (λ xs. AreKnownIn (declared_names E) xs all (waiting (declared_names E) p.numberer)) (sym c.deref-3.ensures.value) (first_known E ns p closed placed))) in
    record { placed = placed_all E (declared_names E) ns p last inner perm placed c.in_ok-children.ensures.all w }

pub returns : goal.returns
returns c =
    let E = c.args.«package».now in
    let order = c.in_ok-order.order.items in
    let ds = c.in_ok-ranked.ranked.items in
    let ns = names_in E ds in
    let perm = named E c.package.result.now order ds c.package.ensures.kept c.in_ok-order.ensures.names (subst (λ xs. IsPermutation xs (map (λ (d : ℕ × ℕ). d.1) ds)) c.deref.ensures.value c.in_ok-ranked.ensures.same) in
    let p = c.in_ok-numbers.field-0 in
    let last = c.place_waiting.new.numberer in
    let inner = c.in_ok-children.children.items in
    let all = flat_map (placed_with E) ns in
    let placed : ArePlacedBy E ns p = subst (λ xs. ArePlacedBy E (names_in E xs) p) c.deref-2.ensures.value c.in_ok-numbers.ensures in
    let closed = closed_whole E ns perm (subst IsClosed c.package.ensures.kept c.in_ok-order.ensures.closed) in
    let w = subst (λ xs. PlacesWaiting E (declared_names E) xs all p.numberer last inner) c.deref-3.ensures.value
    (c.in_ok-children.ensures.placed E (declared_names E) all placed.numbered
    (subst (λ xs. AreKnownIn (declared_names E) xs all (waiting (declared_names E) p.numberer)) (sym c.deref-3.ensures.value) (first_known E ns p closed placed))) in
    numbered_whole E (declared_names E) ns p last inner perm placed c.in_ok-children.ensures.all w refl
