-- What waited gets its numbers.
use Rattle.std.proofs.Common.{◌≡◌, ℕ, suc, ◌<◌, ◌≤◌, false, List, [], ◌∷◌, ◌++◌, length, take, drop, Bor, refl, sym, ap, ap₂, ◌∙◌, subst, append_assoc, append-nil, length-append, arith}
use Rattle.std.proofs.lemmas.List.{map-append}
use Rattle.std.proofs.lemmas.List.Sorted.{length_permutation}
use Rattle.cs_document.specs.Document.{Document, null, boolean, integer, text, list, object}
use Rattle.cs_document.proofs.Each.{each_of, each_map, each_append}
use Rattle.cs_rules.proofs.Waiting.{IsNext, moved, less_inside}
use Rattle.cs_profile.specs.Loops.{direct_names}
use Rattle.cs_profile.specs.SchemaDocument.{schema_view}
use Rattle.cs_profile.specs.declared.schema.Schema.{Schema}
use Rattle.cs_validate.specs.Numbering.{schema_at}
use Rattle.cs_validate.specs.Rules.{subschemas}
use Rattle.cs_validate.specs.Placing.{waiting, State, AreNumberedBy, AreAt, Numbers, IsKnown, Places, placed_by, placed_by_members, left_by}
use Rattle.cs_validate.specs.Ranked.{PlacesWaiting}
use Rattle.cs_validate.proofs.Placed.{known_more, schemas_kept}
use Rattle.cs_rules.proofs.Permutations.{joined, equal}
use Rattle.cs_validate.proofs.Whole.{inside, whole, whole_step}

-- a schema that is numbered behind others
at_push : (xs ys : List Document) (numbers : List ℕ) (k : ℕ) (ss : List Document) (s : Document) → AreAt xs numbers ss → AreAt (xs ++ ys) (k ∷ []) (s ∷ []) → AreAt (xs ++ ys) (numbers ++ k ∷ []) (ss ++ s ∷ [])
at_push xs ys numbers k ss s h one =
    let longer : length xs ≤ length (xs ++ ys) = omega (arith, length-append xs ys) in (
      map-append (schema_at (xs ++ ys)) numbers (k ∷ []) ∙ ap₂ ◌++◌ (schemas_kept xs ys numbers h.1 ∙ h.0) one.0,
      each_append (λ p. p < length (xs ++ ys)) numbers (k ∷ []) (each_map (λ p. p < length xs) (λ p. p < length (xs ++ ys)) (λ p b. let c : p < length xs = b in omega (arith, c, longer)) numbers h.1) one.1,
    )

-- ---- one more

pub nothing_placed : (R : Document) (placed : List Document) (s : State) → AreNumberedBy R placed s → PlacesWaiting R placed (waiting s.pending.items) s []
nothing_placed R placed s n = record {
  more = [];
  numbered = subst (λ ss. AreNumberedBy R ss s) (sym (append-nil placed)) n;
  inside = (refl, tt);
  same = equal _ _ (ap (λ ss. ss ++ inside (waiting s.pending.items)) (sym (append-nil placed)));
}

pub one_waited : (R : Document) (numbers : Numbers) (placed first : List Document) (old new : State) (inner inner' : List ℕ) (b : Bor Schema) (number : ℕ)
    → IsNext old.pending.items inner inner' b number → Places numbers old new (schema_view b.now) number → ((n : List ℕ) → IsKnown R numbers placed n)
    → PlacesWaiting R placed first old inner → PlacesWaiting R placed first new inner'
one_waited R numbers placed first old new inner inner' b number next place known p =
    let W = waiting old.pending.items in
    let k = length inner in
    let s = schema_view b.now in
    let L = left_by s in
    let front = placed ++ p.more in
    let t = placed_by s in
    let W' = waiting new.pending.items in
    let m = moved (λ (x : Bor Schema). schema_view x.now) old.pending.items inner inner' b number next W' L place.0 in
    let one = place.1 R front p.numbered (each_of (IsKnown R numbers front) (λ n. known_more R numbers placed p.more n (known n)) (direct_names s)) in
    let whole : front ++ t ≡ placed ++ (p.more ++ t) = append_assoc placed p.more t in
    let both : AreAt (front ++ t) inner' (take k W ++ s ∷ []) = subst (λ ks. AreAt (front ++ t) ks (take k W ++ s ∷ [])) (sym next.put) (at_push front t inner number (take k W) s p.inside one.1) in
    record {
      more = p.more ++ t;
      numbered = subst (λ ss. AreNumberedBy R ss new) whole one.0;
      inside = subst (λ ss. AreAt (placed ++ (p.more ++ t)) inner' ss) (sym m.taken) (subst (λ ss. AreAt ss inner' (take k W ++ s ∷ [])) whole both);
      same = joined p.same (joined (equal _ _ (ap (λ ss. front ++ inside ss) m.at)) (joined (whole_step front s (drop (suc k) W)) (equal _ _ (ap₂ (λ xs ys. xs ++ inside ys) whole (sym m.left)))));
    }

-- ---- less waits

some_placed : (s : Document) → 0 < length (placed_by s)
some_placed null = omega arith
some_placed (boolean b) = omega arith
some_placed (integer z) = omega arith
some_placed (text t) = omega arith
some_placed (list ds) = omega arith
some_placed (object ms) = omega (arith, length-append (placed_by_members ms) (object ms ∷ []))

pub less_waits : (pending pending' : List (Bor Schema)) (inner inner' : List ℕ) (b : Bor Schema) (number : ℕ) → IsNext pending inner inner' b number → waiting pending' ≡ waiting pending ++ left_by (schema_view b.now)
    → length (inside (drop (length inner') (waiting pending'))) < length (inside (drop (length inner) (waiting pending)))
less_waits pending pending' inner inner' b number next grown =
    let s = schema_view b.now in
    let L = left_by s in
    let all : length (subschemas false s) ≡ length (placed_by s ++ inside L) = length_permutation (placed_by s ++ inside L) (subschemas false s) (whole s) in
    less_inside (λ (x : Bor Schema). schema_view x.now) pending inner inner' b number next (waiting pending') L grown (subschemas false) (omega (arith, all, length-append (placed_by s) (inside L), some_placed s))
