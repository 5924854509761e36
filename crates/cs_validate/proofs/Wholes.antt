-- The rules of a schema document, with their numbers.
use Rattle.std.proofs.Common.{◌≡◌, ℕ, ◌+◌, ◌<◌, ◌≤◌, ◌⊎◌, inl, inr, false, List, [], ◌∷◌, ◌++◌, Option, Some, None, option_map, map, length, slice_index, Bor, refl, sym, ap, ap₂, ◌∙◌, subst, append_assoc, append-nil, length-append, arith}
use Rattle.std.specs.Prelude.{slice_get, option_to_list}
use Rattle.std.specs.List.{AllByRecursion as Each}
use Rattle.std.specs.List.Sorted.{IsPermutation}
use Rattle.std.proofs.Math.Logic.{⊎_map}
use Rattle.std.proofs.lemmas.Bool.{cases_lt}
use Rattle.std.proofs.lemmas.List.{length-map, get_or_push, get_or-map, take_all, drop_all}
use Rattle.std.proofs.lemmas.List.Elements.{All-from_recursion, All-get_or}
use Rattle.std.proofs.lemmas.List.Sorted.{IsPermutation-map}
use Rattle.std.proofs.lemmas.Option.{slice_get_within}
use Rattle.std.proofs.lemmas.Simd.{map-map}
use Rattle.cs_document.specs.Document.{Document, boolean, Entry}
use Rattle.cs_document.specs.Inside.{map_entry}
use Rattle.cs_document.proofs.Each.{each_of, each_map, each_over}
use Rattle.cs_profile.specs.Constraint.{Assertion, valid_by, at_keys, at_other_keys, in_front, behind, valid_by_all, valid_by_any, not_valid_by, Constraint, always, never, conjunction, constraint_of}
use Rattle.cs_profile.specs.Loops.{direct_names}
use Rattle.cs_profile.specs.SchemaDocument.{SchemaValue, IsWhole, schema_view, document_of, definitions_view, unless_no_map}
use Rattle.cs_profile.specs.declared.schema.Schema.{Schema}
use Rattle.cs_validate.specs.Numbering.{map_assertion, map_constraint, said, ClaimBelow, PartsBelow, schema_at, IsNumbering}
use Rattle.cs_validate.specs.Rules.{rules_of}
use Rattle.cs_validate.specs.declared.rules.Rule.{Rule as Coded}
use Rattle.cs_rules.specs.Steps.{ArePlaced}
use Rattle.cs_validate.specs.Numbering.{PartsBelow}
use Rattle.cs_validate.specs.Steps.{asked_of, numbered}
use Rattle.cs_validate.specs.Placing.{waiting, AreNumbered, State, AreNumberedBy, AreAt, IsKnown, Places, placed_by, left_by}
use Rattle.cs_validate.specs.Ranked.{definitions_of, schema_of, definition, AreRanked, ArePlacedBy, PlacesWaiting}
use Rattle.cs_validate.specs.declared.numbering.definitions.Placement.{Placement}
use Rattle.cs_validate.specs.declared.numbering.definitions.Ranked.{Ranked}
use Rattle.cs_validate.specs.Rooted.{IsRooted}
use Rattle.cs_rules.proofs.Lists.{got_front, got_last}
use Rattle.cs_validate.proofs.Placed.{at_front, names_same, known_more}
use Rattle.cs_rules.proofs.Judged.{coded_found}
use Rattle.cs_rules.proofs.Permutations.{Same, joined, equal}
use Rattle.cs_validate.proofs.Whole.{inside}
use Rattle.cs_validate.proofs.Root.{root_said, before, placed_last, bodies, root_counted}
use Rattle.cs_validate.proofs.Ordered.{placed_with, all_known}

-- ---- places of what waited are numbers now

module _ {H H' H'' I I' I'' : Type 0} (f' : H' → H'') (g' : I' → I'') (f : H → H') (g : I → I') where
  entries_twice : (ps : List (Entry I)) → map (map_entry g') (map (map_entry g) ps) ≡ map (map_entry (λ x. g' (g x))) ps
  entries_twice [] = refl
  entries_twice (p ∷ ps) = ap (λ (qs : List (Entry I'')). (p.0, g' (g p.1)) ∷ qs) (entries_twice ps)

  option_twice : (o : Option H) → option_map f' (option_map f o) ≡ option_map (λ x. f' (f x)) o
  option_twice None = refl
  option_twice (Some x) = refl

  claim_twice : (a : Assertion H I) → map_assertion f' g' (map_assertion f g a) ≡ map_assertion (λ x. f' (f x)) (λ x. g' (g x)) a
  claim_twice (valid_by o) = ap valid_by (option_twice o)
  claim_twice (at_keys ps) = ap at_keys (entries_twice ps)
  claim_twice (in_front ps) = ap in_front (map-map g' g ps)
  claim_twice (valid_by_all rs) = ap valid_by_all (map-map f' f rs)
  claim_twice (valid_by_any rs) = ap valid_by_any (map-map f' f rs)
  claim_twice _ = refl

  claims_twice : (claims : List (Assertion H I)) → map (map_assertion f' g') (map (map_assertion f g) claims) ≡ map (map_assertion (λ x. f' (f x)) (λ x. g' (g x))) claims
  claims_twice [] = refl
  claims_twice (a ∷ claims) = ap₂ ◌∷◌ (claim_twice a) (claims_twice claims)

  twice : (c : Constraint H I) → map_constraint f' g' (map_constraint f g c) ≡ map_constraint (λ x. f' (f x)) (λ x. g' (g x)) c
  twice always = refl
  twice never = refl
  twice (conjunction claims) = ap conjunction (claims_twice claims)

module _ (g : ℕ → ℕ) (m k : ℕ) (lower : (p : ℕ) → p < m → g p < k) (n : ℕ) where
  below_entries : (ps : List (Entry ℕ)) → Each (λ (e : Entry ℕ). e.1 < m) ps → Each (λ (e : Entry ℕ). e.1 < k) (map (map_entry g) ps)
  below_entries ps h = each_over (map_entry g) (λ (e : Entry ℕ). e.1 < k) ps (each_map (λ (e : Entry ℕ). e.1 < m) (λ (e : Entry ℕ). g e.1 < k) (λ e. lower e.1) ps h)

  kept_option : (o : Option ℕ) → Each (λ r. r < n) (option_to_list o) → Each (λ r. r < n) (option_to_list (option_map (λ r. r) o))
  kept_option None h = tt
  kept_option (Some r) h = h

  claim_below : (a : Assertion ℕ ℕ) → ClaimBelow n m a → ClaimBelow n k (map_assertion (λ r. r) g a)
  claim_below (valid_by o) h = kept_option o h
  claim_below (at_keys ps) h = below_entries ps h
  claim_below (at_other_keys ks p) h = lower p h
  claim_below (in_front ps) h = each_over g (λ p. p < k) ps (each_map (λ p. p < m) (λ p. g p < k) lower ps h)
  claim_below (behind j p) h = lower p h
  claim_below (valid_by_all rs) h = each_over (λ r. r) (λ r. r < n) rs h
  claim_below (valid_by_any rs) h = each_over (λ r. r) (λ r. r < n) rs h
  claim_below (not_valid_by r) h = h
  claim_below _ h = tt

  claims_below : (claims : List (Assertion ℕ ℕ)) → Each (ClaimBelow n m) claims → Each (ClaimBelow n k) (map (map_assertion (λ r. r) g) claims)
  claims_below [] h = tt
  claims_below (a ∷ claims) h = (claim_below a h.0, claims_below claims h.1)

  numbers_below : (c : Constraint ℕ ℕ) → PartsBelow n m c → PartsBelow n k (map_constraint (λ r. r) g c)
  numbers_below always h = tt
  numbers_below never h = tt
  numbers_below (conjunction claims) h = claims_below claims h

module _ (R : Document) (all : List Document) (W : List Document) (rules : List Coded) (inner : List ℕ) (n : AreNumbered R all W rules) (at : AreAt all inner W) where
  long : length inner ≡ length W
  long = sym (length-map inner (schema_at all)) ∙ ap length at.0

  are_placed : ArePlaced (λ x r m. PartsBelow r m (asked_of x)) rules inner
  are_placed = record {
    parts = λ r x e. subst (λ k. PartsBelow r k (asked_of x)) (sym long) (n.parts r x e);
    inside = subst (λ k. Each (λ q. q < k) inner) (sym n.sizes) at.1;
  }

  schema_of_place : (p : ℕ) → p < length W → schema_at all (slice_index inner p) ≡ schema_at W p
  schema_of_place p l = sym (get_or-map (schema_at all) inner p 0 (boolean false) (subst (λ k. p < k) (sym long) l)) ∙ ap (λ ss. schema_at ss p) at.0

  is_numbering : IsNumbering R all (map (numbered inner) rules)
  is_numbering = record {
    count = length-map rules (numbered inner) ∙ n.sizes;
    asks = λ r c h.
        let x = coded_found (numbered inner) rules r c h in
        let a = asked_of x.0 in
        n.asks r x.0 x.1
        ∙ ap said (names_same r (length W) (schema_at all) (schema_at all) (schema_at W) (λ p. schema_at all (slice_index inner p)) (λ d l. refl) (λ p l. sym (schema_of_place p l)) a (n.parts r x.0 x.1)
        ∙ sym (twice (schema_at all) (schema_at all) (λ k. k) (slice_index inner) a) ∙ ap (map_constraint (schema_at all) (schema_at all)) x.2);
    below = λ r c h.
        let x = coded_found (numbered inner) rules r c h in
        subst (PartsBelow r (length all)) x.2
        (numbers_below (slice_index inner) (length W) (length all) (λ p l. All-get_or (λ q. q < length all) inner p 0 (subst (λ k. p < k) (sym long) l) (All-from_recursion (λ q. q < length all) inner at.1)) r (asked_of x.0) (n.parts r x.0 x.1));
  }

-- ---- the last rule is that of the root

below_or_last : (r n k : ℕ) → k ≡ n + 1 → r < k → (r < n) ⊎ (n ≡ r)
below_or_last r n k e l = ⊎_map (λ (b : r < n). b) (λ (b : n ≤ r). let c : n ≤ r = b in omega (arith, e, l, c)) (cases_lt r n)

-- a schema that asks the same stands for the last
module _ (R : Document) (front : List Document) (s t : Document) (W : List Document) (rules : List Coded) (same : said (constraint_of R t) ≡ said (constraint_of R s)) (n : AreNumbered R (front ++ s ∷ []) W rules) where
  sizes : length rules ≡ length front + 1
  sizes = n.sizes ∙ length-append front (s ∷ [])

  kept : (d : ℕ) → d < length front → schema_at (front ++ s ∷ []) d ≡ schema_at (front ++ t ∷ []) d
  kept d l = sym (at_front front (s ∷ []) d l) ∙ at_front front (t ∷ []) d l

  itself : (r : ℕ) → (r < length front) ⊎ (length front ≡ r) → said (constraint_of R (schema_at (front ++ t ∷ []) r)) ≡ said (constraint_of R (schema_at (front ++ s ∷ []) r))
  itself r (inl l) = ap (λ d. said (constraint_of R d)) (sym (kept r l))
  itself r (inr e) = ap (λ d. said (constraint_of R d)) (get_or_push front t (boolean false) r e) ∙ same ∙ ap (λ d. said (constraint_of R d)) (sym (get_or_push front s (boolean false) r e))

  not_above : (r d : ℕ) → (r < length front) ⊎ (length front ≡ r) → d < r → d < length front
  not_above r d (inl l) b = omega (arith, l, b)
  not_above r d (inr e) b = omega (arith, e, b)

  renamed : AreNumbered R (front ++ t ∷ []) W rules
  renamed = record {
    sizes = sizes ∙ sym (length-append front (t ∷ []));
    asks = λ r x e.
        let place = below_or_last r (length front) (length rules) sizes (slice_get_within rules r x e) in
        itself r place ∙ n.asks r x e
        ∙ ap said (names_same r (length W) (schema_at (front ++ s ∷ [])) (schema_at (front ++ t ∷ [])) (schema_at W) (schema_at W) (λ d b. kept d (not_above r d place b)) (λ p b. refl) (asked_of x) (n.parts r x e));
    parts = n.parts;
  }

-- ---- the whole

schemas_perm : (v : SchemaValue) (ds : List Ranked) → IsPermutation (definitions_of v) (map definition ds) → Same (bodies v) (map schema_of ds)
schemas_perm v ds perm =
    let value : Entry Document → Document = λ e. e.1 in
    joined (equal _ _ (sym (map-map value (λ m. (_, _)) v.definitions))) (joined (IsPermutation-map value (definitions_of v) (map definition ds) perm) (equal _ _ (map-map value definition ds)))

module _ (v : SchemaValue) (whole : IsWhole v) (ds : List Ranked) (p : Placement) (k : ℕ) (new : State)
    (perm : IsPermutation (definitions_of v) (map definition ds)) (ranked : AreRanked (document_of v) ds) (all : ArePlacedBy (document_of v) ds p)
    (root : Places p.numbers p.numberer new (schema_view v.root) k) where
  abbrev R : Document
  R = document_of v

  abbrev s : Document
  s = schema_view v.root

  abbrev front : List Document
  front = placed_with ds ++ before s

  abbrev pub first : List Document
  first = front ++ R ∷ []

  abbrev same_first : first ≡ placed_with ds ++ (before s ++ R ∷ [])
  same_first = append_assoc (placed_with ds) (before s) (R ∷ [])

  pub first_numbered : AreNumberedBy R first new
  first_numbered =
      let placed = root.1 R (placed_with ds) all.numbered (each_of (IsKnown R p.numbers (placed_with ds)) (all_known R ds p ranked all) (direct_names s)) in
      let whole_front : placed_with ds ++ placed_by s ≡ front ++ s ∷ [] = ap (λ xs. placed_with ds ++ xs) (placed_last s) ∙ sym (append_assoc (placed_with ds) (before s) (s ∷ [])) in
      renamed R front s R (waiting new.pending.items) new.rules.items (root_said R (unless_no_map (definitions_view v.definitions)) s) (subst (λ xs. AreNumberedBy R xs new) whole_front placed.0)

  pub first_known : (n : List ℕ) → IsKnown R p.numbers first n
  first_known n = subst (λ xs. IsKnown R p.numbers xs n) (sym same_first) (known_more R p.numbers (placed_with ds) (before s ++ R ∷ []) n (all_known R ds p ranked all n))

  -- its rule is the last
  pub root_last : length new.rules.items ≡ length front + 1
  root_last = first_numbered.sizes ∙ length-append front (R ∷ [])

  module _ (last : State) (inner : List ℕ) (long : length inner ≡ length last.pending.items) (w : PlacesWaiting R first (waiting new.pending.items) last inner) where
    abbrev W : List Document
    W = waiting last.pending.items

    wide : length inner ≡ length W
    wide = long ∙ sym (length-map last.pending.items (λ (b : Bor Schema). schema_view b.now))

    at_all : AreAt (first ++ w.more) inner W
    at_all = subst (AreAt (first ++ w.more) inner) (take_all (length inner) W (omega (arith, wide))) w.inside

    pub placed_all : ∥ ArePlaced (λ x r m. PartsBelow r m (asked_of x)) last.rules.items inner ∥₁
    placed_all = ∣ are_placed R (first ++ w.more) W last.rules.items inner w.numbered at_all ∣₁

    counted : Same (rules_of R) (first ++ w.more)
    counted =
        joined (root_counted v whole.bare (map schema_of ds) (schemas_perm v ds perm))
        (joined (equal _ _ (ap₂ (λ xs ys. xs ++ inside ys) (sym same_first) (sym (root.0 ∙ ap (λ xs. xs ++ left_by s) all.waits))))
        (joined w.same (equal _ _ (ap (λ ss. (first ++ w.more) ++ inside ss) (drop_all (length inner) W (omega (arith, wide))) ∙ append-nil (first ++ w.more)))))

    pub rooted : (number : ℕ) → number + 1 ≡ length new.rules.items → IsRooted R last.rules.items inner number
    rooted number e =
        let at : length front ≡ number = omega (arith, e, root_last) in
        record {
          all = first ++ w.more;
          are = counted;
          numbering = is_numbering R (first ++ w.more) W last.rules.items inner w.numbered at_all;
          root = got_front first w.more number R (ap (slice_get first) (sym at) ∙ got_last front R);
        }
