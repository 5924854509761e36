-- What is told of an object's rule is told once: the pieces of the list are by different tags, which rise along it.
use Rattle.std.proofs.Common.{◌≡◌, ℕ, zero, suc, ◌≤◌, ◌<◌, Bool, true, false, List, [], ◌∷◌, ◌++◌, Option, None, Some, refl, subst, arith}
use Rattle.std.specs.Prelude.{ℤ, String, slice_get, is_some, length}
use Rattle.std.specs.Option.{option_map_or}
use Rattle.std.specs.List.{list_any}
use Rattle.std.specs.declared.alloc.Global.{Global}
use Rattle.std.proofs.lemmas.Option.{same_Some}
use Rattle.cs_document.specs.Document.{Document, Entry, under}
use Rattle.cs_document.specs.Opened.{Opened, an_integer, a_text, a_list, an_object}
use Rattle.cs_table.specs.Judged.{AllVerdicts}
use Rattle.cs_profile.specs.declared.keyword.Keyword.TheVariants as keyword
use Rattle.cs_profile.specs.declared.schema.Keywords.{Keywords}
use Rattle.cs_validity_reasons.specs.CauseLists.{unless, all_unless, each_from, any_told, upper_told, lower_told, integer_told, length_told, text_told, reference_told, part_told, alternative_told, negation_told, here_told, missing_told, front_told, rest_told, value_told, named_told, other_told, fronts_told, rests_told, list_told, all_named_told, others_told, map_told, kind_told, object_told}
use Rattle.cs_validate.specs.declared.rules.Conjunction.{Conjunction}
use Rattle.cs_validity_reasons.specs.Led.{PlacedCause}
use Rattle.cs_validity_reasons.specs.declared.cause.KeyedCause.TheVariants.{Reference, Part, Alternative, Property, Additional, Prefix, Items, Missing, Keyword}
use Rattle.cs_validity_reasons.proofs.Once.{AreOnce, once_both, once_unless, once_each}

-- where the list tells a cause: its piece, and its place there
abbrev tag : PlacedCause → ℕ
tag (Keyword keyword.Type) = 0
tag (Keyword keyword.Const) = 1
tag (Keyword keyword.Enum) = 2
tag (Keyword keyword.Ref) = 3
tag (Reference item q) = 4
tag (Part item q k) = 5
tag (Alternative item q k) = 6
tag (Keyword keyword.Not) = 7
tag (Keyword keyword.Maximum) = 8
tag (Keyword keyword.ExclusiveMaximum) = 9
tag (Keyword keyword.Minimum) = 10
tag (Keyword keyword.ExclusiveMinimum) = 11
tag (Keyword keyword.MaxLength) = 12
tag (Keyword keyword.MinLength) = 13
tag (Keyword keyword.MaxItems) = 14
tag (Keyword keyword.MinItems) = 15
tag (Prefix k item q) = 16
tag (Items k item q) = 17
tag (Keyword keyword.MaxProperties) = 18
tag (Keyword keyword.MinProperties) = 19
tag (Missing k) = 20
tag (Property k item q) = 21
tag (Additional k item q) = 22
tag _ = 23

abbrev place : PlacedCause → ℕ
place (Part item q k) = k
place (Alternative item q k) = k
place (Prefix k item q) = k
place (Items k item q) = k
place (Missing k) = k
place (Property k item q) = k
place (Additional k item q) = k
place _ = 0

-- ---- lists by their tags

abbrev Between : ℕ → ℕ → PlacedCause → Type 0
Between a b c = (a ≤ tag c) × (tag c < b)

abbrev Each : (PlacedCause → Type 0) → List PlacedCause → Type 0
Each P cs = (j : ℕ) (c : PlacedCause) → slice_get cs j ≡ Some c → P c

record AreTagged (a b : ℕ) (cs : List PlacedCause) : Type 0 where
  once : AreOnce cs
  between : Each (Between a b) cs

module _ (P : PlacedCause → Type 0) where
  each_both : (cs ds : List PlacedCause) → Each P cs → Each P ds → Each P (cs ++ ds)
  each_both [] ds a b j c e = b j c e
  each_both (x ∷ cs) ds a b zero c e = a zero c e
  each_both (x ∷ cs) ds a b (suc j) c e = each_both cs ds (λ k. a (suc k)) b j c e

  each_one : (c : PlacedCause) → P c → Each P (c ∷ [])
  each_one c p zero d e = subst P (same_Some c d e) p
  each_one c p (suc j) d e = cc

  each_none : Each P []
  each_none j c e = cc

  each_unless : (b : Bool) (c : PlacedCause) → P c → Each P (unless b c)
  each_unless true c p = each_none
  each_unless false c p = each_one c p

once_none : AreOnce []
once_none j k c h l = cc

tagged_none : (a b : ℕ) → AreTagged a b []
tagged_none a b = record { once = once_none; between = each_none (Between a b) }

tagged_unless : (b : Bool) (c : PlacedCause) → AreTagged (tag c) (suc (tag c)) (unless b c)
tagged_unless b c = record { once = once_unless b c; between = each_unless (Between (tag c) (suc (tag c))) b c (omega arith, omega arith) }

tagged_wider : (a b lo hi : ℕ) (cs : List PlacedCause) → lo ≤ a → b ≤ hi → AreTagged a b cs → AreTagged lo hi cs
tagged_wider a b lo hi cs l h t = record { once = t.once; between = λ j c e. let p = t.between j c e in let u = p.0 in let v = p.1 in (omega (arith, u, l), omega (arith, v, h)) }

tagged_both : (a m b : ℕ) (cs ds : List PlacedCause) → a ≤ m → m ≤ b → AreTagged a m cs → AreTagged m b ds → AreTagged a b (cs ++ ds)
tagged_both a m b cs ds l h s t =
    let front = tagged_wider a m a b cs (omega arith) h s in
    let back = tagged_wider m b a b ds l (omega arith) t in
    record { once = once_both cs ds s.once t.once apart; between = each_both (Between a b) cs ds front.between back.between }
  where
    apart : (j k : ℕ) (c : PlacedCause) → slice_get cs j ≡ Some c → slice_get ds k ≡ Some c → ⊥
    apart j k c u v = let p = (s.between j c u).1 in let q = (t.between k c v).0 in omega (arith, p, q)

-- causes at one place of a piece
record AreAt (t n : ℕ) (cs : List PlacedCause) : Type 0 where
  once : AreOnce cs
  placed : Each (λ c. place c ≡ n) cs
  tagged : Each (λ c. tag c ≡ t) cs

at_unless : (b : Bool) (c : PlacedCause) → AreAt (tag c) (place c) (unless b c)
at_unless b c = record { once = once_unless b c; placed = each_unless (λ d. place d ≡ place c) b c refl; tagged = each_unless (λ d. tag d ≡ tag c) b c refl }

at_none : (t n : ℕ) → AreAt t n []
at_none t n = record { once = once_none; placed = each_none (λ d. place d ≡ n); tagged = each_none (λ d. tag d ≡ t) }

module _ {X : Type 0} (g : ℕ → X → List PlacedCause) (t : ℕ) (at : (n : ℕ) (x : X) → AreAt t n (g n x)) where
  each_between : (n : ℕ) (xs : List X) → Each (Between t (suc t)) (each_from g n xs)
  each_between n [] = each_none (Between t (suc t))
  each_between n (x ∷ xs) =
      each_both (Between t (suc t)) (g n x) (each_from g (suc n) xs)
      (λ j c e. let p = (at n x).tagged j c e in (omega (arith, p), omega (arith, p))) (each_between (suc n) xs)

  tagged_each : (n : ℕ) (xs : List X) → AreTagged t (suc t) (each_from g n xs)
  tagged_each n xs = record { once = once_each g place (λ m x. (at m x).once) (λ m x. (at m x).placed) n xs; between = each_between n xs }

module _ {S : Type 0} (a b : ℕ) (g : S → List PlacedCause) (are : (s : S) → AreTagged a b (g s)) where
  tagged_or : (o : Option S) → AreTagged a b (option_map_or g o [])
  tagged_or None = tagged_none a b
  tagged_or (Some s) = are s

-- ---- the pieces

any_tagged : (c : Conjunction) (d : Document) (x : Opened ℕ) → AreTagged 0 3 (any_told c d x)
any_tagged c d x =
    tagged_both 0 1 3 _ _ (omega arith) (omega arith) (tagged_unless _ (Keyword keyword.Type))
    (tagged_both 1 2 3 _ _ (omega arith) (omega arith) (tagged_unless _ (Keyword keyword.Const)) (tagged_unless _ (Keyword keyword.Enum)))

upper_tagged : (k : Keywords) (n : ℤ) → AreTagged 8 10 (upper_told k n)
upper_tagged k n = tagged_both 8 9 10 _ _ (omega arith) (omega arith) (tagged_unless _ (Keyword keyword.Maximum)) (tagged_unless _ (Keyword keyword.ExclusiveMaximum))

lower_tagged : (k : Keywords) (n : ℤ) → AreTagged 10 12 (lower_told k n)
lower_tagged k n = tagged_both 10 11 12 _ _ (omega arith) (omega arith) (tagged_unless _ (Keyword keyword.Minimum)) (tagged_unless _ (Keyword keyword.ExclusiveMinimum))

integer_tagged : (k : Keywords) (n : ℤ) → AreTagged 8 12 (integer_told k n)
integer_tagged k n = tagged_both 8 10 12 (upper_told k n) (lower_told k n) (omega arith) (omega arith) (upper_tagged k n) (lower_tagged k n)

module _ (f : AllVerdicts) (i : ℕ) where
  reference_tagged : (s : Option (String Global)) (o : Option ℕ) → AreTagged 3 5 (reference_told f i s o)
  reference_tagged None o = tagged_none 3 5
  reference_tagged (Some s) None = tagged_wider 3 4 3 5 (Keyword keyword.Ref ∷ []) (omega arith) (omega arith) (tagged_unless false (Keyword keyword.Ref))
  reference_tagged (Some s) (Some q) = tagged_wider 4 5 3 5 (unless (f i q) (Reference i q)) (omega arith) (omega arith) (tagged_unless (f i q) (Reference i q))

  parts_tagged : (qs : List ℕ) → AreTagged 5 6 (each_from (part_told f i) 0 qs)
  parts_tagged qs = tagged_each (part_told f i) 5 (λ k q. at_unless (f i q) (Part i q k)) 0 qs

  all_tagged : (b : Bool) (qs : List ℕ) → AreTagged 6 7 (all_unless b (each_from (alternative_told f i) 0 qs))
  all_tagged true qs = tagged_none 6 7
  all_tagged false qs = tagged_each (alternative_told f i) 6 (λ k q. at_unless false (Alternative i q k)) 0 qs

  negation_tagged : (o : Option ℕ) → AreTagged 7 8 (negation_told f i o)
  negation_tagged o = tagged_unless _ (Keyword keyword.Not)

  here_tagged : (c : Conjunction) → AreTagged 3 8 (here_told f i c)
  here_tagged c =
      tagged_both 3 5 8 _ _ (omega arith) (omega arith) (reference_tagged c.keywords.now.reference c.reference)
      (tagged_both 5 6 8 _ _ (omega arith) (omega arith) (parts_tagged c.all_of.items)
      (tagged_both 6 7 8 _ _ (omega arith) (omega arith) (all_tagged (list_any (f i) c.any_of.items) c.any_of.items) (negation_tagged c.negated)))

text_tagged : (k : Keywords) (s : List ℕ) → AreTagged 12 14 (text_told k s)
text_tagged k s = tagged_both 12 13 14 _ _ (omega arith) (omega arith) (tagged_unless _ (Keyword keyword.MaxLength)) (tagged_unless _ (Keyword keyword.MinLength))

module _ (f : AllVerdicts) where
  front_at : (k : ℕ) (p : ℕ × ℕ) → AreAt 16 k (front_told f k p)
  front_at k (q, y) = at_unless (f y q) (Prefix k y q)

  value_at : (k q : ℕ) (o : Option ℕ) → AreAt 21 k (value_told f k q o)
  value_at k q None = at_none 21 k
  value_at k q (Some y) = at_unless (f y q) (Property k y q)

module _ (f : AllVerdicts) (inner : List ℕ) (c : Conjunction) where
  fronts_tagged : (ys : List ℕ) → AreTagged 16 17 (fronts_told f inner c ys)
  fronts_tagged ys = tagged_each (front_told f) 16 (front_at f) 0 _

  rests_tagged : (ys : List ℕ) → AreTagged 17 18 (rests_told f inner c ys)
  rests_tagged ys = tagged_or 17 18 _ (λ s. tagged_each (rest_told f _) 17 (λ k y. at_unless _ (Items k y _)) _ _) c.keywords.now.rest

  size_tagged : (ys : List ℕ) → AreTagged 14 16 (length_told (c.keywords.now.max_items, keyword.MaxItems) (c.keywords.now.min_items, keyword.MinItems) (length ys))
  size_tagged ys = tagged_both 14 15 16 _ _ (omega arith) (omega arith) (tagged_unless _ (Keyword keyword.MaxItems)) (tagged_unless _ (Keyword keyword.MinItems))

  list_tagged : (ys : List ℕ) → AreTagged 14 18 (list_told f inner c ys)
  list_tagged ys =
      tagged_both 14 16 18 _ _ (omega arith) (omega arith) (size_tagged ys)
      (tagged_both 16 17 18 _ _ (omega arith) (omega arith) (fronts_tagged ys) (rests_tagged ys))

  missing_tagged : (ms : List (Entry ℕ)) → AreTagged 20 21 (each_from (missing_told ms) 0 c.required)
  missing_tagged ms = tagged_each (missing_told ms) 20 (λ k n. at_unless (is_some (under n ms)) (Missing k)) 0 c.required

  all_named_tagged : (ms : List (Entry ℕ)) → AreTagged 21 22 (all_named_told f inner c ms)
  all_named_tagged ms = tagged_each (named_told f ms) 21 (λ k e. value_at f k e.1 (under e.0 ms)) 0 _

  others_tagged : (ms : List (Entry ℕ)) → AreTagged 22 23 (others_told f inner c ms)
  others_tagged ms = tagged_or 22 23 _ (λ s. tagged_each (other_told f _ _) 22 (λ k m. at_unless _ (Additional k m.1 _)) 0 ms) c.keywords.now.additional

  count_tagged : (ms : List (Entry ℕ)) → AreTagged 18 20 (length_told (c.keywords.now.max_properties, keyword.MaxProperties) (c.keywords.now.min_properties, keyword.MinProperties) (length ms))
  count_tagged ms = tagged_both 18 19 20 _ _ (omega arith) (omega arith) (tagged_unless _ (Keyword keyword.MaxProperties)) (tagged_unless _ (Keyword keyword.MinProperties))

  map_tagged : (ms : List (Entry ℕ)) → AreTagged 18 23 (map_told f inner c ms)
  map_tagged ms =
      tagged_both 18 20 23 _ _ (omega arith) (omega arith) (count_tagged ms)
      (tagged_both 20 21 23 _ _ (omega arith) (omega arith) (missing_tagged ms)
      (tagged_both 21 22 23 _ _ (omega arith) (omega arith) (all_named_tagged ms) (others_tagged ms)))

  kind_tagged : (x : Opened ℕ) → AreTagged 8 23 (kind_told f inner c x)
  kind_tagged (an_integer n) = tagged_wider 8 12 8 23 (integer_told c.keywords.now n) (omega arith) (omega arith) (integer_tagged c.keywords.now n)
  kind_tagged (a_text s) = tagged_wider 12 14 8 23 (text_told c.keywords.now s) (omega arith) (omega arith) (text_tagged c.keywords.now s)
  kind_tagged (a_list ys) = tagged_wider 14 18 8 23 (list_told f inner c ys) (omega arith) (omega arith) (list_tagged ys)
  kind_tagged (an_object ms) = tagged_wider 18 23 8 23 (map_told f inner c ms) (omega arith) (omega arith) (map_tagged ms)
  kind_tagged _ = tagged_none 8 23

pub object_once : (f : AllVerdicts) (inner : List ℕ) (i : ℕ) (d : Document) (x : Opened ℕ) (c : Conjunction) → AreOnce (object_told f inner i d x c)
object_once f inner i d x c =
    (tagged_both 0 3 23 _ _ (omega arith) (omega arith) (any_tagged c d x)
    (tagged_both 3 8 23 (here_told f i c) (kind_told f inner c x) (omega arith) (omega arith) (here_tagged f i c) (kind_tagged f inner c x))).once
