-- Elements of lists: by their places, of lists that are mapped, and what stands under keys.
use Rattle.std.proofs.Common.{◌≡◌, ℕ, zero, suc, true, false, List, [], ◌∷◌, Option, Some, None, map, option_map, if◌then◌else◌, inl, inr, flat_map, Contains, refl, sym, ap, ◌∙◌, subst, arith}
use Rattle.std.specs.Prelude.{slice_get}
use Rattle.std.specs.Str.{bytes_eq}
use Rattle.std.proofs.lemmas.Option.{slice_get-map, slice_get_within, slice_get-get_or, get_or_from_slice_get, same_Some}
use Rattle.std.proofs.lemmas.List.Elements.{Contains-append_left, Contains-append_right, Contains-append_cases}
use Rattle.cs_document.specs.Document.{Entry, under}
use Rattle.cs_document.specs.Inside.{map_entry}

pub place_of : {X : Type 0} (xs : List X) (x : X) → Contains xs x → (k : ℕ) × (slice_get xs k ≡ Some x)
place_of xs x c = (c.0, slice_get-get_or xs c.0 x c.1 ∙ ap (λ y. Some y) c.2)

pub at_place : {X : Type 0} (xs : List X) (x : X) (k : ℕ) → slice_get xs k ≡ Some x → Contains xs x
at_place xs x k e = (k, slice_get_within xs k x e, get_or_from_slice_get xs k x x e)

-- ---- lists that are mapped

pub got_map : {X Y : Type 0} (f : X → Y) (xs : List X) (k : ℕ) (x : X) → slice_get xs k ≡ Some x → slice_get (map f xs) k ≡ Some (f x)
got_map f xs k x e = slice_get-map f xs k ∙ ap (option_map f) e

some_mapped : {X Y : Type 0} (f : X → Y) (o : Option X) (y : Y) → option_map f o ≡ Some y → (x : X) × (o ≡ Some x) × (f x ≡ y)
some_mapped f (Some x) y e = (x, refl, same_Some (f x) y e)
some_mapped f None y e = cc

pub got_map_back : {X Y : Type 0} (f : X → Y) (xs : List X) (k : ℕ) (y : Y) → slice_get (map f xs) k ≡ Some y → (x : X) × (slice_get xs k ≡ Some x) × (f x ≡ y)
got_map_back f xs k y e = some_mapped f (slice_get xs k) y (sym (slice_get-map f xs k) ∙ e)

pub contains_map : {X Y : Type 0} (f : X → Y) (xs : List X) (x : X) → Contains xs x → Contains (map f xs) (f x)
contains_map f xs x c = let p = place_of xs x c in at_place (map f xs) (f x) p.0 (got_map f xs p.0 x p.1)

pub contains_map_back : {X Y : Type 0} (f : X → Y) (xs : List X) (y : Y) → Contains (map f xs) y → (x : X) × Contains xs x × (f x ≡ y)
contains_map_back f xs y c =
    let p = place_of (map f xs) y c in
    let q = got_map_back f xs p.0 y p.1 in
    (q.0, at_place xs q.0 p.0 q.1, q.2)

-- ---- what stands under a key

pub under_map : {X Y : Type 0} (f : X → Y) (k : List ℕ) (ms : List (Entry X)) → under k (map (map_entry f) ms) ≡ option_map f (under k ms)
under_map f k [] = refl
under_map f k (m ∷ ms) =
    elim (bytes_eq k m.0) as (λ t. (if t then Some (f m.1) else under k (map (map_entry f) ms)) ≡ option_map f (if t then Some m.1 else under k ms)) [ true ↦ refl | false ↦ under_map f k ms ]

pub found_map : {X Y : Type 0} (f : X → Y) (k : List ℕ) (ms : List (Entry X)) (x : X) → under k ms ≡ Some x → under k (map (map_entry f) ms) ≡ Some (f x)
found_map f k ms x e = under_map f k ms ∙ ap (option_map f) e

pub found_map_back : {X Y : Type 0} (f : X → Y) (k : List ℕ) (ms : List (Entry X)) (y : Y) → under k (map (map_entry f) ms) ≡ Some y → (x : X) × (under k ms ≡ Some x) × (f x ≡ y)
found_map_back f k ms y e = some_mapped f (under k ms) y (sym (under_map f k ms) ∙ e)

pub missed_map : {X Y : Type 0} (f : X → Y) (k : List ℕ) (ms : List (Entry X)) → under k ms ≡ None → under k (map (map_entry f) ms) ≡ None
missed_map f k ms e = under_map f k ms ∙ ap (option_map f) e

none_mapped : {X Y : Type 0} (f : X → Y) (o : Option X) → option_map f o ≡ None → o ≡ None
none_mapped f (Some x) e = cc
none_mapped f None e = refl

pub missed_map_back : {X Y : Type 0} (f : X → Y) (k : List ℕ) (ms : List (Entry X)) → under k (map (map_entry f) ms) ≡ None → under k ms ≡ None
missed_map_back f k ms e = none_mapped f (under k ms) (sym (under_map f k ms) ∙ e)

-- ---- lists one behind the other

module _ {X Y : Type 0} (f : X → List Y) (y : Y) where
  in_one_of : (xs : List X) (k : ℕ) (x : X) → slice_get xs k ≡ Some x → Contains (f x) y → Contains (flat_map f xs) y
  in_one_of [] k x e c = cc
  in_one_of (z ∷ zs) zero x e c = Contains-append_left (f z) (flat_map f zs) y (subst (λ w. Contains (f w) y) (sym (same_Some z x e)) c)
  in_one_of (z ∷ zs) (suc k) x e c = Contains-append_right (f z) (flat_map f zs) y (in_one_of zs k x e c)

  pub in_each : (xs : List X) (x : X) → Contains xs x → Contains (f x) y → Contains (flat_map f xs) y
  in_each xs x m c = let p = place_of xs x m in in_one_of xs p.0 x p.1 c

  pub in_each_back : (xs : List X) → Contains (flat_map f xs) y → (x : X) × Contains xs x × Contains (f x) y
  in_each_back [] c = let l = c.1 in absurd (omega (arith, l))
  in_each_back (z ∷ zs) c =
      elim (Contains-append_cases (f z) (flat_map f zs) y c) [
        | inl h ↦ (z, at_place (z ∷ zs) z 0 refl, h)
        | inr h ↦ let p = in_each_back zs h in let q = place_of zs p.0 p.1 in (p.0, at_place (z ∷ zs) p.0 (suc q.0) q.1, p.2)
      ]

pub in_single : {X : Type 0} (x y : X) → Contains (x ∷ []) y → x ≡ y
in_single x y c = let p = place_of (x ∷ []) y c in first p.0 p.1
  where
    first : (k : ℕ) → slice_get (x ∷ []) k ≡ Some y → x ≡ y
    first zero e = same_Some x y e
    first (suc k) e = cc
