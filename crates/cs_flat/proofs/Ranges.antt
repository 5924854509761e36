-- Packed items stay what they are when what they share grows.
use Rattle.std.proofs.Common.{◌≡◌, ℕ, ◌+◌, ◌-◌, ◌<◌, ◌≤◌, List, [], ◌∷◌, ◌++◌, Some, option_map, length, get_or, map, take, drop, Bor, length-drop, refl, ap, ap₂, ◌∙◌, sym, subst, arith}
use Rattle.std.specs.Prelude.{slice_get, slice_range}
use Rattle.std.specs.List.{AllByRecursion as Each}
use Rattle.std.proofs.Math.Seq.{drop-append_seam}
use Rattle.std.proofs.lemmas.List.{drop-append-le, take-append-le, take_all, map-append, length-map}
use Rattle.std.proofs.lemmas.Option.{slice_get-map, slice_get_read}
use Rattle.cs_document.specs.Opened.{Opened, a_list, an_object}
use Rattle.cs_document.proofs.Each.{each_append, each_map}
use Rattle.cs_flat.specs.View.{entry_of}
use Rattle.cs_flat.specs.Packed.{unpacked, IsWithin}
use Rattle.cs_flat.specs.declared.packed.PackedItem.{PackedItem}
use Rattle.cs_flat.specs.declared.packed.PackedItem.TheVariants.{Null, Bool, Int, Text, List as TheList, Object}
use Rattle.cs_flat.proofs.Ascents.{each_got}

-- ---- ranges of a list with more behind it

range-append : {A : Type 0} (xs ys : List A) (i n : ℕ) → i + n ≤ length xs → slice_range (xs ++ ys) i (i + n) ≡ slice_range xs i (i + n)
range-append xs ys i n l =
    ap (take (i + n - i)) (drop-append-le i xs ys (omega arith)) ∙ take-append-le (i + n - i) (drop i xs) ys (omega (arith, length-drop i xs))

range-behind : {A : Type 0} (xs ys : List A) (i n : ℕ) → i ≡ length xs → n ≡ length ys → slice_range (xs ++ ys) i (i + n) ≡ ys
range-behind xs ys i n at long =
    ap (λ k. take (i + n - i) (drop k (xs ++ ys))) at ∙ ap (take (i + n - i)) (drop-append_seam xs ys) ∙ take_all (i + n - i) ys (omega (arith, long))

-- ---- where the ranges are

within_more : (e f m n : ℕ) → e ≤ f → m ≤ n → (x : PackedItem) → IsWithin e m x → IsWithin f n x
within_more e f m n l k Null h = tt
within_more e f m n l k (Bool b) h = tt
within_more e f m n l k (Int z) h = tt
within_more e f m n l k (Text s) h = tt
within_more e f m n l k (TheList first count) h = omega (arith, l, h)
within_more e f m n l k (Object first count) h = omega (arith, k, h)

pub all_within-push : (e f m n : ℕ) (xs new : List PackedItem) (x : PackedItem) → e ≤ f → m ≤ n → Each (IsWithin e m) xs → IsWithin f n x → new ≡ xs ++ x ∷ [] → Each (IsWithin f n) new
all_within-push e f m n xs new x l k h here is =
    subst (Each (IsWithin f n)) (sym is) (each_append (IsWithin f n) xs (x ∷ []) (each_map (IsWithin e m) (IsWithin f n) (within_more e f m n l k) xs h) (here, tt))

-- ---- items

module _ (es more : List ℕ) (ms : List (Bor (List ℕ) × ℕ)) where
  with_elements : (x : PackedItem) → IsWithin (length es) (length ms) x → unpacked (es ++ more) ms x ≡ unpacked es ms x
  with_elements Null h = refl
  with_elements (Bool b) h = refl
  with_elements (Int n) h = refl
  with_elements (Text s) h = refl
  with_elements (TheList first count) h = ap a_list (range-append es more first count h)
  with_elements (Object first count) h = refl

  pub all_with_elements : (xs : List PackedItem) → Each (IsWithin (length es) (length ms)) xs → map (unpacked (es ++ more) ms) xs ≡ map (unpacked es ms) xs
  all_with_elements [] h = refl
  all_with_elements (x ∷ xs) h = ap₂ ◌∷◌ (with_elements x h.0) (all_with_elements xs h.1)

  pub list-pushed : (all : List ℕ) (old new : List PackedItem) (first count : ℕ) → Each (IsWithin (length es) (length ms)) old → all ≡ es ++ more → first ≡ length es → count ≡ length more
      → new ≡ old ++ TheList first count ∷ [] → map (unpacked all ms) new ≡ map (unpacked es ms) old ++ a_list more ∷ []
  list-pushed all old new first count within grown at long is =
      ap₂ (λ (ys : List ℕ) (xs : List PackedItem). map (unpacked ys ms) xs) grown is
      ∙ map-append (unpacked (es ++ more) ms) old (TheList first count ∷ [])
      ∙ ap₂ (λ (xs : List (Opened ℕ)) (ys : List ℕ). xs ++ a_list ys ∷ []) (all_with_elements old within) (range-behind es more first count at long)

module _ (es : List ℕ) (ms more : List (Bor (List ℕ) × ℕ)) where
  with_entries : (x : PackedItem) → IsWithin (length es) (length ms) x → unpacked es (ms ++ more) x ≡ unpacked es ms x
  with_entries Null h = refl
  with_entries (Bool b) h = refl
  with_entries (Int n) h = refl
  with_entries (Text s) h = refl
  with_entries (TheList first count) h = refl
  with_entries (Object first count) h = ap (λ xs. an_object (map entry_of xs)) (range-append ms more first count h)

  pub all_with_entries : (xs : List PackedItem) → Each (IsWithin (length es) (length ms)) xs → map (unpacked es (ms ++ more)) xs ≡ map (unpacked es ms) xs
  all_with_entries [] h = refl
  all_with_entries (x ∷ xs) h = ap₂ ◌∷◌ (with_entries x h.0) (all_with_entries xs h.1)

  pub object-pushed : (all : List (Bor (List ℕ) × ℕ)) (old new : List PackedItem) (first count : ℕ) → Each (IsWithin (length es) (length ms)) old → all ≡ ms ++ more → first ≡ length ms → count ≡ length more
      → new ≡ old ++ Object first count ∷ [] → map (unpacked es all) new ≡ map (unpacked es ms) old ++ an_object (map entry_of more) ∷ []
  object-pushed all old new first count within grown at long is =
      ap₂ (λ (ys : List (Bor (List ℕ) × ℕ)) (xs : List PackedItem). map (unpacked es ys) xs) grown is
      ∙ map-append (unpacked es (ms ++ more)) old (Object first count ∷ [])
      ∙ ap₂ (λ (xs : List (Opened ℕ)) (ys : List (Bor (List ℕ) × ℕ)). xs ++ an_object (map entry_of ys) ∷ []) (all_with_entries old within) (range-behind ms more first count at long)

-- ---- the item at a place

module _ (es : List ℕ) (ms : List (Bor (List ℕ) × ℕ)) (xs : List PackedItem) (all : List (Opened ℕ)) (i : ℕ) (shown : map (unpacked es ms) xs ≡ all) (below : i < length all) where
  pub is_among : i < length xs
  is_among = omega (arith, ap length shown, length-map xs (unpacked es ms), below)

  packed_at : (x : PackedItem) → x ≡ get_or xs i x → slice_get xs i ≡ Some x
  packed_at x at = slice_get_read xs (length xs) i x refl is_among at

  pub item_at : (x : PackedItem) → x ≡ get_or xs i x → slice_get all i ≡ Some (unpacked es ms x)
  item_at x at =
      subst (λ ys. slice_get ys i ≡ Some (unpacked es ms x)) shown (slice_get-map (unpacked es ms) xs i ∙ ap (option_map (unpacked es ms)) (packed_at x at))

  pub within_at : (x : PackedItem) → x ≡ get_or xs i x → Each (IsWithin (length es) (length ms)) xs → IsWithin (length es) (length ms) x
  within_at x at h = each_got (IsWithin (length es) (length ms)) xs i x h (packed_at x at)
