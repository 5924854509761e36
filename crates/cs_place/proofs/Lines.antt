-- How lines and columns go on behind more bytes.
use Rattle.std.proofs.Common.{◌≡◌, ℕ, ◌+◌, ◌-◌, ◌<◌, ◌≤◌, ◌==◌, Bool, true, false, cond, not, List, ◌++◌, [], ◌∷◌, suc, length, reverse, drop, take, count_by, refl, sym, ap, ap₂, ◌∙◌, arith, eq-eqb, length-append}
use Rattle.std.specs.List.{after_last, suffix_len, prefix_len, slice_range}
use Rattle.std.proofs.lemmas.List.{length-reverse, reverse-append, drop-append-le, take-append-drop, take-take}
use Rattle.std.proofs.lemmas.Slice.{between_is}
use Rattle.std.proofs.lemmas.List.Folds.{prefix_len-append}
use Rattle.std.proofs.lemmas.List.Sums.{suffix_len_is, suffix_len-le-length, sum_by-append, sum_by-cons}
use Rattle.std.proofs.Math.Seq.{drop-append-add}
use Rattle.memchr.specs.Find.{Nowhere, NoneAfter, Passes, is_byte}
use Rattle.cs_place.specs.declared.position.Position.{Position}
use Rattle.cs_place.specs.Positions.{ends_line, begins_character, position_behind, position_at}

-- ---- the bytes after the last one that passes

module _ (p : ℕ → Bool) where
  abbrev fails : ℕ → Bool
  fails x = not (p x)

  suffix-append : (xs ys : List ℕ) → suffix_len fails (xs ++ ys) ≡ cond (suffix_len fails ys == length ys) (length ys + suffix_len fails xs) (suffix_len fails ys)
  suffix-append xs ys =
      ap (prefix_len fails) (reverse-append xs ys) ∙ prefix_len-append fails (reverse ys) (reverse xs)
      ∙ ap (λ n. cond (suffix_len fails ys == n) (n + suffix_len fails xs) (suffix_len fails ys)) (length-reverse ys)

  pub after_none : (xs ys : List ℕ) → suffix_len fails ys ≡ length ys → after_last p (xs ++ ys) ≡ after_last p xs ++ ys
  after_none xs ys none =
      let whole : suffix_len fails (xs ++ ys) ≡ length ys + suffix_len fails xs =
      suffix-append xs ys ∙ ap (λ b. cond b (length ys + suffix_len fails xs) (suffix_len fails ys)) (eq-eqb _ _ none) in
      let low : suffix_len fails xs ≤ length xs = suffix_len-le-length fails xs in
      let start : length (xs ++ ys) - suffix_len fails (xs ++ ys) ≡ length xs - suffix_len fails xs = omega (arith, whole, length-append xs ys) in
      ap (λ n. drop n (xs ++ ys)) start ∙ drop-append-le (length xs - suffix_len fails xs) xs ys (omega arith)

  pub after_some : (xs ys : List ℕ) (n : ℕ) → 0 < n → n ≤ length ys → suffix_len fails ys ≡ length ys - n → after_last p (xs ++ ys) ≡ drop n ys
  after_some xs ys n some within at =
      let other : (suffix_len fails ys == length ys) ≡ false = search (arith, at) in
      let whole : suffix_len fails (xs ++ ys) ≡ suffix_len fails ys =
      suffix-append xs ys ∙ ap (λ b. cond b (length ys + suffix_len fails xs) (suffix_len fails ys)) other in
      let start : length (xs ++ ys) - suffix_len fails (xs ++ ys) ≡ length xs + n = omega (arith, whole, length-append xs ys, at) in
      ap (λ n. drop n (xs ++ ys)) start ∙ drop-append-add xs ys n

-- ---- what a search for the last newline says

not_passed : {b : Bool} → (b ≡ true → ⊥) → b ≡ false
not_passed {b = true} h = absurd (h refl)
not_passed {b = false} h = refl

failed : (b : Bool) → (b ≡ true → ⊥) → not b ≡ true
failed true h = absurd (h refl)
failed false h = refl

pub none_ends : (ys : List ℕ) → Nowhere (Passes (is_byte 10) ys) 0 (length ys) → suffix_len (fails ends_line) ys ≡ length ys
none_ends ys none =
    let e : suffix_len (fails ends_line) ys ≡ length ys - 0 =
    suffix_len_is (fails ends_line) ys 0 0 (omega arith) (λ k low high. failed _ (none k low high)) (λ h. absurd (omega arith)) in
    omega (arith, e)

pub none_counted : (ys : List ℕ) → Nowhere (Passes (is_byte 10) ys) 0 (length ys) → count_by ends_line ys ≡ 0
none_counted [] none = refl
none_counted (y ∷ ys) none =
    sum_by-cons (λ x. cond (ends_line x) 1 0) y ys
    ∙ ap₂ (λ b n. cond b 1 0 + n) (not_passed (none 0 (omega arith) (omega arith))) (none_counted ys (λ k low high. none (suc k) (omega arith) (omega arith)))

pub last_ends : (ys : List ℕ) (i : ℕ) → NoneAfter (Passes (is_byte 10) ys) 0 (length ys) i → Passes (is_byte 10) ys i → suffix_len (fails ends_line) ys ≡ length ys - (i + 1)
last_ends ys i none is =
    let high : i < length ys = none.high in
    suffix_len_is (fails ends_line) ys (i + 1) 0 (omega arith) (λ k low up. failed _ (none.after k low up))
    (λ h. let same : i + 1 - 1 ≡ i = omega arith in rw same (ap not is))

-- ---- places

abbrev place : ℕ → ℕ → Position
place l c = record { line = l; column = c }

pub same_line : (xs ys : List ℕ) → Nowhere (Passes (is_byte 10) ys) 0 (length ys)
    → position_behind (xs ++ ys) ≡ record { line = (position_behind xs).line; column = (position_behind xs).column + count_by begins_character ys }
same_line xs ys none =
    let lines : 1 + count_by ends_line (xs ++ ys) ≡ 1 + count_by ends_line xs =
    omega (arith, sum_by-append (λ x. cond (ends_line x) 1 0) xs ys, none_counted ys none) in
    let line_rest : after_last ends_line (xs ++ ys) ≡ after_last ends_line xs ++ ys = after_none ends_line xs ys (none_ends ys none) in
    let columns : 1 + count_by begins_character (after_last ends_line (xs ++ ys)) ≡ 1 + count_by begins_character (after_last ends_line xs) + count_by begins_character ys =
    omega (arith, ap (count_by begins_character) line_rest, sum_by-append (λ x. cond (begins_character x) 1 0) (after_last ends_line xs) ys) in
    ap₂ place lines columns

pub next_line : (xs ys : List ℕ) (i : ℕ) → NoneAfter (Passes (is_byte 10) ys) 0 (length ys) i → Passes (is_byte 10) ys i
    → position_behind (xs ++ ys) ≡ record { line = (position_behind xs).line + count_by ends_line ys; column = 1 + count_by begins_character (drop (i + 1) ys) }
next_line xs ys i none is =
    let high : i < length ys = none.high in
    let lines : 1 + count_by ends_line (xs ++ ys) ≡ 1 + count_by ends_line xs + count_by ends_line ys =
    omega (arith, sum_by-append (λ x. cond (ends_line x) 1 0) xs ys) in
    let line_rest : after_last ends_line (xs ++ ys) ≡ drop (i + 1) ys = after_some ends_line xs ys (i + 1) (omega arith) (omega arith) (last_ends ys i none is) in
    ap₂ place lines (ap (λ l. 1 + count_by begins_character l) line_rest)

-- ---- a part of a text behind what is before it

pub joined : (s : List ℕ) (i j : ℕ) → i ≤ j → take i s ++ slice_range s i j ≡ take j s
joined s i j up =
    ap₂ (λ a b. a ++ b) (sym (take-take i j s up)) (between_is s i j) ∙ take-append-drop i (take j s)

-- the place behind a part of a text, from the place of its first byte
pub onward : (s : List ℕ) (from after : Position) (i j : ℕ) → i ≤ j → from ≡ position_at s i
    → ((before : List ℕ) → from ≡ position_behind before → after ≡ position_behind (before ++ slice_range s i j)) → after ≡ position_at s j
onward s from after i j up is behind = behind (take i s) is ∙ ap position_behind (joined s i j up)
