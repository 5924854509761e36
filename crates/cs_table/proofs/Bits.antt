-- A verdict is got from its bit, a bit that is set keeps the others, and so does a row that is taken.
use Rattle.std.proofs.Common.{◌≡◌, ◌≢◌, ℕ, ◌<◌, ◌≤◌, ◌+◌, ◌-◌, ◌*◌, ◌/◌, ◌%◌, ◌^◌, max, ⊎_elim, zero, suc, Bool, true, false, ◌||◌, List, ◌++◌, length, length-append, append_assoc, length-drop, get_or, take, drop, replicate, slice_set, bit_or, nat_eq, refl, sym, ap, ◌∙◌, arith, rules}
use Rattle.std.proofs.Math.Nat.{zero-mul}
use Rattle.std.proofs.lemmas.Bool.{cases_eq, cases_lt}
use Rattle.std.proofs.lemmas.Grind.{get_or-set_at}
use Rattle.std.proofs.lemmas.List.{places, get_or_default, get_or_past, get_or-set_other, get_or-append_right, get_or-drop, get_or-replicate, length-take-le, length-set, length-replicate}
use Rattle.std.proofs.lemmas.List.FromFn.{length-map-range_with_len, get_or-map-range_with_len}
use Rattle.std.proofs.lemmas.Nat.{one_shl, div-mul-add, mod-mul-add}
use Rattle.std.proofs.lemmas.Nat.Bits.{bit_at-zero, bit_at-lt, bit_at_or, bit_at-pow_same, bit_at-pow_other}
use Rattle.std.specs.Int.{bit_at}
use Rattle.std.specs.List.{copy_within}
use Rattle.cs_table.specs.Filled.{AreBlankFrom, OtherItemsStay, OtherPairsStay}
use Rattle.cs_table.specs.Judged.{Table, verdicts}
use Rattle.cs_table.specs.Kept.{width_of, bit_of, is_yes, kept}
use mir.Val.{bool_byte}

-- what a table of these bytes stands for
abbrev pub table_of : List ℕ → ℕ → ℕ → ℕ → Table
table_of bytes width items rules = record { items = items; rules = rules; given = kept bytes width items rules }

pub length-kept : (bytes : List ℕ) (width items rules : ℕ) → length (kept bytes width items rules) ≡ items * rules
length-kept bytes width items rules = length-map-range_with_len (λ k. is_yes bytes width (k / rules) (k % rules)) 0 (items * rules)

-- a place in a row is before the end of all rows
pub within_rows : (i n width k : ℕ) → i < n → k < width → i * width + k < n * width
within_rows i n width k l m = grind arith

-- and so is the end of each row
pub ends : (i n width : ℕ) → i < n → i * width + width ≤ n * width
ends i n width l = grind arith

past_rows : (i n width k : ℕ) → n ≤ i → n * width ≤ i * width + k
past_rows i n width k l = grind arith

-- a place is in one row
row_of : (i j width a b : ℕ) → a < width → b < width → i * width + a ≡ j * width + b → i ≡ j
row_of i j width a b l m e = sym (div-mul-add i width a l) ∙ ap (λ k. k / width) e ∙ div-mul-add j width b m

-- the byte of a rule is one of its row
pub byte_within : (rules r : ℕ) → r < rules → r / 8 < width_of rules
byte_within rules r l = omega arith

pub byte_there : (bytes : List ℕ) (width items rules i r : ℕ) → width ≡ width_of rules → length bytes ≡ items * width → i < items → r < rules → i * width + r / 8 < length bytes
byte_there bytes width items rules i r wide full l m = omega (arith, within_rows i items width (r / 8) l (omega (arith, byte_within rules r m)))

-- the verdict of a pair, which is no past the items
pub got : (bytes : List ℕ) (width items rules i r : ℕ) → length bytes ≡ items * width → r < rules → verdicts (table_of bytes width items rules) i r ≡ is_yes bytes width i r
got bytes width items rules i r full l =
    let k = i * rules + r in
    ⊎_elim
    (λ (m : i < items). get_or-map-range_with_len (λ n. is_yes bytes width (n / rules) (n % rules)) 0 (items * rules) k k false (within_rows i items rules r m l) (omega arith) ∙ ap (λ n. is_yes bytes width n (k % rules)) (div-mul-add i rules r l) ∙ ap (λ n. is_yes bytes width i n) (mod-mul-add i rules r l))
    (λ (m : items ≤ i).
    get_or_past (kept bytes width items rules) k false (omega (arith, length-kept bytes width items rules, past_rows i items rules r m))
    ∙ sym (ap (λ n. nat_eq n 1) (ap (λ b. bit_at b (r % 8)) (get_or_past bytes (i * width + r / 8) 0 (omega (arith, past_rows i items width (r / 8) m))) ∙ bit_at-zero (r % 8))))
    (cases_lt i items)

-- a verdict that is shifted to place j of a byte is there, and leaves the other places
there : (v : Bool) (j : ℕ) → j < 8 → bit_at (bool_byte v * 2 ^ j % 2 ^ 8) j ≡ bool_byte v
there true j l = ap (λ x. bit_at x j) (one_shl j 8 l) ∙ bit_at-pow_same j
there false j l = ap (λ x. bit_at (x % 2 ^ 8) j) (zero-mul (2 ^ j)) ∙ bit_at-zero j

elsewhere : (v : Bool) (j i : ℕ) → j < 8 → i ≢ j → bit_at (bool_byte v * 2 ^ j % 2 ^ 8) i ≡ 0
elsewhere true j i l apart = ap (λ x. bit_at x i) (one_shl j 8 l) ∙ bit_at-pow_other j i apart
elsewhere false j i l apart = ap (λ x. bit_at (x % 2 ^ 8) i) (zero-mul (2 ^ j)) ∙ bit_at-zero i

is_either : (n : ℕ) (v : Bool) → n < 2 → nat_eq (max n (bool_byte v)) 1 ≡ (nat_eq n 1 || v)
is_either zero true l = refl
is_either zero false l = refl
is_either (suc zero) true l = refl
is_either (suc zero) false l = refl
is_either (suc (suc n)) v l = absurd (omega (arith, l))

-- the verdict v, given to the pair i, r: it is set in the byte b
module _ (bytes : List ℕ) (width items rules i r b : ℕ) (v : Bool) (wide : width ≡ width_of rules) (full : length bytes ≡ items * width) (of_items : i < items) (of_rules : r < rules) (read : b ≡ get_or bytes (i * width + r / 8) b) where
  abbrev place : ℕ
  place = i * width + r / 8

  abbrev bit : ℕ
  bit = bool_byte v * 2 ^ (r % 8) % 2 ^ 8

  abbrev more : List ℕ
  more = slice_set bytes place (bit_or b bit)

  inside : place < length bytes
  inside = byte_there bytes width items rules i r wide full of_items of_rules

  -- a place of that byte
  of_byte : (j q : ℕ) → j * width + q / 8 ≡ place → bit_of more width j q ≡ max (bit_of bytes width j q) (bit_at bit (q % 8))
  of_byte j q e =
      ap (λ x. bit_at x (q % 8)) (get_or-set_at bytes place (j * width + q / 8) (bit_or b bit) 0 e inside)
      ∙ bit_at_or b bit (q % 8)
      ∙ ap (λ x. max (bit_at x (q % 8)) (bit_at bit (q % 8))) (read ∙ get_or_default bytes place b 0 inside ∙ ap (λ k. get_or bytes k 0) (sym e))

  here : is_yes more width i r ≡ (is_yes bytes width i r || v)
  here =
      ap (λ n. nat_eq n 1) (of_byte i r refl ∙ ap (λ n. max (bit_of bytes width i r) n) (there v (r % 8) (omega arith)))
      ∙ is_either (bit_of bytes width i r) v (bit_at-lt (get_or bytes place 0) (r % 8))

  not_here : (j q : ℕ) → q < rules → (j ≡ i → q ≢ r) → is_yes more width j q ≡ is_yes bytes width j q
  not_here j q l apart = ap (λ n. nat_eq n 1) (⊎_elim
      (λ (e : j * width + q / 8 ≡ place).
      let same : j ≡ i = row_of j i width (q / 8) (r / 8) (omega (arith, byte_within rules q l)) (omega (arith, byte_within rules r of_rules)) e in
      of_byte j q e ∙ omega (arith, elsewhere v (r % 8) (q % 8) (omega arith) (λ m. apart same (omega (arith, ap (λ k. k * width) same)))))
      (λ (e : j * width + q / 8 ≢ place). ap (λ x. bit_at x (q % 8)) (get_or-set_other bytes place (j * width + q / 8) (bit_or b bit) 0 e))
      (cases_eq (j * width + q / 8) place))

  more_full : length more ≡ items * width
  more_full = length-set bytes place (bit_or b bit) ∙ full

  pub given : verdicts (table_of more width items rules) i r ≡ (verdicts (table_of bytes width items rules) i r || v)
  given = got more width items rules i r more_full of_rules ∙ here ∙ ap (λ x. x || v) (sym (got bytes width items rules i r full of_rules))

  pub others_given : OtherPairsStay i r (table_of bytes width items rules) (table_of more width items rules)
  others_given j q l apart = got more width items rules j q more_full l ∙ not_here j q l apart ∙ sym (got bytes width items rules j q full l)

-- bytes from a place on, copied from other bytes
abbrev pub copied : List ℕ → List ℕ → ℕ → ℕ → ℕ → List ℕ
copied bytes other at from width = take at bytes ++ (take width (drop from other) ++ drop (at + width) bytes)

-- some of the bytes themselves
pub copied_within : (bytes : List ℕ) (at from width : ℕ) → copy_within bytes from (from + width) at ≡ copied bytes bytes at from width
copied_within bytes at from width =
    ap (λ n. take at bytes ++ take n (drop from bytes) ++ drop (at + n) bytes) (let same : from + width - from ≡ width = omega arith in same)
    ∙ append_assoc (take at bytes) (take width (drop from bytes)) (drop (at + width) bytes)

module _ (bytes other : List ℕ) (at from width : ℕ) (to_end : at + width ≤ length bytes) (from_end : from + width ≤ length other) where
  length-before : length (take at bytes) ≡ at
  length-before = length-take-le at bytes (omega arith)

  length-row : length (take width (drop from other)) ≡ width
  length-row = length-take-le width (drop from other) (omega (arith, length-drop from other))

  length-copied : length (copied bytes other at from width) ≡ length bytes
  length-copied =
      length-append (take at bytes) (take width (drop from other) ++ drop (at + width) bytes)
      ∙ omega (arith, length-before, length-append (take width (drop from other)) (drop (at + width) bytes), length-row, length-drop (at + width) bytes)

  copied_here : (b : ℕ) → b < width → get_or (copied bytes other at from width) (at + b) 0 ≡ get_or other (from + b) 0
  copied_here b h = search (rules, places)

  copied_before : (k : ℕ) → k < at → get_or (copied bytes other at from width) k 0 ≡ get_or bytes k 0
  copied_before k h = search (rules, places)

  copied_after : (k : ℕ) → at + width ≤ k → get_or (copied bytes other at from width) k 0 ≡ get_or bytes k 0
  copied_after k h =
      get_or-append_right (take at bytes) (take width (drop from other) ++ drop (at + width) bytes) at k 0 length-before (omega arith)
      ∙ get_or-append_right (take width (drop from other)) (drop (at + width) bytes) width (k - at) 0 length-row (omega arith)
      ∙ get_or-drop (at + width) bytes (k - at - width) 0
      ∙ ap (λ n. get_or bytes n 0) (omega arith)

-- the row of the item i, taken from the row p of other bytes
module _ (bytes other : List ℕ) (width items others rules i p : ℕ) (wide : width ≡ width_of rules) (full : length bytes ≡ items * width) (other_full : length other ≡ others * width) (of_items : i < items) (of_others : p < others) where
  to_end : i * width + width ≤ length bytes
  to_end = omega (arith, ends i items width of_items)

  from_end : p * width + width ≤ length other
  from_end = omega (arith, ends p others width of_others)

  abbrev taken : List ℕ
  taken = copied bytes other (i * width) (p * width) width

  taken_full : length taken ≡ items * width
  taken_full = length-copied bytes other (i * width) (p * width) width to_end from_end ∙ full

  row_stays : (j b : ℕ) → b < width → j ≢ i → get_or taken (j * width + b) 0 ≡ get_or bytes (j * width + b) 0
  row_stays j b h apart = ⊎_elim
      (λ (e : j < i). copied_before bytes other (i * width) (p * width) width to_end from_end (j * width + b) (within_rows j i width b e h))
      (λ (e : i ≤ j). copied_after bytes other (i * width) (p * width) width to_end from_end (j * width + b) (omega (arith, ends i j width (omega arith))))
      (cases_lt j i)

  byte_of : (r : ℕ) → r < rules → r / 8 < width
  byte_of r l = omega (arith, byte_within rules r l)

  pub as_taken : (r : ℕ) → r < rules → verdicts (table_of taken width items rules) i r ≡ verdicts (table_of other width others rules) p r
  as_taken r l =
      got taken width items rules i r taken_full l
      ∙ ap (λ x. nat_eq (bit_at x (r % 8)) 1) (copied_here bytes other (i * width) (p * width) width to_end from_end (r / 8) (byte_of r l))
      ∙ sym (got other width others rules p r other_full l)

  pub others_stay : OtherItemsStay i (table_of bytes width items rules) (table_of taken width items rules)
  others_stay j r l apart =
      got taken width items rules j r taken_full l
      ∙ ap (λ x. nat_eq (bit_at x (r % 8)) 1) (row_stays j (r / 8) (byte_of r l) apart)
      ∙ sym (got bytes width items rules j r full l)

zeros : (n k : ℕ) → get_or (replicate {A = ℕ} n 0) k 0 ≡ 0
zeros n k = ⊎_elim
    (λ (l : k < n). get_or-replicate n k 0 0 l)
    (λ (l : n ≤ k). get_or_past (replicate n 0) k 0 (omega (arith, length-replicate {A = ℕ} n 0)))
    (cases_lt k n)

-- where all bytes are 0 there is no verdict
pub all_blank : (bytes : List ℕ) (width items rules : ℕ) → bytes ≡ replicate {A = ℕ} (items * width) 0 → AreBlankFrom 0 (table_of bytes width items rules)
all_blank bytes width items rules is i r l _ =
    got bytes width items rules i r (ap length is ∙ length-replicate (items * width) 0) l
    ∙ ap (λ n. nat_eq (bit_at n (r % 8)) 1) (ap (λ b. get_or b (i * width + r / 8) 0) is ∙ zeros (items * width) (i * width + r / 8))
    ∙ ap (λ n. nat_eq n 1) (bit_at-zero (r % 8))
