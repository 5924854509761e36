-- A bit that is set keeps the others, and a pair has a bit of its own.
use Rattle.std.proofs.Common.{◌≡◌, ◌≢◌, ℕ, ◌<◌, ◌≤◌, ◌+◌, ◌*◌, ◌/◌, ◌%◌, ◌^◌, max, ◌⊎◌, ⊎_elim, inl, inr, zero, suc, Bool, true, false, cond, List, length, get_or, replicate, slice_set, bit_or, nat_eq, refl, sym, ap, ◌∙◌, arith, rules}
use Rattle.std.proofs.lemmas.Bool.{cases_eq, cases_lt, ltb-true}
use Rattle.std.proofs.lemmas.Grind.{get_or-set_at}
use Rattle.std.proofs.lemmas.List.{get_or_default, get_or_past, get_or-set_other, get_or-replicate, length-replicate}
use Rattle.std.proofs.lemmas.Nat.{one_shl, div-mul-add, mod-mul-add}
use Rattle.std.proofs.lemmas.Nat.Bits.{bit_at-zero, bit_at-lt, bit_at_or, bit_at-pow_same, bit_at-pow_other}
use Rattle.std.proofs.lemmas.Bool.Decides.{Decides-ltb, nat_tests}
use Rattle.std.specs.Int.{bit_at}
use Rattle.std.specs.Prelude.{nat_lt}
use Rattle.cs_reasons.specs.Bits.{is_set, set_of}

-- a pair that is there has the bit at its place
pub there : (bytes : List ℕ) (items rules i r : ℕ) → i < items → r < rules → set_of bytes items rules i r ≡ is_set bytes (i * rules + r)
there bytes items rules i r l m =
    ap (λ b. cond b (cond (nat_lt r rules) (is_set bytes (i * rules + r)) false) false) ((Decides-ltb i items).1 l)
    ∙ ap (λ b. cond b (is_set bytes (i * rules + r)) false) ((Decides-ltb r rules).1 m)

both : (a b c : Bool) → cond a (cond b c false) false ≡ true → (a ≡ true) × (b ≡ true) × (c ≡ true)
both true true c e = (refl, refl, e)
both true false c e = (refl, e, absurd (cc))
both false b c e = (e, absurd (cc), absurd (cc))

-- and only such a pair is in a set
pub within : (bytes : List ℕ) (items rules i r : ℕ) → set_of bytes items rules i r ≡ true → (i < items) × (r < rules)
within bytes items rules i r e =
    let h = both (nat_lt i items) (nat_lt r rules) (is_set bytes (i * rules + r)) e in
    (ltb-true i items h.0, ltb-true r rules h.1)

-- a place of a pair is before the end of all
pub before_end : (i n width k : ℕ) → i < n → k < width → i * width + k < n * width
before_end i n width k l m = grind arith

pub byte_there : (bytes : List ℕ) (items rules i r : ℕ) → items * rules ≤ 8 * length bytes → i < items → r < rules → (i * rules + r) / 8 < length bytes
byte_there bytes items rules i r full l m = omega (arith, before_end i items rules r l m)

-- pairs at one place are one
pub item_of : (i j width a b : ℕ) → a < width → b < width → i * width + a ≡ j * width + b → i ≡ j
item_of i j width a b l m e = sym (div-mul-add i width a l) ∙ ap (λ k. k / width) e ∙ div-mul-add j width b m

pub rule_of : (i j width a b : ℕ) → a < width → b < width → i * width + a ≡ j * width + b → a ≡ b
rule_of i j width a b l m e = sym (mod-mul-add i width a l) ∙ ap (λ k. k % width) e ∙ mod-mul-add j width b m

is_one : (n : ℕ) → n < 2 → nat_eq (max n 1) 1 ≡ true
is_one zero l = refl
is_one (suc zero) l = refl
is_one (suc (suc n)) l = absurd (omega (arith, l))

-- the bit at place k is set in the byte b
module _ (bytes : List ℕ) (k b : ℕ) (inside : k / 8 < length bytes) (read : b ≡ get_or bytes (k / 8) b) where
  abbrev bit : ℕ
  bit = 1 * 2 ^ (k % 8) % 2 ^ 8

  abbrev pub more : List ℕ
  more = slice_set bytes (k / 8) (bit_or b bit)

  of_byte : (p : ℕ) → p / 8 ≡ k / 8 → bit_at (get_or more (p / 8) 0) (p % 8) ≡ max (bit_at (get_or bytes (p / 8) 0) (p % 8)) (bit_at bit (p % 8))
  of_byte p e =
      ap (λ x. bit_at x (p % 8)) (get_or-set_at bytes (k / 8) (p / 8) (bit_or b bit) 0 e inside)
      ∙ bit_at_or b bit (p % 8)
      ∙ ap (λ x. max (bit_at x (p % 8)) (bit_at bit (p % 8))) (read ∙ get_or_default bytes (k / 8) b 0 inside ∙ ap (λ n. get_or bytes n 0) (sym e))

  pub here : is_set more k ≡ true
  here =
      ap (λ n. nat_eq n 1) (of_byte k refl ∙ ap (λ n. max (bit_at (get_or bytes (k / 8) 0) (k % 8)) n) (ap (λ x. bit_at x (k % 8)) (one_shl (k % 8) 8 (omega arith)) ∙ bit_at-pow_same (k % 8)))
      ∙ is_one (bit_at (get_or bytes (k / 8) 0) (k % 8)) (bit_at-lt (get_or bytes (k / 8) 0) (k % 8))

  other_bit : (p : ℕ) → p % 8 ≢ k % 8 → bit_at bit (p % 8) ≡ 0
  other_bit p apart = ap (λ x. bit_at x (p % 8)) (one_shl (k % 8) 8 (omega arith)) ∙ bit_at-pow_other (k % 8) (p % 8) apart

  pub elsewhere : (p : ℕ) → p ≢ k → is_set more p ≡ is_set bytes p
  elsewhere p apart = ap (λ n. nat_eq n 1) (⊎_elim
      (λ (e : p / 8 ≡ k / 8). of_byte p e ∙ omega (arith, other_bit p (λ m. apart (omega arith))))
      (λ (e : p / 8 ≢ k / 8). ap (λ x. bit_at x (p % 8)) (get_or-set_other bytes (k / 8) (p / 8) (bit_or b bit) 0 e))
      (cases_eq (p / 8) (k / 8)))

pub not_yes : (b : Bool) → (b ≡ true → ⊥) → b ≡ false
not_yes true h = absurd (h refl)
not_yes false h = refl

pub out : {b : Bool} → (b ≡ true → ⊥) → b ≡ false
out {b} h = not_yes b h

zeros : (n k : ℕ) → get_or (replicate {A = ℕ} n 0) k 0 ≡ 0
zeros n k = ⊎_elim
    (λ (l : k < n). get_or-replicate n k 0 0 l)
    (λ (l : n ≤ k). get_or_past (replicate n 0) k 0 (omega (arith, length-replicate {A = ℕ} n 0)))
    (cases_lt k n)

-- no bit is set where all bytes are 0
pub blank : (n k : ℕ) → is_set (replicate {A = ℕ} n 0) k ≡ false
blank n k = ap (λ n. nat_eq n 1) (ap (λ b. bit_at b (k % 8)) (zeros n (k / 8)) ∙ bit_at-zero (k % 8))

nothing : (a b c : Bool) → c ≡ false → cond a (cond b c false) false ≡ false
nothing true true c e = e
nothing true false c e = refl
nothing false b c e = refl

pub none_in : (bytes : List ℕ) (items rules i r : ℕ) → ((k : ℕ) → is_set bytes k ≡ false) → set_of bytes items rules i r ≡ false
none_in bytes items rules i r e = nothing (nat_lt i items) (nat_lt r rules) (is_set bytes (i * rules + r)) (e (i * rules + r))

same_in : (bytes other : List ℕ) (items rules j q : ℕ) → (rules ≤ q) ⊎ (is_set other (j * rules + q) ≡ is_set bytes (j * rules + q)) → set_of other items rules j q ≡ set_of bytes items rules j q
same_in bytes other items rules j q (inl l) =
    let no : nat_lt q rules ≡ false = grind (arith, nat_tests) in
    ap (λ x. cond (nat_lt j items) (cond x (is_set other (j * rules + q)) false) false) no ∙ sym (ap (λ x. cond (nat_lt j items) (cond x (is_set bytes (j * rules + q)) false) false) no)
same_in bytes other items rules j q (inr e) = ap (λ x. cond (nat_lt j items) (cond (nat_lt q rules) x false) false) e

-- the item of a bit that is set is one with a pair in the set
module _ (bytes : List ℕ) (any : List Bool) (items rules i r b : ℕ) (of_items : i < items) (of_rules : r < rules) (full : items * rules ≤ 8 * length bytes) (flags : length any ≡ items) (read : b ≡ get_or bytes ((i * rules + r) / 8) b) where
  pub inside : (i * rules + r) / 8 < length bytes
  inside = byte_there bytes items rules i r full of_items of_rules

  flag_stays : (j : ℕ) → get_or any j false ≡ true → get_or (slice_set any i true) j false ≡ true
  flag_stays j e = ⊎_elim
      (λ (s : j ≡ i). get_or-set_at any i j true false s (omega arith))
      (λ (s : j ≢ i). get_or-set_other any i j true false s ∙ e)
      (cases_eq j i)

  pub still_shown : ((j q : ℕ) → q < rules → is_set bytes (j * rules + q) ≡ true → get_or any j false ≡ true)
      → (j q : ℕ) → q < rules → is_set (more bytes (i * rules + r) b inside read) (j * rules + q) ≡ true → get_or (slice_set any i true) j false ≡ true
  still_shown shown j q l e = ⊎_elim
      (λ (s : j * rules + q ≡ i * rules + r). get_or-set_at any i j true false (item_of j i rules q r l of_rules s) (omega arith))
      (λ (s : j * rules + q ≢ i * rules + r). flag_stays j (shown j q l (sym (elsewhere bytes (i * rules + r) b inside read (j * rules + q) s) ∙ e)))
      (cases_eq (j * rules + q) (i * rules + r))

  pub now_marked : set_of (more bytes (i * rules + r) b inside read) items rules i r ≡ true
  now_marked = there (more bytes (i * rules + r) b inside read) items rules i r of_items of_rules ∙ here bytes (i * rules + r) b inside read

  pub others_stay : (j q : ℕ) → (j ≡ i → q ≢ r) → set_of (more bytes (i * rules + r) b inside read) items rules j q ≡ set_of bytes items rules j q
  others_stay j q apart = same_in bytes (more bytes (i * rules + r) b inside read) items rules j q (⊎_elim
      (λ (l : q < rules). inr (elsewhere bytes (i * rules + r) b inside read (j * rules + q) (λ s. apart (item_of j i rules q r l of_rules s) (rule_of j i rules q r l of_rules s))))
      (λ (l : rules ≤ q). inl l)
      (cases_lt q rules))

-- no pair past the rules, or with an item past the items or without a flag, is in a set
pub past_rules : (bytes : List ℕ) (items rules i r : ℕ) → rules ≤ r → set_of bytes items rules i r ≡ false
past_rules bytes items rules i r l = out (λ e. let h = (within bytes items rules i r e).1 in omega arith)

pub past_items : (bytes : List ℕ) (items rules i r : ℕ) → items ≤ i → set_of bytes items rules i r ≡ false
past_items bytes items rules i r l = out (λ e. let h = (within bytes items rules i r e).0 in omega arith)

pub without_flag : (bytes : List ℕ) (any : List Bool) (items rules i r : ℕ) → ((j q : ℕ) → q < rules → is_set bytes (j * rules + q) ≡ true → get_or any j false ≡ true)
    → get_or any i false ≡ false → set_of bytes items rules i r ≡ false
without_flag bytes any items rules i r shown e =
    out (λ h. let w = within bytes items rules i r h in
    let there_is = sym (there bytes items rules i r w.0 w.1) ∙ h in
    let yes = shown i r w.1 there_is in cc)

pub no : (b : Bool) → b ≡ false → b ≡ true → ⊥
no true e f = cc
no false e f = cc
