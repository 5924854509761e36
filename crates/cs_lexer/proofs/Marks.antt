-- The marks are one to three bytes long, and ASCII.
use Rattle.std.proofs.Common.{◌≡◌, ℕ, suc, ◌<◌, ◌≤◌, List, [], ◌∷◌, length, take, Bool, true, false, cond, Option, Some, None, refl, ap, subst, ◌∙◌, arith}
use Rattle.std.proofs.lemmas.List.{length-take-le}
use Rattle.std.proofs.lemmas.Bool.Decides.{nat_tests}
use Rattle.std.proofs.lemmas.Slice.Eq.{bytes_eq-Decides}
use Rattle.std.specs.Prelude.{nat_le, nat_lt, ◌&&◌, ◌||◌}
use Rattle.std.specs.List.{list_all, list_any}
use Rattle.std.specs.Option.{option_map, option_or}
use Rattle.std.specs.Str.{bytes_eq}
use Rattle.cs_grammar.specs.declared.token.Sort.{Sort}
use Rattle.cs_grammar.specs.declared.token.Sort.TheVariants as sorts
use Rattle.cs_grammar.specs.Spelling.{used_marks, left_out_marks, mark_sort}
use Rattle.cs_lexer.specs.Pieces.{mark_of, longest_mark}

-- a text among others has what they all have
module _ (p : List ℕ → Bool) (t : List ℕ) where
  among_step : (m : List ℕ) (ms : List (List ℕ)) (b c : Bool) → bytes_eq t m ≡ b → p m ≡ c → (b || list_any (bytes_eq t) ms) ≡ true → (c && list_all p ms) ≡ true → (list_any (bytes_eq t) ms ≡ true → list_all p ms ≡ true → p t ≡ true) → p t ≡ true
  among_step m ms true true eb ec h k again = rw ((bytes_eq-Decides t m).0 eb) ec
  among_step m ms false true eb ec h k again = again h k
  among_step m ms b false eb ec h k again = absurd cc

  pub among_all : (ms : List (List ℕ)) → list_any (bytes_eq t) ms ≡ true → list_all p ms ≡ true → p t ≡ true
  among_all [] h k = absurd cc
  among_all (m ∷ ms) h k = among_step m ms (bytes_eq t m) (p m) refl refl h k (among_all ms)

-- ---- all marks

abbrev is_short : List ℕ → Bool
is_short t = nat_le (length t) 3

abbrev pub is_ascii_byte : ℕ → Bool
is_ascii_byte x = nat_lt x 128

abbrev is_ascii_text : List ℕ → Bool
is_ascii_text t = list_all is_ascii_byte t

none_is : {s : Sort} → ◌≡◌ {A = Option Sort} None (Some s) → ⊥
none_is e = cc

pub mark_has : (p : List ℕ → Bool) (t : List ℕ) (s : Sort) → list_all p used_marks ≡ true → list_all p left_out_marks ≡ true → mark_sort t ≡ Some s → p t ≡ true
mark_has p t s used left h = has (list_any (bytes_eq t) used_marks) (list_any (bytes_eq t) left_out_marks) refl refl h
  where
    has : (b c : Bool) → list_any (bytes_eq t) used_marks ≡ b → list_any (bytes_eq t) left_out_marks ≡ c → cond b (Some sorts.Mark) (cond c (Some sorts.LeftOut) None) ≡ Some s → p t ≡ true
    has true c eb ec k = among_all p t used_marks eb used
    has false true eb ec k = among_all p t left_out_marks ec left
    has false false eb ec k = absurd (none_is k)

pub mark_ascii : (t : List ℕ) (s : Sort) → mark_sort t ≡ Some s → list_all is_ascii_byte t ≡ true
mark_ascii t s h = mark_has is_ascii_text t s refl refl h

mark_short : (t : List ℕ) (s : Sort) → mark_sort t ≡ Some s → length t ≤ 3
mark_short t s h = let k = mark_has is_short t s refl refl h in grind (arith, nat_tests)

pub mark_long : (t : List ℕ) → 3 < length t → mark_sort t ≡ None
mark_long t lt = long (mark_sort t) refl
  where
    long : (o : Option Sort) → mark_sort t ≡ o → o ≡ None
    long None e = refl
    long (Some s) e = let never : ⊥ = omega (arith, mark_short t s e) in absurd never

-- ---- the longest mark

-- no longer front is a mark
abbrev pub NoneAbove : List ℕ → ℕ → Type 0
NoneAbove bs n = (m : ℕ) → n < m → m ≤ length bs → mark_sort (take m bs) ≡ None

abbrev pub IsLongestMark : List ℕ → Option (Sort × ℕ) → Type 0
IsLongestMark bs None = NoneAbove bs 0
IsLongestMark bs (Some x) = (0 < x.1) × (x.1 ≤ length bs) × (mark_sort (take x.1 bs) ≡ Some x.0) × NoneAbove bs x.1

none_above_3 : (bs : List ℕ) → NoneAbove bs 3
none_above_3 bs m lt le = mark_long (take m bs) (omega (arith, length-take-le m bs le))

-- one length less
lower : (bs : List ℕ) (n : ℕ) → NoneAbove bs (suc n) → (suc n ≤ length bs → mark_sort (take (suc n) bs) ≡ None) → NoneAbove bs n
lower bs n above here m lt le = lowered (nat_le m (suc n)) refl
  where
    lowered : (b : Bool) → nat_le m (suc n) ≡ b → mark_sort (take m bs) ≡ None
    lowered true e = let is : m ≡ suc n = grind (arith, nat_tests) in rw is (here (omega arith))
    lowered false e = above m (grind (arith, nat_tests)) le

step : (bs : List ℕ) (n : ℕ) (rest : Option (Sort × ℕ)) → NoneAbove bs (suc n) → (NoneAbove bs n → IsLongestMark bs rest) → IsLongestMark bs (option_or (mark_of (suc n) bs) rest)
step bs n rest above again = stepped (nat_le (suc n) (length bs)) (mark_sort (take (suc n) bs)) refl refl
  where
    stepped : (b : Bool) (o : Option Sort) → nat_le (suc n) (length bs) ≡ b → mark_sort (take (suc n) bs) ≡ o → IsLongestMark bs (option_or (cond b (option_map (λ s. (s, suc n)) o) None) rest)
    stepped true (Some s) eb eo = (omega arith, grind (arith, nat_tests), eo, above)
    stepped true None eb eo = again (lower bs n above (λ le. eo))
    stepped false o eb eo = again (lower bs n above (λ le. let never : ⊥ = grind (arith, nat_tests) in absurd never))

or_none : (o : Option (Sort × ℕ)) → option_or o None ≡ o
or_none None = refl
or_none (Some x) = refl

pub longest_mark_is : (bs : List ℕ) → IsLongestMark bs (longest_mark bs)
longest_mark_is bs = step bs 2 _ (none_above_3 bs) (λ above2. step bs 1 _ above2 (λ above1. subst (IsLongestMark bs) (or_none (mark_of 1 bs)) (step bs 0 None above1 (λ above0. above0))))

-- ---- one length after another

tests : (n k : ℕ) → (n ≤ k → nat_le n k ≡ true) × (k < n → nat_le n k ≡ false)
tests n k = (λ le. grind (arith, nat_tests), λ lt. grind (arith, nat_tests))

pub tried : (n : ℕ) (bs : List ℕ) (o : Option Sort) → n ≤ length bs → mark_sort (take n bs) ≡ o → mark_of n bs ≡ option_map (λ s. (s, n)) o
tried n bs o le e = ap (λ (b : Bool). cond b (option_map (λ s. (s, n)) (mark_sort (take n bs))) None) ((tests n (length bs)).0 le) ∙ ap (λ (p : Option Sort). option_map (λ s. (s, n)) p) e

pub short : (n : ℕ) (bs : List ℕ) → length bs < n → mark_of n bs ≡ None
short n bs lt = ap (λ (b : Bool). cond b (option_map (λ s. (s, n)) (mark_sort (take n bs))) None) ((tests n (length bs)).1 lt)

pub longest_3 : (bs : List ℕ) (x : Sort × ℕ) → mark_of 3 bs ≡ Some x → longest_mark bs ≡ Some x
longest_3 bs x e = ap (λ (o : Option (Sort × ℕ)). option_or o (option_or (mark_of 2 bs) (mark_of 1 bs))) e

pub longest_2 : (bs : List ℕ) (x : Sort × ℕ) → mark_of 3 bs ≡ None → mark_of 2 bs ≡ Some x → longest_mark bs ≡ Some x
longest_2 bs x no3 e = ap (λ (o : Option (Sort × ℕ)). option_or o (option_or (mark_of 2 bs) (mark_of 1 bs))) no3 ∙ ap (λ (o : Option (Sort × ℕ)). option_or o (mark_of 1 bs)) e

pub longest_1 : (bs : List ℕ) (o : Option (Sort × ℕ)) → mark_of 3 bs ≡ None → mark_of 2 bs ≡ None → mark_of 1 bs ≡ o → longest_mark bs ≡ o
longest_1 bs o no3 no2 e = ap (λ (p : Option (Sort × ℕ)). option_or p (option_or (mark_of 2 bs) (mark_of 1 bs))) no3 ∙ ap (λ (p : Option (Sort × ℕ)). option_or p (mark_of 1 bs)) no2 ∙ e
