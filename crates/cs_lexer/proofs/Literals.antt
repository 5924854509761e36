-- A text, byte by byte, is what its parts say.
use Rattle.std.proofs.Common.{◌≡◌, ℕ, zero, suc, ◌+◌, ◌-◌, ◌*◌, ◌<◌, ◌≤◌, List, [], ◌∷◌, ◌++◌, length, Bool, true, false, Option, Some, None, refl, sym, ap, subst, ◌∙◌, arith}
use Rattle.std.proofs.lemmas.Bool.Decides.{nat_tests}
use Rattle.std.specs.Prelude.{◌==◌, ◌||◌, nat_lt, nat_le, encode_utf8}
use Rattle.std.specs.List.{list_all}
use Rattle.std.proofs.lemmas.Bool.{and_parts, eqb-true}
use Rattle.cs_lexer.specs.declared.text.TextState.{TextState}
use Rattle.cs_lexer.specs.declared.text.TextState.TheVariants.{Inside, Escaped, Digits}
use Rattle.cs_grammar.specs.Spelling.{is_hex_digit, digit_value, escape_value, is_character, is_nothing, hex_number}
use Rattle.cs_grammar.specs.TextParts.{TextParts, ends, plain, escape, four, eight}
use Rattle.cs_lexer.specs.Automaton.{closes, characters}

-- more digits make no number smaller
number_grows : (n : ℕ) (ds : List ℕ) → n ≤ hex_number n ds
number_grows n [] = omega arith
number_grows n (x ∷ ds) = omega (arith, number_grows (n * 16 + digit_value x) ds)

character_small : (v : ℕ) → is_character v ≡ true → v ≤ 1114111
character_small v h = grind (arith, nat_tests)

-- ---- what has these parts is a text

-- the digits of an escape by number, all but the last of them and the last
more_digits : (left n x : ℕ) (ys : List ℕ) → is_hex_digit x ≡ true → n * 16 + digit_value x ≤ 1114111
    → (closes (Digits (suc (suc left)) n) (x ∷ ys) ≡ closes (Digits (suc left) (n * 16 + digit_value x)) ys) × (characters (Digits (suc (suc left)) n) (x ∷ ys) ≡ characters (Digits (suc left) (n * 16 + digit_value x)) ys)
more_digits left n x ys hex small =
    let more : nat_lt 1 (suc (suc left)) ≡ true = grind (arith, nat_tests) in
    let fits : nat_le (n * 16 + digit_value x) 1114111 ≡ true = grind (arith, nat_tests) in
    let less : suc (suc left) - 1 ≡ suc left = omega arith in
    (rw (hex, more, fits, less) refl, rw (hex, more, fits, less) refl)

last_digit : (n x : ℕ) (ys : List ℕ) → is_hex_digit x ≡ true → is_character (n * 16 + digit_value x) ≡ true
    → (closes (Digits 1 n) (x ∷ ys) ≡ closes Inside ys) × (characters (Digits 1 n) (x ∷ ys) ≡ encode_utf8 (n * 16 + digit_value x) ++ characters Inside ys)
last_digit n x ys hex good = (rw (hex, good) refl, rw (hex, good) refl)

digits_pass : (left n : ℕ) (ds xs : List ℕ) → length ds ≡ suc left → list_all is_hex_digit ds ≡ true → is_character (hex_number n ds) ≡ true
    → (closes (Digits (suc left) n) (ds ++ xs) ≡ closes Inside xs) × (characters (Digits (suc left) n) (ds ++ xs) ≡ encode_utf8 (hex_number n ds) ++ characters Inside xs)
digits_pass left n [] xs len hex good = let never : ⊥ = omega arith in absurd never
digits_pass zero n (x ∷ []) xs len hex good = last_digit n x xs (and_parts (is_hex_digit x) true hex).0 good
digits_pass (suc left) n (x ∷ []) xs len hex good = let never : ⊥ = omega arith in absurd never
digits_pass zero n (x ∷ y ∷ ds) xs len hex good = let never : ⊥ = omega arith in absurd never
digits_pass (suc left) n (x ∷ y ∷ ds) xs len hex good =
    let h = and_parts (is_hex_digit x) (list_all is_hex_digit (y ∷ ds)) hex in
    let small : n * 16 + digit_value x ≤ 1114111 = omega (arith, number_grows (n * 16 + digit_value x) (y ∷ ds), character_small (hex_number n (x ∷ y ∷ ds)) good) in
    let first = more_digits left n x ((y ∷ ds) ++ xs) h.0 small in
    let rest = digits_pass left (n * 16 + digit_value x) (y ∷ ds) xs (omega arith) h.1 good in
    (first.0 ∙ rest.0, first.1 ∙ rest.1)

pub plain_step : (x : ℕ) → (x == 34 || x == 92 || x == 10) ≡ false → ((x == 34) ≡ false) × ((x == 92) ≡ false) × ((x == 10) ≡ false)
plain_step x h = (grind (arith, nat_tests), grind (arith, nat_tests), grind (arith, nat_tests))

none_is : {c : ℕ} → ◌≡◌ {A = Option ℕ} None (Some c) → ⊥
none_is e = cc

pub escape_letter : (x c : ℕ) → escape_value x ≡ Some c → ((x == 117) ≡ false) × ((x == 85) ≡ false)
escape_letter x c h = (by_u (x == 117) refl, by_U (x == 85) refl)
  where
    by_u : (b : Bool) → (x == 117) ≡ b → b ≡ false
    by_u true e = absurd (none_is (subst (λ y. escape_value y ≡ Some c) (eqb-true x 117 e) h))
    by_u false e = refl

    by_U : (b : Bool) → (x == 85) ≡ b → b ≡ false
    by_U true e = absurd (none_is (subst (λ y. escape_value y ≡ Some c) (eqb-true x 85 e) h))
    by_U false e = refl

pub parts_close : {xs cs : List ℕ} → TextParts xs cs → (closes Inside xs ≡ true) × (characters Inside xs ≡ cs)
parts_close ends = (refl, refl)
parts_close (plain {x} {xs} {cs} h k) = let p = plain_step x h in let r = parts_close k in (rw (p.0, p.1, p.2) r.0, rw (p.0, p.1, p.2) (ap (λ us. x ∷ us) r.1))
parts_close (escape {x} {c} {xs} {cs} h k) = let p = escape_letter x c h in let r = parts_close k in (rw (p.0, p.1, h) r.0, rw (p.0, p.1, h) (ap (λ us. c ∷ us) r.1))
parts_close (four {a} {b} {c} {d} {xs} {cs} h k) =
    let p = digits_pass 3 0 (a ∷ b ∷ c ∷ d ∷ []) xs refl h.digits h.character in
    let r = parts_close k in
    (p.0 ∙ r.0, p.1 ∙ ap (λ us. encode_utf8 (hex_number 0 (a ∷ b ∷ c ∷ d ∷ [])) ++ us) r.1)
parts_close (eight {a} {b} {c} {d} {e} {f} {g} {h} {xs} {cs} i k) =
    let p = digits_pass 7 0 (a ∷ b ∷ c ∷ d ∷ e ∷ f ∷ g ∷ h ∷ []) xs refl i.digits i.character in
    let r = parts_close k in
    (p.0 ∙ r.0, p.1 ∙ ap (λ us. encode_utf8 (hex_number 0 (a ∷ b ∷ c ∷ d ∷ e ∷ f ∷ g ∷ h ∷ [])) ++ us) r.1)

-- ---- a text has these parts

-- so many digits that go on the number n, and what is behind them
record Numbered (left n : ℕ) (xs cs : List ℕ) : Type 0 where
  pub digits : List ℕ
  pub rest : List ℕ
  pub behind : List ℕ
  pub is : xs ≡ digits ++ rest
  pub count : length digits ≡ left
  pub hex : list_all is_hex_digit digits ≡ true
  pub character : is_character (hex_number n digits) ≡ true
  pub literal : TextParts rest behind
  pub made : cs ≡ encode_utf8 (hex_number n digits) ++ behind

abbrev Behind : TextState → List ℕ → List ℕ → Type 0
Behind Inside xs cs = TextParts xs cs
Behind Escaped xs cs = TextParts (92 ∷ xs) cs
Behind (Digits left n) xs cs = 0 < left → Numbered left n xs cs

one_more : (left n x : ℕ) (xs cs : List ℕ) → is_hex_digit x ≡ true → 0 < left → Numbered (left - 1) (n * 16 + digit_value x) xs cs → Numbered left n (x ∷ xs) cs
one_more left n x xs cs hex some r = record {
  digits = x ∷ r.digits;
  rest = r.rest;
  behind = r.behind;
  is = ap (λ us. x ∷ us) r.is;
  count = omega (arith, r.count);
  hex = rw hex r.hex;
  character = r.character;
  literal = r.literal;
  made = r.made;
}

four_of : {xs cs : List ℕ} → Numbered 4 0 xs cs → TextParts (92 ∷ 117 ∷ xs) cs
four_of {xs} {cs} h = made h.digits h.count h.hex h.character h.is h.made
  where
    made : (ds : List ℕ) → length ds ≡ 4 → list_all is_hex_digit ds ≡ true → is_character (hex_number 0 ds) ≡ true → xs ≡ ds ++ h.rest → cs ≡ encode_utf8 (hex_number 0 ds) ++ h.behind → TextParts (92 ∷ 117 ∷ xs) cs
    made [] len hex good e f = let never : ⊥ = omega arith in absurd never
    made (a ∷ []) len hex good e f = let never : ⊥ = omega arith in absurd never
    made (a ∷ b ∷ []) len hex good e f = let never : ⊥ = omega arith in absurd never
    made (a ∷ b ∷ c ∷ []) len hex good e f = let never : ⊥ = omega arith in absurd never
    made (a ∷ b ∷ c ∷ d ∷ []) len hex good e f = rw (e, f) (four (record { digits = hex; character = good }) h.literal)
    made (a ∷ b ∷ c ∷ d ∷ x ∷ ds) len hex good e f = let never : ⊥ = omega arith in absurd never

eight_of : {xs cs : List ℕ} → Numbered 8 0 xs cs → TextParts (92 ∷ 85 ∷ xs) cs
eight_of {xs} {cs} n = made n.digits n.count n.hex n.character n.is n.made
  where
    made : (ds : List ℕ) → length ds ≡ 8 → list_all is_hex_digit ds ≡ true → is_character (hex_number 0 ds) ≡ true → xs ≡ ds ++ n.rest → cs ≡ encode_utf8 (hex_number 0 ds) ++ n.behind → TextParts (92 ∷ 85 ∷ xs) cs
    made [] len hex good p q = let never : ⊥ = omega arith in absurd never
    made (a ∷ []) len hex good p q = let never : ⊥ = omega arith in absurd never
    made (a ∷ b ∷ []) len hex good p q = let never : ⊥ = omega arith in absurd never
    made (a ∷ b ∷ c ∷ []) len hex good p q = let never : ⊥ = omega arith in absurd never
    made (a ∷ b ∷ c ∷ d ∷ []) len hex good p q = let never : ⊥ = omega arith in absurd never
    made (a ∷ b ∷ c ∷ d ∷ e ∷ []) len hex good p q = let never : ⊥ = omega arith in absurd never
    made (a ∷ b ∷ c ∷ d ∷ e ∷ f ∷ []) len hex good p q = let never : ⊥ = omega arith in absurd never
    made (a ∷ b ∷ c ∷ d ∷ e ∷ f ∷ g ∷ []) len hex good p q = let never : ⊥ = omega arith in absurd never
    made (a ∷ b ∷ c ∷ d ∷ e ∷ f ∷ g ∷ h ∷ []) len hex good p q = rw (p, q) (eight (record { digits = hex; character = good }) n.literal)
    made (a ∷ b ∷ c ∷ d ∷ e ∷ f ∷ g ∷ h ∷ x ∷ ds) len hex good p q = let never : ⊥ = omega arith in absurd never

pub nothing_is : (xs : List ℕ) → is_nothing xs ≡ true → xs ≡ []
nothing_is [] h = refl
nothing_is (x ∷ xs) h = absurd cc

module _ (x : ℕ) (xs : List ℕ) (again : (s : TextState) → closes s xs ≡ true → Behind s xs (characters s xs)) where
  inside_step : (q b l : Bool) → (x == 34) ≡ q → (x == 92) ≡ b → (x == 10) ≡ l → closes Inside (x ∷ xs) ≡ true → TextParts (x ∷ xs) (characters Inside (x ∷ xs))
  inside_step true b l eq eb el h =
      let is : x ≡ 34 = grind (arith, nat_tests) in
      let none : xs ≡ [] = nothing_is xs (rw eq at h) in
      rw (is, none) ends
  inside_step false true l eq eb el h =
      let is : x ≡ 92 = grind (arith, nat_tests) in
      let k : closes Escaped xs ≡ true = rw (eq, eb) at h in
      subst (λ y. TextParts (y ∷ xs) (characters Inside (y ∷ xs))) (sym is) (again Escaped k)
  inside_step false false true eq eb el h = let k : false ≡ true = rw (eq, eb, el) at h in absurd cc
  inside_step false false false eq eb el h =
      let k : closes Inside xs ≡ true = rw (eq, eb, el) at h in
      let p : (x == 34 || x == 92 || x == 10) ≡ false = rw (eq, eb, el) refl in
      rw (eq, eb, el) (plain p (again Inside k))

  escaped_step : (u v : Bool) (o : Option ℕ) → (x == 117) ≡ u → (x == 85) ≡ v → escape_value x ≡ o → closes Escaped (x ∷ xs) ≡ true → TextParts (92 ∷ x ∷ xs) (characters Escaped (x ∷ xs))
  escaped_step true v o eu ev eo h =
      let is : x ≡ 117 = grind (arith, nat_tests) in
      let k : closes (Digits 4 0) xs ≡ true = rw eu at h in
      subst (λ y. TextParts (92 ∷ y ∷ xs) (characters Escaped (y ∷ xs))) (sym is) (four_of (again (Digits 4 0) k (omega arith)))
  escaped_step false true o eu ev eo h =
      let is : x ≡ 85 = grind (arith, nat_tests) in
      let k : closes (Digits 8 0) xs ≡ true = rw (eu, ev) at h in
      subst (λ y. TextParts (92 ∷ y ∷ xs) (characters Escaped (y ∷ xs))) (sym is) (eight_of (again (Digits 8 0) k (omega arith)))
  escaped_step false false None eu ev eo h = let k : false ≡ true = rw (eu, ev, eo) at h in absurd cc
  escaped_step false false (Some c) eu ev eo h =
      let k : closes Inside xs ≡ true = rw (eu, ev, eo) at h in
      rw (eu, ev, eo) (escape eo (again Inside k))

  module _ (left n : ℕ) where
    digits_step : (d m g : Bool) → is_hex_digit x ≡ d → nat_lt 1 left ≡ m → (nat_le (n * 16 + digit_value x) 1114111) ≡ g → (c : Bool) → is_character (n * 16 + digit_value x) ≡ c → closes (Digits left n) (x ∷ xs) ≡ true → 0 < left → Numbered left n (x ∷ xs) (characters (Digits left n) (x ∷ xs))
    digits_step false m g ed em eg c ec h some = let k : false ≡ true = rw ed at h in absurd cc
    digits_step true true false ed em eg c ec h some = let k : false ≡ true = rw (ed, em, eg) at h in absurd cc
    digits_step true true true ed em eg c ec h some =
        let k : closes (Digits (left - 1) (n * 16 + digit_value x)) xs ≡ true = rw (ed, em, eg) at h in
        let same : characters (Digits left n) (x ∷ xs) ≡ characters (Digits (left - 1) (n * 16 + digit_value x)) xs = rw (ed, em, eg) refl in
        subst (λ cs. Numbered left n (x ∷ xs) cs) (sym same) (one_more left n x xs (characters (Digits (left - 1) (n * 16 + digit_value x)) xs) ed some (again (Digits (left - 1) (n * 16 + digit_value x)) k (grind (arith, nat_tests))))
    digits_step true false g ed em eg false ec h some = let k : false ≡ true = rw (ed, em, ec) at h in absurd cc
    digits_step true false g ed em eg true ec h some =
        let k : closes Inside xs ≡ true = rw (ed, em, ec) at h in
        record {
          digits = x ∷ [];
          rest = xs;
          behind = characters Inside xs;
          is = refl;
          count = grind (arith, nat_tests);
          hex = rw ed refl;
          character = ec;
          literal = again Inside k;
          made = rw (ed, em, ec) refl;
        }

  step : (s : TextState) → closes s (x ∷ xs) ≡ true → Behind s (x ∷ xs) (characters s (x ∷ xs))
  step Inside h = inside_step (x == 34) (x == 92) (x == 10) refl refl refl h
  step Escaped h = escaped_step (x == 117) (x == 85) (escape_value x) refl refl refl h
  step (Digits left n) h = digits_step left n (is_hex_digit x) (nat_lt 1 left) (nat_le (n * 16 + digit_value x) 1114111) refl refl refl (is_character (n * 16 + digit_value x)) refl h

has_parts : (xs : List ℕ) (s : TextState) → closes s xs ≡ true → Behind s xs (characters s xs)
has_parts [] s h = absurd cc
has_parts (x ∷ xs) s h = step x xs (has_parts xs) s h

pub parts_of : (xs : List ℕ) → closes Inside xs ≡ true → TextParts xs (characters Inside xs)
parts_of xs h = has_parts xs Inside h
