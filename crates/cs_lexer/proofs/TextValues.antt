-- What a text is by its characters and escapes (`text_value`), by its parts (`TextParts`), and to the lexer (`closes`, `characters`): all the same.
use Rattle.std.proofs.Common.{◌≡◌, ℕ, List, [], ◌∷◌, ◌++◌, Bool, true, false, Option, Some, None, drop, cond, option_map, refl, sym, ap, ◌∙◌}
use Rattle.std.proofs.lemmas.Bool.{eqb-true}
use Rattle.std.specs.Prelude.{◌==◌, ◌&&◌, ◌||◌, encode_utf8, is_some}
use Rattle.std.specs.List.{list_all}
use Rattle.std.specs.Option.{unwrap_or}
use Rattle.cs_grammar.specs.declared.token.Sort.TheVariants as sorts
use Rattle.cs_grammar.specs.Spelling.{is_hex_digit, escape_value, is_character, is_nothing, hex_number, numbered, followed, text_value, escaped_value, four_digits_value, eight_digits_value, sort_if, sort_of}
use Rattle.cs_grammar.specs.Values.{unescaped}
use Rattle.cs_grammar.specs.TextParts.{IsNumber, TextParts, ends, plain, escape, four, eight}
use Rattle.cs_lexer.specs.declared.text.TextState.TheVariants.{Inside}
use Rattle.cs_lexer.specs.Automaton.{closes, characters, value_from}
use Rattle.cs_lexer.proofs.Literals.{plain_step, escape_letter, nothing_is, parts_close, parts_of}

-- ---- from the parts to the value

number_value : (ds : List ℕ) → IsNumber ds → numbered ds ≡ Some (encode_utf8 (hex_number 0 ds))
number_value ds h = rw (h.digits, h.character) refl

literal_value : {xs cs : List ℕ} → TextParts xs cs → text_value xs ≡ Some cs
unfolding text_value
literal_value ends = refl
literal_value (plain {x} {xs} {cs} h k) = let p = plain_step x h in rw (p.0, p.1, p.2) (ap (followed (Some (x ∷ []))) (literal_value k))
literal_value (escape {x} {c} {xs} {cs} h k) = let p = escape_letter x c h in rw (p.0, p.1, h) (ap (followed (Some (c ∷ []))) (literal_value k))
literal_value (four {a} {b} {c} {d} {xs} {cs} h k) = rw (number_value (a ∷ b ∷ c ∷ d ∷ []) h) (ap (followed (Some (encode_utf8 (hex_number 0 (a ∷ b ∷ c ∷ d ∷ []))))) (literal_value k))
literal_value (eight {a} {b} {c} {d} {e} {f} {g} {h} {xs} {cs} i k) = rw (number_value (a ∷ b ∷ c ∷ d ∷ e ∷ f ∷ g ∷ h ∷ []) i) (ap (followed (Some (encode_utf8 (hex_number 0 (a ∷ b ∷ c ∷ d ∷ e ∷ f ∷ g ∷ h ∷ []))))) (literal_value k))

-- ---- from the value to the parts

-- a character and the rest of a text
record Both (o p : Option (List ℕ)) (cs : List ℕ) : Type 0 where
  pub first : List ℕ
  pub rest : List ℕ
  pub first_is : o ≡ Some first
  pub rest_is : p ≡ Some rest
  pub is : first ++ rest ≡ cs

some_is : (a b : List ℕ) → Some a ≡ Some b → a ≡ b
some_is a b e = cc

none_is : {cs : List ℕ} → ◌≡◌ {A = Option (List ℕ)} None (Some cs) → ⊥
none_is e = cc

both_of : (o p : Option (List ℕ)) (cs : List ℕ) → followed o p ≡ Some cs → Both o p cs
both_of None p cs e = absurd cc
both_of (Some c) None cs e = absurd cc
both_of (Some c) (Some ds) cs e = record { first = c; rest = ds; first_is = refl; rest_is = refl; is = some_is (c ++ ds) cs e }

record Number (ds c : List ℕ) : Type 0 where
  pub number : IsNumber ds
  pub is : c ≡ encode_utf8 (hex_number 0 ds)

number_of : (ds c : List ℕ) → numbered ds ≡ Some c → Number ds c
number_of ds c e = by (list_all is_hex_digit ds) (is_character (hex_number 0 ds)) refl refl e
  where
    by : (h v : Bool) → list_all is_hex_digit ds ≡ h → is_character (hex_number 0 ds) ≡ v → cond (h && v) (Some (encode_utf8 (hex_number 0 ds))) None ≡ Some c → Number ds c
    by true true eh ev e = record { number = record { digits = eh; character = ev }; is = sym (some_is (encode_utf8 (hex_number 0 ds)) c e) }
    by true false eh ev e = absurd cc
    by false v eh ev e = absurd cc

abbrev Parts : List ℕ → Type 0
Parts xs = (cs : List ℕ) → text_value xs ≡ Some cs → TextParts xs cs

value_step : (x : ℕ) (xs : List ℕ) → Parts xs → ((cs : List ℕ) → escaped_value xs ≡ Some cs → TextParts (92 ∷ xs) cs) → Parts (x ∷ xs)
unfolding text_value
value_step x xs again escaped cs h = by (x == 34) (x == 92) (x == 10) (is_nothing xs) refl refl refl refl h
  where
    by : (q b l z : Bool) → (x == 34) ≡ q → (x == 92) ≡ b → (x == 10) ≡ l → is_nothing xs ≡ z → cond q (cond z (Some []) None) (cond b (escaped_value xs) (cond l None (followed (Some (x ∷ [])) (text_value xs)))) ≡ Some cs → TextParts (x ∷ xs) cs
    by true b l true eq eb el ez e =
        let is : x ≡ 34 = eqb-true x 34 eq in
        let none : cs ≡ [] = sym (some_is [] cs e) in
        rw (is, nothing_is xs ez, none) ends
    by true b l false eq eb el ez e = absurd (none_is e)
    by false true l z eq eb el ez e = let is : x ≡ 92 = eqb-true x 92 eb in rw is (escaped cs e)
    by false false true z eq eb el ez e = absurd (none_is e)
    by false false false z eq eb el ez e =
        let p : (x == 34 || x == 92 || x == 10) ≡ false = rw (eq, eb, el) refl in
        let r = both_of (Some (x ∷ [])) (text_value xs) cs e in
        let f : r.first ≡ x ∷ [] = sym (some_is (x ∷ []) r.first r.first_is) in
        rw (← r.is, f) (plain p (again r.rest r.rest_is))

escape_step : (x : ℕ) (xs : List ℕ) → Parts xs → ((cs : List ℕ) → four_digits_value xs ≡ Some cs → TextParts (92 ∷ 117 ∷ xs) cs) → ((cs : List ℕ) → eight_digits_value xs ≡ Some cs → TextParts (92 ∷ 85 ∷ xs) cs)
    → (cs : List ℕ) → escaped_value (x ∷ xs) ≡ Some cs → TextParts (92 ∷ x ∷ xs) cs
unfolding text_value
escape_step x xs again by_four by_eight cs h = by (x == 117) (x == 85) (escape_value x) refl refl refl h
  where
    by : (u v : Bool) (o : Option ℕ) → (x == 117) ≡ u → (x == 85) ≡ v → escape_value x ≡ o → cond u (four_digits_value xs) (cond v (eight_digits_value xs) (followed (option_map (λ c. c ∷ []) o) (text_value xs))) ≡ Some cs → TextParts (92 ∷ x ∷ xs) cs
    by true v o eu ev eo e = let is : x ≡ 117 = eqb-true x 117 eu in rw is (by_four cs e)
    by false true o eu ev eo e = let is : x ≡ 85 = eqb-true x 85 ev in rw is (by_eight cs e)
    by false false None eu ev eo e = absurd (none_is e)
    by false false (Some c) eu ev eo e =
        let r = both_of (Some (c ∷ [])) (text_value xs) cs e in
        let f : r.first ≡ c ∷ [] = sym (some_is (c ∷ []) r.first r.first_is) in
        rw (← r.is, f) (escape eo (again r.rest r.rest_is))

four_step : (a b c d : ℕ) (xs : List ℕ) → Parts xs → (cs : List ℕ) → followed (numbered (a ∷ b ∷ c ∷ d ∷ [])) (text_value xs) ≡ Some cs → TextParts (92 ∷ 117 ∷ a ∷ b ∷ c ∷ d ∷ xs) cs
four_step a b c d xs again cs h =
    let r = both_of (numbered (a ∷ b ∷ c ∷ d ∷ [])) (text_value xs) cs h in
    let n = number_of (a ∷ b ∷ c ∷ d ∷ []) r.first r.first_is in
    rw (← r.is, n.is) (four n.number (again r.rest r.rest_is))

eight_step : (a b c d e f g h : ℕ) (xs : List ℕ) → Parts xs → (cs : List ℕ) → followed (numbered (a ∷ b ∷ c ∷ d ∷ e ∷ f ∷ g ∷ h ∷ [])) (text_value xs) ≡ Some cs → TextParts (92 ∷ 85 ∷ a ∷ b ∷ c ∷ d ∷ e ∷ f ∷ g ∷ h ∷ xs) cs
eight_step a b c d e f g h xs again cs i =
    let r = both_of (numbered (a ∷ b ∷ c ∷ d ∷ e ∷ f ∷ g ∷ h ∷ [])) (text_value xs) cs i in
    let n = number_of (a ∷ b ∷ c ∷ d ∷ e ∷ f ∷ g ∷ h ∷ []) r.first r.first_is in
    rw (← r.is, n.is) (eight n.number (again r.rest r.rest_is))

mutual
  unfolding text_value

  value_literal : (xs cs : List ℕ) → text_value xs ≡ Some cs → TextParts xs cs
  value_literal [] cs h = absurd cc
  value_literal (x ∷ xs) cs h = value_step x xs (value_literal xs) (escaped_literal xs) cs h

  escaped_literal : (xs cs : List ℕ) → escaped_value xs ≡ Some cs → TextParts (92 ∷ xs) cs
  escaped_literal [] cs h = absurd cc
  escaped_literal (x ∷ xs) cs h = escape_step x xs (value_literal xs) (four_literal xs) (eight_literal xs) cs h

  four_literal : (xs cs : List ℕ) → four_digits_value xs ≡ Some cs → TextParts (92 ∷ 117 ∷ xs) cs
  four_literal (a ∷ b ∷ c ∷ d ∷ xs) cs h = four_step a b c d xs (value_literal xs) cs h
  four_literal _ cs h = absurd cc

  eight_literal : (xs cs : List ℕ) → eight_digits_value xs ≡ Some cs → TextParts (92 ∷ 85 ∷ xs) cs
  eight_literal (a ∷ b ∷ c ∷ d ∷ e ∷ f ∷ g ∷ h ∷ xs) cs i = eight_step a b c d e f g h xs (value_literal xs) cs i
  eight_literal _ cs i = absurd cc

-- ---- what the lexer goes over

pub closes_is : (xs : List ℕ) → is_some (text_value xs) ≡ closes Inside xs
closes_is xs = by (closes Inside xs) (text_value xs) refl refl
  where
    by : (b : Bool) (o : Option (List ℕ)) → closes Inside xs ≡ b → text_value xs ≡ o → is_some o ≡ b
    by true None eb eo = let k : None ≡ Some (characters Inside xs) = sym eo ∙ literal_value (parts_of xs eb) in absurd cc
    by true (Some cs) eb eo = refl
    by false None eb eo = refl
    by false (Some cs) eb eo = let k : false ≡ true = sym eb ∙ (parts_close (value_literal xs cs eo)).0 in absurd cc

pub value_is : (xs : List ℕ) → closes Inside xs ≡ true → text_value xs ≡ Some (characters Inside xs)
value_is xs h = literal_value (parts_of xs h)

-- ---- the law

pub text_parts : (xs : List ℕ) → sort_of (34 ∷ xs) ≡ Some sorts.Text → TextParts xs (unescaped (34 ∷ xs))
unfolding unescaped
text_parts xs h = by (text_value xs) refl h
  where
    by : (o : Option (List ℕ)) → text_value xs ≡ o → sort_if (is_some o) sorts.Text ≡ Some sorts.Text → TextParts xs (unescaped (34 ∷ xs))
    by None e h = absurd cc
    by (Some cs) e h = rw e (value_literal xs cs e)

pub parts_text : (xs cs : List ℕ) → TextParts xs cs → (sort_of (34 ∷ xs) ≡ Some sorts.Text) × (unescaped (34 ∷ xs) ≡ cs)
unfolding unescaped
parts_text xs cs h = let e = literal_value h in (rw e refl, rw e refl)

-- ---- the characters

pub unescaped_is : (t rest : List ℕ) → rest ≡ drop 1 t → unescaped t ≡ value_from Inside rest
unfolding unescaped
unescaped_is t rest is = rw (← is) (by (closes Inside rest) refl)
  where
    none : (o : Option (List ℕ)) → is_some o ≡ false → unwrap_or o [] ≡ []
    none None e = refl
    none (Some cs) e = absurd cc

    by : (b : Bool) → closes Inside rest ≡ b → unwrap_or (text_value rest) [] ≡ cond b (characters Inside rest) []
    by true e = rw (value_is rest e) refl
    by false e = none (text_value rest) (closes_is rest ∙ e)
