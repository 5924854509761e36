-- A text has one cut or is stuck at one place.
use Rattle.std.proofs.Common.{◌≡◌, ℕ, zero, suc, ◌+◌, List, [], ◌∷◌, ◌++◌, take, drop, Bool, true, false, cond, Option, Some, None, refl, sym, ap, subst, ◌∙◌, arith, inl, inr}
use Rattle.std.proofs.lemmas.Bool.{and_parts, cases_lt}
use Rattle.std.proofs.lemmas.Bool.Decides.{nat_tests}
use Rattle.std.specs.Prelude.{◌==◌, ◌&&◌, ◌||◌, not}
use Rattle.cs_grammar.specs.declared.token.Sort.{Sort}
use Rattle.cs_grammar.specs.declared.token.Sort.TheVariants as sorts
use Rattle.cs_grammar.specs.declared.line.LineState.{LineState}
use Rattle.cs_grammar.specs.declared.line.LineState.TheVariants.{Plain, WantsComma, Minus}
use Rattle.cs_lexer.proofs.Marks.{mark_has}
use Rattle.cs_grammar.specs.declared.fault.SyntaxFault.{SyntaxFault}
use Rattle.cs_grammar.specs.declared.fault.SyntaxFault.TheVariants.{NoToken, IntegerRange}
use Rattle.cs_grammar.specs.Spelling.{is_digit, is_integer, begins_definition, sort_of}
use Rattle.cs_grammar.specs.Cut.{IsLongest, run, is_space, begins_bad_number, begins_quotes, begins_comment, line_len, Begins, Lexeme, lexeme, line_after, line_ended, comma_if, blank, new_line, comment, attribute, token, finish, is_too_large, is_out_of_range}
use Rattle.cs_grammar.specs.CutIn.{CutIn}
use Rattle.cs_grammar.specs.Stuck.{NoneBegins, number, quotes, nothing, TooLarge, StuckIn, no_token, too_large, past_blank, past_line, past_comment, past_attribute, past_token}
use Rattle.cs_grammar.specs.declared.profile.Profile.{Profile}
use Rattle.cs_grammar.specs.declared.profile.Profile.TheVariants as profiles
use Rattle.cs_grammar.specs.Attribute.{attribute_in, begins_attribute}
use Rattle.cs_lexer.proofs.Attributes.{attribute_begins, at_sign_none}
use Rattle.cs_lexer.proofs.ByteClasses.{digit_not_slash, no_comment_at}
use Rattle.cs_lexer.proofs.Fronts.{BeginsMark, mark_is}

-- ---- the cut and where it is stuck as one

data Outcome : Type 0 where
  whole : List Lexeme → Outcome
  halted : SyntaxFault → Outcome

abbrev behind : List Lexeme → Outcome → Outcome
behind ks (whole js) = whole (ks ++ js)
behind ks (halted f) = halted f

data Goes (p : Profile) : List ℕ → ℕ → LineState → Outcome → Type 0 where
  a_blank : {x o : ℕ} {bs : List ℕ} {l : LineState} {r : Outcome} → is_space x ≡ true → Goes p bs (o + 1) l r → Goes p (x ∷ bs) o l r
  a_line : {x o : ℕ} {bs : List ℕ} {l : LineState} {r : Outcome} → (x == 10) ≡ true → Goes p bs (o + 1) (line_ended l) r → Goes p (x ∷ bs) o l (behind (comma_if l o []) r)
  a_comment : {o : ℕ} {bs : List ℕ} {l : LineState} {r : Outcome} → begins_comment bs ≡ true → Goes p (drop (line_len bs) bs) (o + line_len bs) (line_ended l) r → Goes p bs o l (behind (comma_if l o []) r)
  an_attribute : {n o : ℕ} {bs : List ℕ} {l : LineState} {r : Outcome} → attribute_in p bs ≡ Some n → Goes p (drop n bs) (o + n) l r → Goes p bs o l r
  a_token : {n o : ℕ} {s : Sort} {bs : List ℕ} {l : LineState} {r : Outcome} → Begins l bs n s → Goes p (drop n bs) (o + n) (line_after s (take n bs)) r → Goes p bs o l (behind (lexeme s (take n bs) o ∷ []) r)
  an_end : {o : ℕ} {l : LineState} → Goes p [] o l (whole (comma_if l o (lexeme sorts.End [] o ∷ [])))
  a_none : {o : ℕ} {bs : List ℕ} {l : LineState} → NoneBegins bs → attribute_in p bs ≡ None → Goes p bs o l (halted (NoToken o))
  a_large : {o n : ℕ} {bs : List ℕ} {l : LineState} → TooLarge l bs n → Goes p bs o l (halted (IntegerRange o))

comma_front : (l : LineState) (o : ℕ) (ks : List Lexeme) → comma_if l o [] ++ ks ≡ comma_if l o ks
comma_front Plain o ks = refl
comma_front WantsComma o ks = refl
comma_front Minus o ks = refl

cut_goes : {p : Profile} {bs : List ℕ} {o : ℕ} {l : LineState} {ks : List Lexeme} → CutIn p bs o l ks → Goes p bs o l (whole ks)
cut_goes (blank h k) = a_blank h (cut_goes k)
cut_goes {p = p} (new_line {x} {o} {bs} {l} {ks} h k) = subst (λ js. Goes p (x ∷ bs) o l (whole js)) (comma_front l o ks) (a_line h (cut_goes k))
cut_goes {p = p} (comment {o} {bs} {l} {ks} h k) = subst (λ js. Goes p bs o l (whole js)) (comma_front l o ks) (a_comment h (cut_goes k))
cut_goes (attribute h k) = an_attribute h (cut_goes k)
cut_goes (token h k) = a_token h (cut_goes k)
cut_goes finish = an_end

stuck_goes : {p : Profile} {bs : List ℕ} {o : ℕ} {l : LineState} {f : SyntaxFault} → StuckIn p bs o l f → Goes p bs o l (halted f)
stuck_goes (no_token h i) = a_none h i
stuck_goes (too_large h) = a_large h
stuck_goes (past_blank h k) = a_blank h (stuck_goes k)
stuck_goes (past_line h k) = a_line h (stuck_goes k)
stuck_goes (past_comment h k) = a_comment h (stuck_goes k)
stuck_goes (past_attribute h k) = an_attribute h (stuck_goes k)
stuck_goes (past_token h k) = a_token h (stuck_goes k)

-- ---- what is at the front

data Front : Type 0 where
  at_end : Front
  at_blank : Front
  at_line : Front
  at_comment : Front
  at_other : Front

abbrev front : List ℕ → Front
front [] = at_end
front (x ∷ xs) = cond (is_space x) at_blank (cond (x == 10) at_line (cond (begins_comment (x ∷ xs)) at_comment at_other))

abbrev kind : {p : Profile} {bs : List ℕ} {o : ℕ} {l : LineState} {r : Outcome} → Goes p bs o l r → Front
kind (a_blank h k) = at_blank
kind (a_line h k) = at_line
kind (a_comment h k) = at_comment
kind (an_attribute h k) = at_other
kind (a_token h k) = at_other
kind an_end = at_end
kind (a_none h i) = at_other
kind (a_large h) = at_other

line_not_blank : (x : ℕ) → (x == 10) ≡ true → is_space x ≡ false
line_not_blank x h = grind (arith, nat_tests)

digit_plain : (x : ℕ) → is_digit x ≡ true → (is_space x ≡ false) × ((x == 10) ≡ false)
digit_plain x h = (grind (arith, nat_tests), grind (arith, nat_tests))

-- ---- no token begins with a blank or with the end of a line

abbrev is_gap : ℕ → Bool
is_gap x = is_space x || x == 10

abbrev begins_plain : List ℕ → Bool
begins_plain [] = true
begins_plain (x ∷ xs) = not (is_gap x)

gap_mark : (x : ℕ) → is_gap x ≡ true → BeginsMark x
gap_mark x h = record { no_letter = grind (arith, nat_tests); no_hash = grind (arith, nat_tests); no_underscore = grind (arith, nat_tests); no_digit = grind (arith, nat_tests); no_quote = grind (arith, nat_tests) }

no_gap : (x : ℕ) → is_gap x ≡ false → (is_space x ≡ false) × ((x == 10) ≡ false)
no_gap x h = (grind (arith, nat_tests), grind (arith, nat_tests))

token_plain : (x : ℕ) (ts : List ℕ) (s : Sort) → sort_of (x ∷ ts) ≡ Some s → (is_space x ≡ false) × ((x == 10) ≡ false)
token_plain x ts s h = plain (is_gap x) refl
  where
    plain : (b : Bool) → is_gap x ≡ b → (is_space x ≡ false) × ((x == 10) ≡ false)
    plain true e =
        let p : not (is_gap x) ≡ true = mark_has begins_plain (x ∷ ts) s refl refl (sym (mark_is x ts (gap_mark x e) ts) ∙ h) in
        let q : not (is_gap x) ≡ false = rw e refl in
        absurd cc
    plain false e = no_gap x e

longest_front : (bs : List ℕ) (n : ℕ) (s : Sort) → IsLongest bs n s → begins_comment bs ≡ false → front bs ≡ at_other
longest_front [] zero s h c = let e = h.spelled in absurd cc
longest_front [] (suc n) s h c = let e = h.spelled in absurd cc
longest_front (x ∷ xs) zero s h c = let e = h.spelled in absurd cc
longest_front (x ∷ xs) (suc n) s h c = let p = token_plain x (take n xs) s h.spelled in rw (p.0, p.1, c) refl

bad_number_front : (bs : List ℕ) → begins_bad_number bs ≡ true → front bs ≡ at_other
bad_number_front [] h = absurd cc
bad_number_front (x ∷ xs) h =
    let d = (and_parts (is_digit x) (not (is_integer (take (run (x ∷ xs)) (x ∷ xs)))) h).0 in
    let p = digit_plain x d in
    rw (p.0, p.1, no_comment_at x xs (digit_not_slash x d)) refl

quote_plain : (x : ℕ) → (x == 34) ≡ true → (is_space x ≡ false) × ((x == 10) ≡ false) × ((x == 47) ≡ false)
quote_plain x h = (grind (arith, nat_tests), grind (arith, nat_tests), grind (arith, nat_tests))

quotes_front : (bs : List ℕ) → begins_quotes bs ≡ true → front bs ≡ at_other
quotes_front [] h = absurd cc
quotes_front (x ∷ []) h = absurd cc
quotes_front (x ∷ y ∷ []) h = absurd cc
quotes_front (x ∷ y ∷ z ∷ xs) h = let p = quote_plain x (and_parts (x == 34) (y == 34 && z == 34) h).0 in rw (p.0, p.1, p.2) refl

slash_plain : (x : ℕ) → (x == 47) ≡ true → (is_space x ≡ false) × ((x == 10) ≡ false)
slash_plain x h = (grind (arith, nat_tests), grind (arith, nat_tests))

comment_at : (bs : List ℕ) → begins_comment bs ≡ true → front bs ≡ at_comment
comment_at [] h = absurd cc
comment_at (x ∷ []) h = absurd cc
comment_at (x ∷ y ∷ xs) h = let p = slash_plain x (and_parts (x == 47) (y == 47) h).0 in rw (p.0, p.1, h) refl

at_sign_plain : (x : ℕ) → (x == 64) ≡ true → (is_space x ≡ false) × ((x == 10) ≡ false) × ((x == 47) ≡ false)
at_sign_plain x h = (grind (arith, nat_tests), grind (arith, nat_tests), grind (arith, nat_tests))

at_sign_front : (bs : List ℕ) → begins_attribute bs ≡ true → front bs ≡ at_other
at_sign_front [] h = absurd cc
at_sign_front (x ∷ []) h = absurd cc
at_sign_front (x ∷ y ∷ xs) h = let p = at_sign_plain x (and_parts (x == 64) (begins_definition y) h).0 in rw (p.0, p.1, p.2) refl

none_front : {bs : List ℕ} → NoneBegins bs → front bs ≡ at_other
none_front (number {bs} h) = bad_number_front bs h
none_front (quotes {bs} h) = quotes_front bs h
none_front (nothing b l c h) = rw (b, l, c) refl

attribute_front : (p : Profile) (bs : List ℕ) (n : ℕ) → attribute_in p bs ≡ Some n → front bs ≡ at_other
attribute_front profiles.Default bs n h = absurd cc
attribute_front profiles.Wide bs n h = at_sign_front bs (attribute_begins bs n h)

kind_is : {p : Profile} {bs : List ℕ} {o : ℕ} {l : LineState} {r : Outcome} (d : Goes p bs o l r) → front bs ≡ kind d
kind_is (a_blank h k) = rw h refl
kind_is (a_line {x} h k) = rw (line_not_blank x h, h) refl
kind_is (a_comment {o} {bs} h k) = comment_at bs h
kind_is {p = p} (an_attribute {n} {o} {bs} h k) = attribute_front p bs n h
kind_is (a_token {n} {o} {s} {bs} h k) = longest_front bs n s h.token h.no_comment
kind_is an_end = refl
kind_is (a_none h i) = none_front h
kind_is (a_large {o} {n} {bs} h) = longest_front bs n sorts.Integer h.token h.no_comment

-- ---- one token, or none

longest_once : (bs : List ℕ) (n m : ℕ) (s t : Sort) → IsLongest bs n s → IsLongest bs m t → (n ≡ m) × (s ≡ t)
longest_once bs n m s t p q =
    elim (cases_lt n m) [
      | inl lt ↦ let e = p.longest m lt q.within in let f = q.spelled in absurd cc
      | inr le ↦ elim (cases_lt m n) [
        | inl lt ↦ let e = q.longest n lt p.within in let f = p.spelled in absurd cc
        | inr ge ↦ let e : n ≡ m = omega arith in let f = p.spelled in let g = q.spelled in (e, let h : ◌≡◌ {A = Option Sort} (Some s) (Some t) = sym f ∙ ap (λ k. sort_of (take k bs)) e ∙ g in cc)
      ]
    ]

none_token : {bs : List ℕ} (n : ℕ) (s : Sort) → NoneBegins bs → begins_bad_number bs ≡ false → begins_quotes bs ≡ false → IsLongest bs n s → ⊥
none_token n s (number e) good single h = cc
none_token n s (quotes e) good single h = cc
none_token n s (nothing b l c none) good single h = let e = none n h.within in let f = h.spelled in cc

large_token : (l : LineState) (bs : List ℕ) (n m : ℕ) (s : Sort) → TooLarge l bs m → Begins l bs n s → ⊥
large_token l bs n m s h i =
    let p = longest_once bs n m s sorts.Integer i.token h.token in
    let e : is_out_of_range l s (take m bs) ≡ false = subst (λ k. is_out_of_range l s (take k bs) ≡ false) p.0 i.in_range in
    let f : is_too_large l (take m bs) ≡ false = subst (λ k. is_out_of_range l k (take m bs) ≡ false) p.1 e in
    let g = h.out_of_range in
    cc

-- an attribute begins with no token
attribute_token : (p : Profile) (bs : List ℕ) (n m : ℕ) (s : Sort) → attribute_in p bs ≡ Some n → IsLongest bs m s → ⊥
attribute_token profiles.Default bs n m s h i = cc
attribute_token profiles.Wide bs n m s h i = let e = at_sign_none bs (attribute_begins bs n h) m in let f = i.spelled in cc

-- ---- the law

goes_once : {p : Profile} {bs : List ℕ} {o : ℕ} {l : LineState} {r q : Outcome} → Goes p bs o l r → Goes p bs o l q → r ≡ q
goes_once (a_blank h k) (a_blank i j) = goes_once k j
goes_once (a_blank {x} {bs = bs} h k) d = let e : front (x ∷ bs) ≡ at_blank = rw h refl in let f = kind_is d in absurd cc
goes_once (a_line {o = o} {l = l} h k) (a_line i j) = ap (behind (comma_if l o [])) (goes_once k j)
goes_once (a_line {x} {bs = bs} h k) d = let e : front (x ∷ bs) ≡ at_line = rw (line_not_blank x h, h) refl in let f = kind_is d in absurd cc
goes_once (a_comment {o = o} {l = l} h k) (a_comment i j) = ap (behind (comma_if l o [])) (goes_once k j)
goes_once (a_comment {bs = bs} h k) d = let e = comment_at bs h in let f = kind_is d in absurd cc
goes_once {p = p} (an_attribute {n} {o} {bs} {l} {r} h k) (an_attribute {n = m} {r = q} i j) =
    let e : n ≡ m = let is : Some n ≡ Some m = sym h ∙ i in cc in
    let j' : Goes p (drop n bs) (o + n) l q = subst (λ a. Goes p (drop a bs) (o + a) l q) (sym e) j in
    goes_once k j'
goes_once {p = p} (an_attribute {n} {bs = bs} h k) (a_token {n = m} {s = s} i j) = absurd (attribute_token p bs n m s h i.token)
goes_once (an_attribute h k) (a_none i j) = absurd cc
goes_once {p = p} (an_attribute {n} {bs = bs} h k) (a_large {n = m} i) = absurd (attribute_token p bs n m sorts.Integer h i.token)
goes_once {p = p} (an_attribute {n} {bs = bs} h k) d = let e = attribute_front p bs n h in let f = kind_is d in absurd cc
goes_once {p = p} (a_token {n} {o} {s} {bs} {l} {r} h k) (a_token {n = m} {s = t} {r = q} i j) =
    let one = longest_once bs n m s t h.token i.token in
    let j' : Goes p (drop n bs) (o + n) (line_after t (take n bs)) q = subst (λ a. Goes p (drop a bs) (o + a) (line_after t (take a bs)) q) (sym one.0) j in
    let j'' : Goes p (drop n bs) (o + n) (line_after s (take n bs)) q = subst (λ a. Goes p (drop n bs) (o + n) (line_after a (take n bs)) q) (sym one.1) j' in
    let e = goes_once k j'' in
    ap (behind (lexeme s (take n bs) o ∷ [])) e ∙ ap (λ a. behind (lexeme s (take a bs) o ∷ []) q) one.0 ∙ ap (λ a. behind (lexeme a (take m bs) o ∷ []) q) one.1
goes_once {p = p} (a_token {n} {s = s} {bs = bs} h k) (an_attribute {n = m} i j) = absurd (attribute_token p bs m n s i h.token)
goes_once (a_token {n} {s = s} h k) (a_none i j) = absurd (none_token n s i h.no_bad_number h.no_quotes h.token)
goes_once (a_token {n} {s = s} {bs = bs} {l = l} h k) (a_large {n = m} i) = absurd (large_token l bs n m s i h)
goes_once (a_token {n} {s = s} {bs = bs} h k) d = let e = longest_front bs n s h.token h.no_comment in let f = kind_is d in absurd cc
goes_once an_end an_end = refl
goes_once an_end d = let e : front [] ≡ at_end = refl in let f = kind_is d in absurd cc
goes_once (a_none h i) (a_none j m) = refl
goes_once (a_none h none) (a_token {n} {s = s} i j) = absurd (none_token n s h i.no_bad_number i.no_quotes i.token)
goes_once (a_none h none) (a_large {n = m} i) = absurd (none_token m sorts.Integer h i.no_bad_number i.no_quotes i.token)
goes_once (a_none h none) (an_attribute i j) = absurd cc
goes_once (a_none h none) d = let e = none_front h in let f = kind_is d in absurd cc
goes_once (a_large h) (a_large i) = refl
goes_once (a_large {n = m} {bs = bs} {l = l} h) (a_token {n} {s = s} i j) = absurd (large_token l bs n m s h i)
goes_once (a_large {n = m} h) (a_none i j) = absurd (none_token m sorts.Integer i h.no_bad_number h.no_quotes h.token)
goes_once {p = p} (a_large {n = m} {bs = bs} h) (an_attribute {n = n} i j) = absurd (attribute_token p bs n m sorts.Integer i h.token)
goes_once (a_large {n = m} {bs = bs} h) d = let e = longest_front bs m sorts.Integer h.token h.no_comment in let f = kind_is d in absurd cc

pub cut_once : (p : Profile) {bs : List ℕ} {o : ℕ} {l : LineState} {ks js : List Lexeme} → CutIn p bs o l ks → CutIn p bs o l js → ks ≡ js
cut_once p {ks = ks} {js = js} h k = let e : whole ks ≡ whole js = goes_once (cut_goes {p = p} h) (cut_goes {p = p} k) in cc

pub stuck_once : {p : Profile} {bs : List ℕ} {o : ℕ} {l : LineState} {f g : SyntaxFault} → StuckIn p bs o l f → StuckIn p bs o l g → f ≡ g
stuck_once {f = f} {g = g} p q = let e : halted f ≡ halted g = goes_once (stuck_goes p) (stuck_goes q) in cc

pub cut_not_stuck : {p : Profile} {bs : List ℕ} {o : ℕ} {l : LineState} {ks : List Lexeme} {f : SyntaxFault} → CutIn p bs o l ks → StuckIn p bs o l f → ⊥
cut_not_stuck {ks = ks} {f = f} p q = let e : whole ks ≡ halted f = goes_once (cut_goes p) (stuck_goes q) in cc
