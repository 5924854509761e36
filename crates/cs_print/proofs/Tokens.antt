-- The tokens that are printed.
use Rattle.std.proofs.Common.{◌≡◌, ℕ, zero, suc, ◌+◌, ◌<◌, ◌≤◌, List, [], ◌∷◌, ◌++◌, length, take, Bool, true, false, cond, Option, Some, None, codes, refl, ap, subst, arith}
use Rattle.std.proofs.lemmas.Bool.Decides.{nat_tests}
use Rattle.std.proofs.lemmas.Bool.{and_parts}
use Rattle.std.specs.Prelude.{◌==◌, ◌&&◌}
use Rattle.std.specs.List.{list_all, list_any}
use Rattle.std.specs.Str.{bytes_eq}
use Rattle.cs_grammar.specs.declared.token.Sort.{Sort}
use Rattle.cs_grammar.specs.declared.token.Sort.TheVariants as sorts
use Rattle.cs_grammar.specs.declared.line.LineState.{LineState}
use Rattle.cs_grammar.specs.declared.line.LineState.TheVariants.{Plain, WantsComma, Minus}
use Rattle.cs_grammar.specs.Spelling.{is_letter, is_digit, is_name_byte, begins_definition, is_definition_rest, sort_if, underscore_sort, sort_of, mark_sort, used_marks, left_out_marks}
use Rattle.cs_grammar.specs.Cut.{IsLongest, Begins, is_out_of_range, is_space, Lexeme, lexeme, Cut, blank, new_line, line_after}
use Rattle.cs_grammar.specs.Atom.{less, at_most, more, at_least}
use Rattle.cs_grammar.specs.Words as W
use Rattle.cs_grammar.specs.Words.{Word, Words}
use Rattle.cs_grammar.specs.TokenWords.{word}
use Rattle.cs_lexer.proofs.ByteClasses.{no_quotes_at, no_comment_at, letter_not_digit, letter_not_quote, letter_not_slash}
use Rattle.cs_grammar.specs.Written.{IsName, IsDefinitionName}
use Rattle.cs_print.proofs.Fronts.{is_stop, is_plain, Asks, nothing, a_plain, a_stop, Answers, Follows, Front, Same, One, token_front}

-- ---- the longest token that begins a text

-- a longer front has the next byte, and maybe more
record Longer (xs rest : List ℕ) (m : ℕ) : Type 0 where
  pub next : ℕ
  pub more : List ℕ
  pub left : List ℕ
  pub rest_is : rest ≡ next ∷ more
  pub front_is : take m (xs ++ rest) ≡ xs ++ next ∷ left

longer : (xs rest : List ℕ) (m : ℕ) → length xs < m → m ≤ length (xs ++ rest) → Longer xs rest m
longer [] [] m lt le = let never : ⊥ = omega arith in absurd never
longer [] (y ∷ ys) zero lt le = let never : ⊥ = omega arith in absurd never
longer [] (y ∷ ys) (suc m) lt le = record { next = y; more = ys; left = take m ys; rest_is = refl; front_is = refl }
longer (x ∷ xs) rest zero lt le = let never : ⊥ = omega arith in absurd never
longer (x ∷ xs) rest (suc m) lt le = let k = longer xs rest m (omega arith) (omega arith) in record { next = k.next; more = k.more; left = k.left; rest_is = k.rest_is; front_is = ap (λ ys. x ∷ ys) k.front_is }

answers : (a : Asks) (rest : List ℕ) (y : ℕ) (ys : List ℕ) → rest ≡ y ∷ ys → Follows a rest → Answers a y
answers nothing rest y ys e h = tt
answers a_plain rest y ys e h = subst (Follows a_plain) e h
answers a_stop rest y ys e h = subst (Follows a_stop) e h

-- no token goes on with a byte that answers
abbrev pub Ends : Asks → List ℕ → Type 0
Ends a xs = (y : ℕ) (ys : List ℕ) → Answers a y → sort_of (xs ++ y ∷ ys) ≡ None

append_within : (xs rest : List ℕ) → length xs ≤ length (xs ++ rest)
append_within [] rest = omega arith
append_within (x ∷ xs) rest = omega (arith, append_within xs rest)

pub take_front : (xs rest : List ℕ) → take (length xs) (xs ++ rest) ≡ xs
take_front [] rest = refl
take_front (x ∷ xs) rest = ap (λ ys. x ∷ ys) (take_front xs rest)

pub longest : (a : Asks) (xs rest : List ℕ) (s : Sort) → sort_of xs ≡ Some s → Ends a xs → Follows a rest → IsLongest (xs ++ rest) (length xs) s
longest a xs rest s is ends ok = record {
  within = append_within xs rest;
  spelled = rw (take_front xs rest) is;
  longest = λ m lt le. let k = longer xs rest m lt le in rw k.front_is (ends k.next k.left (answers a rest k.next k.more k.rest_is ok));
}

-- a token that begins with neither a digit nor a quote nor `/` (47)
pub record Head (x : ℕ) : Type 0 where
  pub no_digit : is_digit x ≡ false
  pub no_quote : (x == 34) ≡ false
  pub no_slash : (x == 47) ≡ false

pub begun : (a : Asks) (l : LineState) (x : ℕ) (xs rest : List ℕ) (s : Sort) → Head x → is_out_of_range l s (x ∷ xs) ≡ false → sort_of (x ∷ xs) ≡ Some s → Ends a (x ∷ xs) → Follows a rest → Begins l ((x ∷ xs) ++ rest) (length (x ∷ xs)) s
begun a l x xs rest s head range is ends ok = record {
  no_bad_number = rw head.no_digit refl;
  no_quotes = no_quotes_at x (xs ++ rest) head.no_quote;
  no_comment = no_comment_at x (xs ++ rest) head.no_slash;
  in_range = rw (take_front (x ∷ xs) rest) range;
  token = longest a (x ∷ xs) rest s is ends ok;
}

-- ---- marks

pub mark_front : (a : Asks) (x : ℕ) (xs : List ℕ) (l m : LineState) (w : ℕ → Word) → Head x → sort_of (x ∷ xs) ≡ Some sorts.Mark → Ends a (x ∷ xs) → line_after sorts.Mark (x ∷ xs) ≡ m → ((o : ℕ) → word (lexeme sorts.Mark (x ∷ xs) o) ≡ w o) → Front a (x ∷ xs) l m (One w)
mark_front a x xs l m w head is ends after name = token_front a (x ∷ xs) l m sorts.Mark w after name (λ rest ok. begun a l x xs rest sorts.Mark head refl is ends ok)

abbrev head : (x : ℕ) → is_digit x ≡ false → (x == 34) ≡ false → (x == 47) ≡ false → Head x
head x d q s = record { no_digit = d; no_quote = q; no_slash = s }

-- a byte that makes no mark longer
plain_bytes : (y : ℕ) → is_plain y ≡ true → ((y == 61) ≡ false) × ((y == 126) ≡ false) × ((y == 38) ≡ false) × ((y == 124) ≡ false)
plain_bytes y h = (grind (arith, nat_tests), grind (arith, nat_tests), grind (arith, nat_tests), grind (arith, nat_tests))

plain_ends : (x : ℕ) → ((y : ℕ) (ys : List ℕ) → (y == 61) ≡ false → (y == 126) ≡ false → (y == 38) ≡ false → (y == 124) ≡ false → sort_of (x ∷ y ∷ ys) ≡ None) → Ends a_plain (x ∷ [])
plain_ends x k y ys h = let p = plain_bytes y h in k y ys p.0 p.1 p.2 p.3

module _ {l : LineState} where
  pub open_struct_front : Front nothing (123 ∷ []) l Plain (One W.open_struct)
  open_struct_front = mark_front nothing 123 [] l Plain W.open_struct (head 123 refl refl refl) refl (λ y ys ok. refl) refl (λ o. refl)

  pub close_struct_front : Front nothing (125 ∷ []) l WantsComma (One W.close_struct)
  close_struct_front = mark_front nothing 125 [] l WantsComma W.close_struct (head 125 refl refl refl) refl (λ y ys ok. refl) refl (λ o. refl)

  pub open_list_front : Front nothing (91 ∷ []) l Plain (One W.open_list)
  open_list_front = mark_front nothing 91 [] l Plain W.open_list (head 91 refl refl refl) refl (λ y ys ok. refl) refl (λ o. refl)

  pub close_list_front : Front nothing (93 ∷ []) l WantsComma (One W.close_list)
  close_list_front = mark_front nothing 93 [] l WantsComma W.close_list (head 93 refl refl refl) refl (λ y ys ok. refl) refl (λ o. refl)

  pub open_paren_front : Front nothing (40 ∷ []) l Plain (One W.open_paren)
  open_paren_front = mark_front nothing 40 [] l Plain W.open_paren (head 40 refl refl refl) refl (λ y ys ok. refl) refl (λ o. refl)

  pub close_paren_front : Front nothing (41 ∷ []) l WantsComma (One W.close_paren)
  close_paren_front = mark_front nothing 41 [] l WantsComma W.close_paren (head 41 refl refl refl) refl (λ y ys ok. refl) refl (λ o. refl)

  pub comma_front : Front nothing (44 ∷ []) l Plain (One W.comma)
  comma_front = mark_front nothing 44 [] l Plain W.comma (head 44 refl refl refl) refl (λ y ys ok. refl) refl (λ o. refl)

  pub colon_front : Front nothing (58 ∷ []) l Plain (One W.colon)
  colon_front = mark_front nothing 58 [] l Plain W.colon (head 58 refl refl refl) refl (λ y ys ok. refl) refl (λ o. refl)

  pub question_front : Front nothing (63 ∷ []) l WantsComma (One W.question)
  question_front = mark_front nothing 63 [] l WantsComma W.question (head 63 refl refl refl) refl (λ y ys ok. refl) refl (λ o. refl)

  pub minus_front : Front nothing (45 ∷ []) l Minus (One W.minus)
  minus_front = mark_front nothing 45 [] l Minus W.minus (head 45 refl refl refl) refl (λ y ys ok. refl) refl (λ o. refl)

  pub dots_front : Front nothing (46 ∷ 46 ∷ 46 ∷ []) l WantsComma (One W.dots)
  dots_front = mark_front nothing 46 (46 ∷ 46 ∷ []) l WantsComma W.dots (head 46 refl refl refl) refl (λ y ys ok. refl) refl (λ o. refl)

  pub unequal_front : Front nothing (33 ∷ 61 ∷ []) l Plain (One W.unequal)
  unequal_front = mark_front nothing 33 (61 ∷ []) l Plain W.unequal (head 33 refl refl refl) refl (λ y ys ok. refl) refl (λ o. refl)

  pub bang_front : Front a_plain (33 ∷ []) l Plain (One W.bang)
  bang_front = mark_front a_plain 33 [] l Plain W.bang (head 33 refl refl refl) refl (plain_ends 33 (λ y ys e t a b. rw (e, t) refl)) refl (λ o. refl)

  pub amp_front : Front a_plain (38 ∷ []) l Plain (One W.amp)
  amp_front = mark_front a_plain 38 [] l Plain W.amp (head 38 refl refl refl) refl (plain_ends 38 (λ y ys e t a b. rw a refl)) refl (λ o. refl)

  pub bar_front : Front a_plain (124 ∷ []) l Plain (One W.bar)
  bar_front = mark_front a_plain 124 [] l Plain W.bar (head 124 refl refl refl) refl (plain_ends 124 (λ y ys e t a b. rw b refl)) refl (λ o. refl)

  pub less_front : Front a_plain (60 ∷ []) l Plain (One (W.relation less))
  less_front = mark_front a_plain 60 [] l Plain (W.relation less) (head 60 refl refl refl) refl (plain_ends 60 (λ y ys e t a b. rw e refl)) refl (λ o. refl)

  pub more_front : Front a_plain (62 ∷ []) l Plain (One (W.relation more))
  more_front = mark_front a_plain 62 [] l Plain (W.relation more) (head 62 refl refl refl) refl (plain_ends 62 (λ y ys e t a b. rw e refl)) refl (λ o. refl)

  pub at_most_front : Front nothing (60 ∷ 61 ∷ []) l Plain (One (W.relation at_most))
  at_most_front = mark_front nothing 60 (61 ∷ []) l Plain (W.relation at_most) (head 60 refl refl refl) refl (λ y ys ok. refl) refl (λ o. refl)

  pub at_least_front : Front nothing (62 ∷ 61 ∷ []) l Plain (One (W.relation at_least))
  at_least_front = mark_front nothing 62 (61 ∷ []) l Plain (W.relation at_least) (head 62 refl refl refl) refl (λ y ys ok. refl) refl (λ o. refl)

-- ---- blanks and the ends of lines

pub space_front : (x : ℕ) {l : LineState} → is_space x ≡ true → Front nothing (x ∷ []) l l Same
space_front x {l} h = record { before = λ o rest ks ok cut. record { lexemes = ks; cut = blank h cut; are = refl } }

-- a newline and tabs
abbrev pub is_line : List ℕ → Bool
is_line [] = false
is_line (x ∷ xs) = x == 10 && list_all (λ y. y == 9) xs

tabs_cut : (xs : List ℕ) → list_all (λ y. y == 9) xs ≡ true → (o : ℕ) (rest : List ℕ) (ks : List Lexeme) (l : LineState) → Cut rest (o + length xs) l ks → Cut (xs ++ rest) o l ks
tabs_cut [] h o rest ks l cut = subst (λ k. Cut rest k l ks) (omega arith) cut
tabs_cut (x ∷ xs) h o rest ks l cut =
    let p = and_parts (x == 9) (list_all (λ y. y == 9) xs) h in
    let tab : is_space x ≡ true = grind (arith, nat_tests) in
    blank tab (tabs_cut xs p.1 (o + 1) rest ks l (subst (λ k. Cut rest k l ks) (omega arith) cut))

-- a line that ends behind a part of a struct, and one that ends behind `{`
pub line_front : (xs : List ℕ) → is_line xs ≡ true → Front nothing xs WantsComma Plain (One W.nl)
line_front [] h = absurd cc
line_front (x ∷ xs) h =
    let p = and_parts (x == 10) (list_all (λ y. y == 9) xs) h in
    record {
      before = λ o rest ks ok cut. record {
        lexemes = lexeme sorts.Inserted [] o ∷ ks;
        cut = new_line {l = WantsComma} p.0 (tabs_cut xs p.1 (o + 1) rest ks Plain (subst (λ k. Cut rest k Plain ks) (omega arith) cut));
        are = (o, refl);
      };
    }

pub first_line_front : (xs : List ℕ) → is_line xs ≡ true → Front nothing xs Plain Plain Same
first_line_front [] h = absurd cc
first_line_front (x ∷ xs) h =
    let p = and_parts (x == 10) (list_all (λ y. y == 9) xs) h in
    record {
      before = λ o rest ks ok cut. record {
        lexemes = ks;
        cut = new_line {l = Plain} p.0 (tabs_cut xs p.1 (o + 1) rest ks Plain (subst (λ k. Cut rest k Plain ks) (omega arith) cut));
        are = refl;
      };
    }

-- ---- names

pub stop_bytes : (y : ℕ) → is_stop y ≡ true → (is_name_byte y ≡ false) × (is_digit y ≡ false) × ((y == 95) ≡ false) × ((y == 35) ≡ false) × ((y == 124) ≡ false) × ((y == 34) ≡ false) × ((y == 120) ≡ false) × ((y == 46) ≡ false)
stop_bytes y h = (grind (arith, nat_tests), grind (arith, nat_tests), grind (arith, nat_tests), grind (arith, nat_tests), grind (arith, nat_tests), grind (arith, nat_tests), grind (arith, nat_tests), grind (arith, nat_tests))

pub false_behind : (b : Bool) → (b && false) ≡ false
false_behind true = refl
false_behind false = refl

not_all : (p : ℕ → Bool) (xs : List ℕ) (y : ℕ) (ys : List ℕ) → p y ≡ false → list_all p (xs ++ y ∷ ys) ≡ false
not_all p [] y ys h = rw h refl
not_all p (x ∷ xs) y ys h = rw (not_all p xs y ys h) (false_behind (p x))

abbrev is_named : Option Sort → Bool
is_named None = false
is_named (Some sorts.Name) = true
is_named (Some sorts.Definition) = false
is_named (Some sorts.Hidden) = false
is_named (Some sorts.Top) = false
is_named (Some sorts.Bottom) = false
is_named (Some sorts.Integer) = false
is_named (Some sorts.Text) = false
is_named (Some sorts.Mark) = false
is_named (Some sorts.Wide) = false
is_named (Some sorts.LeftOut) = false
is_named (Some sorts.Inserted) = false
is_named (Some sorts.End) = false

named_if : (b : Bool) (s : Sort) → is_named (Some s) ≡ false → is_named (sort_if b s) ≡ false
named_if true s h = h
named_if false s h = refl

-- only what begins with a letter is a name
none_named : (h u d q : Bool) (o p r t m : Option Sort) → is_named o ≡ false → is_named p ≡ false → is_named r ≡ false → is_named t ≡ false → is_named m ≡ false → is_named (cond h o (cond u p (cond d r (cond q t m)))) ≡ false
none_named true u d q o p r t m a b c e f = a
none_named false true d q o p r t m a b c e f = b
none_named false false true q o p r t m a b c e f = c
none_named false false false true o p r t m a b c e f = e
none_named false false false false o p r t m a b c e f = f

no_mark_named : (t : List ℕ) → is_named (mark_sort t) ≡ false
no_mark_named t = by (list_any (bytes_eq t) used_marks) (list_any (bytes_eq t) left_out_marks)
  where
    by : (b c : Bool) → is_named (cond b (Some sorts.Mark) (cond c (Some sorts.LeftOut) None)) ≡ false
    by true c = refl
    by false true = refl
    by false false = refl

no_underscore_named : (xs : List ℕ) → is_named (underscore_sort xs) ≡ false
no_underscore_named [] = refl
no_underscore_named (y ∷ ys) = by (is_name_byte y) (y == 35) (list_all is_name_byte ys) (is_definition_rest ys) (bytes_eq (y ∷ ys) (codes "|_"))
  where
    by : (n h a d b : Bool) → is_named (cond n (sort_if a sorts.Hidden) (cond h (sort_if d sorts.Hidden) (sort_if b sorts.Bottom))) ≡ false
    by true h true d b = refl
    by true h false d b = refl
    by false true a true b = refl
    by false true a false b = refl
    by false false a d true = refl
    by false false a d false = refl

pub clash : (b : Bool) → b ≡ true → b ≡ false → ⊥
clash b p q = cc

name_parts : (x : ℕ) (xs : List ℕ) → IsName (x ∷ xs) → (is_letter x ≡ true) × (list_all is_name_byte xs ≡ true)
name_parts x xs h = by (is_letter x) (list_all is_name_byte xs) refl refl
  where
    named : is_named (sort_of (x ∷ xs)) ≡ true
    named = rw h refl

    by : (a b : Bool) → is_letter x ≡ a → list_all is_name_byte xs ≡ b → (is_letter x ≡ true) × (list_all is_name_byte xs ≡ true)
    by true true ea eb = (ea, eb)
    by true false ea eb = let never : is_named (sort_of (x ∷ xs)) ≡ false = rw (ea, eb) refl in absurd (clash (is_named (sort_of (x ∷ xs))) named never)
    by false b ea eb =
        let never : is_named (sort_of (x ∷ xs)) ≡ false = rw ea (none_named (x == 35) (x == 95) (is_digit x) (x == 34) _ _ _ _ _ (named_if _ sorts.Definition refl) (no_underscore_named xs) (named_if _ sorts.Integer refl) (named_if _ sorts.Text refl) (no_mark_named (x ∷ xs))) in absurd (clash (is_named (sort_of (x ∷ xs))) named never)

letter_head : (x : ℕ) → is_letter x ≡ true → Head x
letter_head x h = record { no_digit = letter_not_digit x h; no_quote = letter_not_quote x h; no_slash = letter_not_slash x h }

name_ends : (x : ℕ) (xs : List ℕ) → is_letter x ≡ true → Ends a_stop (x ∷ xs)
name_ends x xs h y ys stop = rw (h, not_all is_name_byte xs y ys (stop_bytes y stop).0) refl

pub name_front : (s : List ℕ) {l : LineState} → IsName s → Front a_stop s l WantsComma (One (W.name s))
name_front [] {l} h = absurd cc
name_front (x ∷ xs) {l} h =
    let p = name_parts x xs h in
    token_front a_stop (x ∷ xs) l WantsComma sorts.Name (W.name (x ∷ xs)) refl (λ o. refl) (λ rest ok. begun a_stop l x xs rest sorts.Name (letter_head x p.0) refl h (name_ends x xs p.0) ok)

definition_rest : (s : List ℕ) → IsDefinitionName s → is_definition_rest s ≡ true
definition_rest s h = by (is_definition_rest s) refl
  where
    by : (b : Bool) → is_definition_rest s ≡ b → b ≡ true
    by true e = refl
    by false e = let never : None ≡ Some sorts.Definition = rw e at h in absurd cc

definition_ends : (s : List ℕ) → is_definition_rest s ≡ true → Ends a_stop (35 ∷ s)
definition_ends [] h y ys stop = absurd cc
definition_ends (x ∷ xs) h y ys stop =
    let p = and_parts (begins_definition x) (list_all is_name_byte xs) h in
    rw (p.0, not_all is_name_byte xs y ys (stop_bytes y stop).0) refl

pub definition_front : (s : List ℕ) {l : LineState} → IsDefinitionName s → Front a_stop (35 ∷ s) l WantsComma (One (W.definition_name s))
definition_front s {l} h = token_front a_stop (35 ∷ s) l WantsComma sorts.Definition (W.definition_name s) refl (λ o. refl) (λ rest ok. begun a_stop l 35 s rest sorts.Definition (head 35 refl refl refl) refl h (definition_ends s (definition_rest s h)) ok)

-- ---- `_` and `_|_`

top_ends : Ends a_stop (95 ∷ [])
top_ends y ys stop = let p = stop_bytes y stop in rw (p.0, p.3, p.4) refl

module _ {l : LineState} where
  pub top_front : Front a_stop (95 ∷ []) l WantsComma (One W.top_mark)
  top_front = token_front a_stop (95 ∷ []) l WantsComma sorts.Top W.top_mark refl (λ o. refl) (λ rest ok. begun a_stop l 95 [] rest sorts.Top (head 95 refl refl refl) refl refl top_ends ok)

  pub bottom_front : Front nothing (95 ∷ 124 ∷ 95 ∷ []) l WantsComma (One W.bottom_mark)
  bottom_front = token_front nothing (95 ∷ 124 ∷ 95 ∷ []) l WantsComma sorts.Bottom W.bottom_mark refl (λ o. refl) (λ rest ok. begun nothing l 95 (124 ∷ 95 ∷ []) rest sorts.Bottom (head 95 refl refl refl) refl refl (λ y ys ok. refl) tt)
