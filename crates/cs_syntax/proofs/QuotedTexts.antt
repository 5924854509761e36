-- Texts begin with a quote.
use Rattle.std.proofs.Common.{◌≡◌, ℕ, zero, suc, List, [], ◌∷◌, drop, Bool, true, false, cond, Option, Some, refl, sym, ap, ◌∙◌}
use Rattle.std.specs.Prelude.{◌==◌, codes}
use Rattle.std.specs.List.{list_all, list_any}
use Rattle.std.specs.Str.{bytes_eq}
use Rattle.std.proofs.lemmas.Bool.{and_parts}
use Rattle.cs_grammar.specs.declared.token.Token.{Token}
use Rattle.cs_grammar.specs.declared.token.Sort.{Sort}
use Rattle.cs_grammar.specs.declared.token.Sort.TheVariants as sorts
use Rattle.cs_grammar.specs.declared.line.LineState.{LineState}
use Rattle.cs_grammar.specs.declared.line.LineState.TheVariants.{Plain, WantsComma, Minus}
use Rattle.cs_grammar.specs.declared.kind.Kind.{Kind}
use Rattle.cs_grammar.specs.declared.kind.Kind.TheVariants as kinds
use Rattle.cs_grammar.specs.Spelling.{is_letter, is_digit, is_name_byte, is_integer, is_definition_rest, used_marks, left_out_marks, mark_sort, sort_if, underscore_sort, sort_of}
use Rattle.cs_grammar.specs.declared.profile.Profile.{Profile}
use Rattle.cs_grammar.specs.declared.profile.Profile.TheVariants as profiles
use Rattle.cs_grammar.specs.Taken.{wide_marks, wide_sort, taken}
use Rattle.cs_grammar.specs.Cut.{Lexeme, lexeme, comma_if, CutBy, blank, new_line, comment, attribute, token, finish}
use Rattle.cs_grammar.specs.View.{lexemes_view}
use Rattle.cs_grammar.specs.TokenWords.{mark_kind, wide_kind, kind_of}
use Rattle.cs_lexer.specs.Quoted.{begins_quote, is_quoted, are_quoted}

-- ---- what is a text

abbrev is_text : Option Sort → Bool
is_text (Some sorts.Text) = true
is_text o = false

record Other (o : Option Sort) : Type 0 where
  pub is : is_text o ≡ false

one : (s : Sort) → is_text (Some s) ≡ false → Other (Some s)
one s h = record { is = h }

either : (b : Bool) {o p : Option Sort} → Other o → Other p → Other (cond b o p)
either true h k = h
either false h k = k

if_so : (b : Bool) (s : Sort) → is_text (Some s) ≡ false → Other (sort_if b s)
if_so true s h = record { is = h }
if_so false s h = record { is = refl }

mark_other : (t : List ℕ) → Other (mark_sort t)
mark_other t = either (list_any (bytes_eq t) used_marks) (one sorts.Mark refl) (either (list_any (bytes_eq t) left_out_marks) (one sorts.LeftOut refl) (record { is = refl }))

underscore_other : (t : List ℕ) → Other (underscore_sort t)
underscore_other [] = record { is = refl }
underscore_other (y ∷ ys) =
    either (is_name_byte y) (if_so (list_all is_name_byte ys) sorts.Hidden refl) (
    either (y == 35) (if_so (is_definition_rest ys) sorts.Hidden refl)
    (if_so (bytes_eq (y ∷ ys) (codes "|_")) sorts.Bottom refl))

unquoted_other : (x : ℕ) (xs : List ℕ) → (x == 34) ≡ false → Other (sort_of (x ∷ xs))
unquoted_other x xs e = rw e (
    either (is_letter x) (if_so (list_all is_name_byte xs) sorts.Name refl) (
    either (x == 35) (if_so (is_definition_rest xs) sorts.Definition refl) (
    either (x == 95) (underscore_other xs) (
    either (is_digit x) (if_so (is_integer (x ∷ xs)) sorts.Integer refl)
    (mark_other (x ∷ xs))))))

text_begins : (t : List ℕ) → sort_of t ≡ Some sorts.Text → begins_quote t ≡ true
text_begins [] h = absurd cc
text_begins (x ∷ xs) h = by (x == 34) refl
  where
    by : (b : Bool) → (x == 34) ≡ b → (x == 34) ≡ true
    by true e = e
    by false e = let never : true ≡ false = sym (ap is_text h) ∙ (unquoted_other x xs e).is in absurd cc

sort_quoted : (s : Sort) (t : List ℕ) → sort_of t ≡ Some s → is_quoted s t ≡ true
sort_quoted sorts.Text t h = text_begins t h
sort_quoted s t h = refl

-- ---- the tokens of a source

comma_quoted : (l : LineState) (o : ℕ) (ks : List Lexeme) → are_quoted ks ≡ true → are_quoted (comma_if l o ks) ≡ true
comma_quoted Plain o ks h = h
comma_quoted WantsComma o ks h = h
comma_quoted Minus o ks h = h

pub cut_quoted : {attribute_at : List ℕ → Option ℕ} {bs : List ℕ} {o : ℕ} {l : LineState} {ks : List Lexeme} → CutBy attribute_at bs o l ks → are_quoted ks ≡ true
cut_quoted (blank h k) = cut_quoted k
cut_quoted (new_line {l} h k) = comma_quoted l _ _ (cut_quoted k)
cut_quoted (comment {l} h k) = comma_quoted l _ _ (cut_quoted k)
cut_quoted (attribute h k) = cut_quoted k
cut_quoted (token h k) = rw (sort_quoted _ _ h.token.spelled, cut_quoted k) refl
cut_quoted (finish {l}) = comma_quoted l _ _ refl

-- in the wide profile, too
wide_quoted : (s : Sort) (t : List ℕ) → is_quoted s t ≡ true → is_quoted (wide_sort s t) t ≡ true
wide_quoted sorts.LeftOut t h = by (list_any (bytes_eq t) wide_marks)
  where
    by : (a : Bool) → is_quoted (cond a sorts.Mark sorts.LeftOut) t ≡ true
    by true = refl
    by false = refl
wide_quoted sorts.Mark t h = by (bytes_eq t (codes "{")) (bytes_eq t (codes "("))
  where
    by : (a b : Bool) → is_quoted (cond a sorts.Wide (cond b sorts.Wide sorts.Mark)) t ≡ true
    by true b = refl
    by false true = refl
    by false false = refl
wide_quoted s t h = h

pub taken_quoted : (p : Profile) (ks : List Lexeme) → are_quoted ks ≡ true → are_quoted (taken p ks) ≡ true
taken_quoted profiles.Default ks h = h
taken_quoted profiles.Wide [] h = refl
taken_quoted profiles.Wide (lexeme s t o ∷ ks) h =
    let q = and_parts (is_quoted s t) (are_quoted ks) h in
    rw (wide_quoted s t q.0, taken_quoted profiles.Wide ks q.1) refl

-- ---- a token among them

abbrev is_text_kind : Kind → Bool
is_text_kind kinds.Text = true
is_text_kind k = false

record OtherKind (k : Kind) : Type 0 where
  pub is : is_text_kind k ≡ false

unless : (b : Bool) (k : Kind) {l : Kind} → is_text_kind k ≡ false → OtherKind l → OtherKind (cond b k l)
unless true k h i = record { is = h }
unless false k h i = i

mark_no_text : (t : List ℕ) → OtherKind (mark_kind t)
mark_no_text t =
    unless (bytes_eq t (codes "{")) kinds.OpenStruct refl (
    unless (bytes_eq t (codes "}")) kinds.CloseStruct refl (
    unless (bytes_eq t (codes "[")) kinds.OpenList refl (
    unless (bytes_eq t (codes "]")) kinds.CloseList refl (
    unless (bytes_eq t (codes "(")) kinds.OpenParen refl (
    unless (bytes_eq t (codes ")")) kinds.CloseParen refl (
    unless (bytes_eq t (codes ",")) kinds.Comma refl (
    unless (bytes_eq t (codes ":")) kinds.Colon refl (
    unless (bytes_eq t (codes "?")) kinds.Question refl (
    unless (bytes_eq t (codes "!")) kinds.Bang refl (
    unless (bytes_eq t (codes "&")) kinds.Amp refl (
    unless (bytes_eq t (codes "|")) kinds.Bar refl (
    unless (bytes_eq t (codes "...")) kinds.Dots refl (
    unless (bytes_eq t (codes "<")) kinds.Less refl (
    unless (bytes_eq t (codes "<=")) kinds.AtMost refl (
    unless (bytes_eq t (codes ">")) kinds.More refl (
    unless (bytes_eq t (codes ">=")) kinds.AtLeast refl (
    unless (bytes_eq t (codes "!=")) kinds.Unequal refl (
    unless (bytes_eq t (codes "-")) kinds.Minus refl (
    unless (bytes_eq t (codes "*")) kinds.Star refl (
    unless (bytes_eq t (codes "==")) kinds.Equal refl (
    unless (bytes_eq t (codes ".")) kinds.Dot refl (
    unless (bytes_eq t (codes "=")) kinds.Assign refl (
    record { is = refl })))))))))))))))))))))))

wide_no_text : (t : List ℕ) → OtherKind (wide_kind t)
wide_no_text [] = record { is = refl }
wide_no_text (x ∷ xs) = unless (x == 123) kinds.OpenWide refl (unless (x == 40) kinds.OpenCall refl (unless (x == 95) kinds.Local refl (record { is = refl })))

text_quoted : (s : Sort) (t : List ℕ) → kind_of s t ≡ kinds.Text → is_quoted s t ≡ true → begins_quote t ≡ true
text_quoted sorts.Text t k h = h
text_quoted sorts.Mark t k h = let never : true ≡ false = sym (ap is_text_kind k) ∙ (mark_no_text t).is in absurd cc
text_quoted sorts.Wide t k h = let never : true ≡ false = sym (ap is_text_kind k) ∙ (wide_no_text t).is in absurd cc
text_quoted s t k h = absurd cc

-- a text among these tokens begins with a quote
pub next_quoted : (ts rest : List Token) (n : ℕ) (t : Token) → are_quoted (lexemes_view ts) ≡ true → drop n ts ≡ t ∷ rest → kind_of t.sort t.text.now ≡ kinds.Text → begins_quote t.text.now ≡ true
next_quoted [] rest zero t h e k = absurd cc
next_quoted [] rest (suc n) t h e k = absurd cc
next_quoted (u ∷ ts) rest zero t h e k =
    let is : u ≡ t = cc in
    let h = (and_parts (is_quoted u.sort u.text.now) (are_quoted (lexemes_view ts)) h).0 in
    text_quoted t.sort t.text.now k (rw is at h)
next_quoted (u ∷ ts) rest (suc n) t h e k = next_quoted ts rest n t (and_parts (is_quoted u.sort u.text.now) (are_quoted (lexemes_view ts)) h).1 e k
