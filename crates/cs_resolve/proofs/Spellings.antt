-- The names of definitions that a source spells.
use Rattle.std.proofs.Common.{◌≡◌, ℕ, Bool, true, false, cond, List, [], ◌∷◌, take, Option, Some, codes, arith, refl, sym, ap, ◌∙◌, subst}
use Rattle.std.specs.List.{AllByRecursion, list_all, list_any}
use Rattle.std.specs.Str.{bytes_eq}
use Rattle.std.specs.Prelude.{◌==◌}
use Rattle.cs_grammar.specs.Source.{IsSpelledBy}
use Rattle.cs_grammar.specs.Cut.{Lexeme, lexeme, Cut, blank, new_line, comment, attribute, token, finish, comma_if, line_after, line_after_mark, line_ended}
use Rattle.cs_grammar.specs.Spelling.{is_letter, is_digit, is_name_byte, is_integer, is_definition_rest, underscore_sort, mark_sort, sort_if, sort_of, used_marks, left_out_marks}
use Rattle.cs_grammar.specs.Tree.{FileTree, defined_name, definitions}
use Rattle.cs_grammar.specs.TokenWords.{bare_name, mark_kind, wide_kind, word_of, word, words}
use Rattle.cs_grammar.specs.Words as W
use Rattle.cs_grammar.specs.Words.{Word}
use Rattle.cs_grammar.specs.declared.kind.Kind.TheVariants as kinds
use Rattle.cs_grammar.specs.declared.token.Sort.{Sort}
use Rattle.cs_grammar.specs.declared.token.Sort.TheVariants as sorts
use Rattle.cs_package.specs.Environment.{IsDefinitionName}
use Rattle.cs_resolve.proofs.DefinedNames.{of_file}

-- what a word names, if it is the name of a definition, is one
abbrev is_named : Word → Bool
is_named (W.definition_name n o) = is_definition_rest n
is_named _ = true

-- ---- texts

-- it isn't that of a definition's name
abbrev Other : Option Sort → Type 0
Other o = o ≡ Some sorts.Definition → ⊥

either_other : (b : Bool) (p q : Option Sort) → Other p → Other q → Other (cond b p q)
either_other true p q h k = h
either_other false p q h k = k

sort_other : (b : Bool) (s : Sort) → Other (Some s) → Other (sort_if b s)
sort_other true s h = h
sort_other false s h = λ e. cc

underscore_other : (xs : List ℕ) → Other (underscore_sort xs)
underscore_other [] = λ e. cc
underscore_other (y ∷ ys) =
    either_other (is_name_byte y) _ _ (sort_other _ sorts.Hidden (λ e. cc)) (either_other (y == 35) _ _ (sort_other _ sorts.Hidden (λ e. cc)) (sort_other _ sorts.Bottom (λ e. cc)))

mark_other : (t : List ℕ) → Other (mark_sort t)
mark_other t = either_other (list_any (bytes_eq t) used_marks) _ _ (λ e. cc) (either_other (list_any (bytes_eq t) left_out_marks) _ _ (λ e. cc) (λ e. cc))

-- only the second test gives the sort of a definition's name
second : (a b d e : Bool) (m : Option Sort) → Other m → cond a (sort_if d sorts.Name) (cond b (sort_if e sorts.Definition) m) ≡ Some sorts.Definition → (b ≡ true) × (e ≡ true)
second true b true e m other h = cc
second true b false e m other h = cc
second false true d true m other h = (refl, refl)
second false true d false m other h = cc
second false false d e m other h = absurd (other h)

bare : (t : List ℕ) → sort_of t ≡ Some sorts.Definition → IsDefinitionName (bare_name t)
bare [] h = cc
bare (x ∷ xs) h =
    let rest = either_other (x == 95) (underscore_sort xs) _ (underscore_other xs)
    (either_other (is_digit x) _ _ (sort_other (is_integer (x ∷ xs)) sorts.Integer (λ e. cc))
    (either_other (x == 34) _ _ (sort_other _ sorts.Text (λ e. cc)) (mark_other (x ∷ xs)))) in
    let is = second (is_letter x) (x == 35) (list_all is_name_byte xs) (is_definition_rest xs) _ rest h in
    ap (λ b. is_definition_rest (cond b xs (x ∷ xs))) is.0 ∙ is.1

-- ---- words

module _ (t : List ℕ) (o : ℕ) where
  -- a mark is no name
  of_mark : is_named (word_of (mark_kind t) t o) ≡ true
  of_mark = grind arith

  -- nor is a token that the wide profile reads in its own way that of a definition's
  wide_named : (a b c : Bool) (k : List ℕ) → is_named (word_of (cond a kinds.OpenWide (cond b kinds.OpenCall (cond c kinds.Local kinds.LeftOut))) k o) ≡ true
  wide_named true b c k = refl
  wide_named false true c k = refl
  wide_named false false true k = refl
  wide_named false false false k = refl

  of_wide : (k : List ℕ) → is_named (word_of (wide_kind k) k o) ≡ true
  of_wide [] = refl
  of_wide (x ∷ xs) = wide_named (x == 123) (x == 40) (x == 95) (x ∷ xs)

  of_token : (s : Sort) → sort_of t ≡ Some s → is_named (word (lexeme s t o)) ≡ true
  of_token sorts.Definition h = bare t h
  of_token sorts.Mark h = of_mark
  of_token sorts.Wide h = of_wide t
  of_token _ h = refl

-- ---- the cut

abbrev AreNamed : List Lexeme → Type 0
AreNamed ks = AllByRecursion (λ w. is_named w ≡ true) (words ks)

-- what a line inserts is no name, nor what it inserts once it has ended
module _ {L : Type 0} (inserts : L → ℕ → List Lexeme → List Lexeme) (ended : L → L) where
  abbrev Inserts : L → Type 0
  Inserts l = (o : ℕ) (ks : List Lexeme) → AreNamed ks → AreNamed (inserts l o ks)

  record IsPlain (l : L) : Type 0 where
    now : Inserts l
    next : Inserts (ended l)
    once : ended (ended l) ≡ ended l

  at_end : (l : L) → IsPlain l → IsPlain (ended l)
  at_end l p = record { now = p.next; next = subst Inserts (sym p.once) p.next; once = ap ended p.once }

  either : (b : Bool) {j k : L} → IsPlain j → IsPlain k → IsPlain (cond b j k)
  either true p q = p
  either false p q = q

plain : IsPlain comma_if line_ended (line_after_mark [])
plain = record { now = λ o ks h. h; next = λ o ks h. h; once = refl }

minus : IsPlain comma_if line_ended (line_after_mark (codes "-"))
minus = record { now = λ o ks h. h; next = λ o ks h. h; once = refl }

wants : IsPlain comma_if line_ended (line_after_mark (codes ")"))
wants = record { now = λ o ks h. (refl, h); next = λ o ks h. h; once = refl }

after_mark : (t : List ℕ) → IsPlain comma_if line_ended (line_after_mark t)
after_mark [] = plain
after_mark (x ∷ []) = either comma_if line_ended _ minus (either comma_if line_ended _ wants plain)
after_mark (x ∷ y ∷ []) = plain
after_mark (x ∷ y ∷ z ∷ []) = either comma_if line_ended _ wants plain
after_mark (x ∷ y ∷ z ∷ w ∷ t) = plain

after : (s : Sort) (t : List ℕ) → IsPlain comma_if line_ended (line_after s t)
after sorts.Mark t = after_mark t
after sorts.Wide t = plain
after sorts.LeftOut t = plain
after sorts.Inserted t = plain
after sorts.End t = plain
after _ t = wants

of_cut : {bs : List ℕ} {o : ℕ} {l : _} {ks : List Lexeme} → IsPlain comma_if line_ended l → Cut bs o l ks → AreNamed ks
of_cut p (blank h k) = of_cut p k
of_cut p (new_line {o} {l} {ks} h k) = p.now o ks (of_cut (at_end comma_if line_ended l p) k)
of_cut p (comment {o} {bs} {l} {ks} h k) = p.now o ks (of_cut (at_end comma_if line_ended l p) k)
of_cut p (attribute h k) = absurd cc
of_cut p (token {n} {o} {s} {bs} b k) = (of_token (take n bs) o s b.token.spelled, of_cut (after s (take n bs)) k)
of_cut p (finish {o}) = p.now o (lexeme sorts.End [] o ∷ []) (refl, tt)

-- ---- files

-- each definition of a file that a source spells has the name of one
pub names-spelled : (t : List ℕ) (f : FileTree) → IsSpelledBy t f → AllByRecursion (λ d. IsDefinitionName (defined_name d)) (definitions f)
names-spelled t f h = of_file (λ w. is_named w ≡ true) IsDefinitionName (λ n o named. named) h.spelled (of_cut plain h.cut)

-- what is written behind `#` (35) so that a token names a definition
pub name-written : (n : List ℕ) → sort_of (35 ∷ n) ≡ Some sorts.Definition → IsDefinitionName n
name-written n h = bare (35 ∷ n) h
