-- Every text has a cut or is stuck.
use Rattle.std.proofs.Common.{◌≡◌, ◌⊎◌, inl, inr, ℕ, zero, suc, ◌+◌, ◌<◌, ◌≤◌, List, [], ◌∷◌, length, take, drop, Bool, true, false, Option, Some, None, refl, arith}
use Rattle.std.proofs.lemmas.Bool.{cases_lt}
use Rattle.std.proofs.lemmas.List.{length-drop}
use Rattle.std.specs.Prelude.{◌==◌}
use Rattle.cs_grammar.specs.declared.token.Sort.{Sort}
use Rattle.cs_grammar.specs.declared.token.Sort.TheVariants as sorts
use Rattle.cs_grammar.specs.declared.line.LineState.{LineState}
use Rattle.cs_grammar.specs.declared.fault.SyntaxFault.{SyntaxFault}
use Rattle.cs_grammar.specs.declared.fault.SyntaxFault.TheVariants.{NoToken, IntegerRange}
use Rattle.cs_grammar.specs.Spelling.{sort_of}
use Rattle.cs_grammar.specs.Cut.{IsLongest, begins_bad_number, begins_quotes, begins_comment, line_len, is_out_of_range, Begins, is_space, line_after, line_ended, Lexeme, lexeme, comma_if, blank, new_line, comment, attribute, token, finish}
use Rattle.cs_grammar.specs.CutIn.{CutIn}
use Rattle.cs_grammar.specs.Stuck.{BeginsNone, NoneBegins, number, quotes, nothing, StuckIn, no_token, too_large, past_blank, past_line, past_comment, past_attribute, past_token}
use Rattle.cs_grammar.specs.declared.profile.Profile.{Profile}
use Rattle.cs_grammar.specs.Attribute.{attribute_in}
use Rattle.cs_lexer.proofs.Attributes.{attribute_in_some}
use Rattle.cs_lexer.proofs.Cutting.{comment_some}

-- ---- there is a longest front that is a token, or none is

abbrev Longest : List ℕ → Type 0
Longest bs = (n : ℕ) × (s : Sort) × IsLongest bs n s

abbrev NoneAbove : List ℕ → ℕ → Type 0
NoneAbove bs n = (m : ℕ) → n < m → m ≤ length bs → sort_of (take m bs) ≡ None

none_here : (bs : List ℕ) (n : ℕ) → NoneAbove bs (suc n) → sort_of (take (suc n) bs) ≡ None → NoneAbove bs n
none_here bs n above here m lt le = elim (cases_lt (suc n) m) [ inl more ↦ above m more le | inr less ↦ let is : m ≡ suc n = omega arith in rw is here ]

none_at_all : (bs : List ℕ) → NoneAbove bs 0 → BeginsNone bs
none_at_all bs above zero le = refl
none_at_all bs above (suc m) le = above (suc m) (omega arith) le

longest_below : (bs : List ℕ) (n : ℕ) → n ≤ length bs → NoneAbove bs n → Longest bs ⊎ BeginsNone bs
longest_below bs zero le above = inr (none_at_all bs above)
longest_below bs (suc n) le above = by (sort_of (take (suc n) bs)) refl (λ here. longest_below bs n (omega arith) (none_here bs n above here))
  where
    by : (o : Option Sort) → sort_of (take (suc n) bs) ≡ o → (sort_of (take (suc n) bs) ≡ None → Longest bs ⊎ BeginsNone bs) → Longest bs ⊎ BeginsNone bs
    by (Some s) e again = inl (suc n, s, record { within = le; spelled = e; longest = above })
    by None e again = again e

longest : (bs : List ℕ) → Longest bs ⊎ BeginsNone bs
longest bs = longest_below bs (length bs) (omega arith) (λ m lt le. let never : ⊥ = omega arith in absurd never)

token_some : (bs : List ℕ) (n : ℕ) (s : Sort) → IsLongest bs n s → 0 < n
token_some bs zero s h = let e = h.spelled in absurd cc
token_some bs (suc n) s h = omega arith

-- ---- piece by piece

abbrev pub Outcome : Profile → List ℕ → ℕ → LineState → Type 0
Outcome p bs o l = ((ks : List Lexeme) × CutIn p bs o l ks) ⊎ ((f : SyntaxFault) × StuckIn p bs o l f)

too_large_sort : (p : Profile) (bs : List ℕ) (o n : ℕ) (l : LineState) (s : Sort) → begins_bad_number bs ≡ false → begins_quotes bs ≡ false → begins_comment bs ≡ false → is_out_of_range l s (take n bs) ≡ true → IsLongest bs n s → StuckIn p bs o l (IntegerRange o)
too_large_sort p bs o n l sorts.Integer b q c large h = too_large {n = n} (record { no_bad_number = b; no_quotes = q; no_comment = c; out_of_range = large; token = h })
too_large_sort p bs o n l s b q c large h = absurd cc

module _ (p : Profile) (x : ℕ) (xs : List ℕ) (o : ℕ) (l : LineState) (again : (js : List ℕ) (q : ℕ) (m : LineState) → length js ≤ length xs → Outcome p js q m) where
  at_token : begins_bad_number (x ∷ xs) ≡ false → begins_quotes (x ∷ xs) ≡ false → begins_comment (x ∷ xs) ≡ false → (n : ℕ) (s : Sort) → IsLongest (x ∷ xs) n s → Outcome p (x ∷ xs) o l
  at_token b q c n s h = by (is_out_of_range l s (take n (x ∷ xs))) refl
    where
      by : (r : Bool) → is_out_of_range l s (take n (x ∷ xs)) ≡ r → Outcome p (x ∷ xs) o l
      by true e = inr (IntegerRange o, too_large_sort p (x ∷ xs) o n l s b q c e h)
      by false e =
          let begins : Begins l (x ∷ xs) n s = record { no_bad_number = b; no_quotes = q; no_comment = c; in_range = e; token = h } in
          elim (again (drop n (x ∷ xs)) (o + n) (line_after s (take n (x ∷ xs))) (omega (arith, length-drop n (x ∷ xs), token_some (x ∷ xs) n s h))) [ inl k ↦ inl (lexeme s (take n (x ∷ xs)) o ∷ k.0, token begins k.1) | inr k ↦ inr (k.0, past_token begins k.1) ]

  at_comment : begins_comment (x ∷ xs) ≡ true → Outcome p (x ∷ xs) o l
  at_comment h =
      let n = line_len (x ∷ xs) in
      elim (again (drop n (x ∷ xs)) (o + n) (line_ended l) (omega (arith, length-drop n (x ∷ xs), comment_some (x ∷ xs) h))) [ inl k ↦ inl (comma_if l o k.0, comment h k.1) | inr k ↦ inr (k.0, past_comment h k.1) ]

  at_none : NoneBegins (x ∷ xs) → Outcome p (x ∷ xs) o l
  at_none none = by (attribute_in p (x ∷ xs)) refl
    where
      by : (r : Option ℕ) → attribute_in p (x ∷ xs) ≡ r → Outcome p (x ∷ xs) o l
      by (Some n) e = elim (again (drop n (x ∷ xs)) (o + n) l (omega (arith, length-drop n (x ∷ xs), attribute_in_some p (x ∷ xs) n e))) [ inl k ↦ inl (k.0, attribute e k.1) | inr k ↦ inr (k.0, past_attribute e k.1) ]
      by None e = inr (NoToken o, no_token none e)

  at_other : is_space x ≡ false → (x == 10) ≡ false → (b q : Bool) → begins_bad_number (x ∷ xs) ≡ b → begins_quotes (x ∷ xs) ≡ q → begins_comment (x ∷ xs) ≡ false → Outcome p (x ∷ xs) o l
  at_other s n true q eb eq c = at_none (number eb)
  at_other s n false true eb eq c = at_none (quotes eq)
  at_other s n false false eb eq c = elim (longest (x ∷ xs)) [ inl t ↦ at_token eb eq c t.0 t.1 t.2 | inr none ↦ at_none (nothing s n c none) ]

  at_front : (s n c : Bool) → is_space x ≡ s → (x == 10) ≡ n → begins_comment (x ∷ xs) ≡ c → Outcome p (x ∷ xs) o l
  at_front true n c es en ec = elim (again xs (o + 1) l (omega arith)) [ inl k ↦ inl (k.0, blank es k.1) | inr k ↦ inr (k.0, past_blank es k.1) ]
  at_front false true c es en ec = elim (again xs (o + 1) (line_ended l) (omega arith)) [ inl k ↦ inl (comma_if l o k.0, new_line en k.1) | inr k ↦ inr (k.0, past_line en k.1) ]
  at_front false false true es en ec = at_comment ec
  at_front false false false es en ec = at_other es en (begins_bad_number (x ∷ xs)) (begins_quotes (x ∷ xs)) refl refl ec

goes : (p : Profile) (k : ℕ) (bs : List ℕ) (o : ℕ) (l : LineState) → length bs ≤ k → Outcome p bs o l
goes p k [] o l le = inl (comma_if l o (lexeme sorts.End [] o ∷ []), finish)
goes p zero (x ∷ xs) o l le = let never : ⊥ = omega arith in absurd never
goes p (suc k) (x ∷ xs) o l le = at_front p x xs o l (λ js q m h. goes p k js q m (omega arith)) (is_space x) (x == 10) (begins_comment (x ∷ xs)) refl refl refl

pub cut_or_stuck : (p : Profile) (bs : List ℕ) (o : ℕ) (l : LineState) → Outcome p bs o l
cut_or_stuck p bs o l = goes p (length bs) bs o l (omega arith)
