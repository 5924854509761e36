-- A mark at the front of a text.
use Rattle.std.proofs.Common.{◌≡◌, ◌≢◌, ℕ, zero, suc, ◌-◌, ◌<◌, ◌≤◌, List, [], ◌∷◌, length, take, get_or, Bool, true, false, cond, Some, None, refl, sym, subst, ◌∙◌, arith}
use Rattle.std.proofs.lemmas.Bool.Decides.{nat_tests}
use Rattle.std.specs.Prelude.{◌==◌}
use Rattle.std.specs.List.{list_any}
use Rattle.std.specs.Str.{bytes_eq}
use Rattle.cs_grammar.specs.declared.line.LineState.{LineState}
use Rattle.cs_grammar.specs.declared.token.Sort.{Sort}
use Rattle.cs_grammar.specs.declared.token.Sort.TheVariants as sorts
use Rattle.cs_grammar.specs.Spelling.{is_letter, is_digit, used_marks, left_out_marks, mark_sort, sort_of}
use Rattle.cs_grammar.specs.Cut.{Begins, begins_comment, is_space, is_out_of_range}
use Rattle.cs_grammar.specs.Stuck.{BeginsNone, NoneBegins, nothing}
use Rattle.cs_lexer.specs.Pieces.{Edges, longest_mark}
use Rattle.cs_lexer.proofs.Runs.{all_at}
use Rattle.cs_lexer.proofs.ByteClasses.{no_quotes_at}
use Rattle.cs_lexer.proofs.Marks.{is_ascii_byte, mark_ascii, NoneAbove, IsLongestMark, longest_mark_is}

ascii_is : (x : ℕ) → is_ascii_byte x ≡ true → x < 128
ascii_is x h = grind (arith, nat_tests)

-- no other token begins with the byte
pub record BeginsMark (x : ℕ) : Type 0 where
  pub no_letter : is_letter x ≡ false
  pub no_hash : (x == 35) ≡ false
  pub no_underscore : (x == 95) ≡ false
  pub no_digit : is_digit x ≡ false
  pub no_quote : (x == 34) ≡ false

module _ (x : ℕ) (xs : List ℕ) (h : BeginsMark x) where
  pub mark_is : (ts : List ℕ) → sort_of (x ∷ ts) ≡ mark_sort (x ∷ ts)
  mark_is ts = rw (h.no_letter, h.no_hash, h.no_underscore, h.no_digit, h.no_quote) refl

  mark_longer : (n : ℕ) → NoneAbove (x ∷ xs) n → (m : ℕ) → n < m → m ≤ length (x ∷ xs) → sort_of (take m (x ∷ xs)) ≡ None
  mark_longer n above zero lt le = refl
  mark_longer n above (suc m) lt le = mark_is (take m xs) ∙ above (suc m) lt le

  mark_begins : (l : LineState) (s : Sort) (n : ℕ) → 0 < n → n ≤ length (x ∷ xs) → mark_sort (take n (x ∷ xs)) ≡ Some s → NoneAbove (x ∷ xs) n → begins_comment (x ∷ xs) ≡ false → is_out_of_range l s (take n (x ∷ xs)) ≡ false → Begins l (x ∷ xs) n s
  mark_begins l s zero some within marked above plain fits = let never : ⊥ = omega arith in absurd never
  mark_begins l s (suc n) some within marked above plain fits = record {
    no_bad_number = rw h.no_digit refl;
    no_quotes = no_quotes_at x xs h.no_quote;
    no_comment = plain;
    in_range = fits;
    token = record { within = within; spelled = mark_is (take n xs) ∙ marked; longest = mark_longer (suc n) above };
  }

  mark_none : NoneAbove (x ∷ xs) 0 → BeginsNone (x ∷ xs)
  mark_none above zero le = refl
  mark_none above (suc m) le = mark_longer 0 above (suc m) (omega arith) le

-- a mark is no integer
mark_fits : (l : LineState) (t : List ℕ) (s : Sort) → mark_sort t ≡ Some s → is_out_of_range l s t ≡ false
mark_fits l t s h = fits (list_any (bytes_eq t) used_marks) (list_any (bytes_eq t) left_out_marks) h
  where
    fits : (b c : Bool) → cond b (Some sorts.Mark) (cond c (Some sorts.LeftOut) None) ≡ Some s → is_out_of_range l s t ≡ false
    fits true c e = let is : sorts.Mark ≡ s = cc in subst (λ k. is_out_of_range l k t ≡ false) is refl
    fits false true e = let is : sorts.LeftOut ≡ s = cc in subst (λ k. is_out_of_range l k t ≡ false) is refl
    fits false false e = absurd cc

mark_edges : (bs : List ℕ) (n : ℕ) (s : Sort) → 0 < n → n ≤ length bs → mark_sort (take n bs) ≡ Some s → Edges bs n
mark_edges bs n s some within marked =
    let all = mark_ascii (take n bs) s marked in
    record {
      some = some;
      within = within;
      first = ascii_is (get_or bs 0 0) (all_at is_ascii_byte bs n 0 all some within);
      last = ascii_is (get_or bs (n - 1) 0) (all_at is_ascii_byte bs n (n - 1) all (omega arith) within);
    }

module _ (l : LineState) (bs : List ℕ) (h : 0 < length bs) (a : is_letter (get_or bs 0 0) ≡ false) (d : is_digit (get_or bs 0 0) ≡ false) (b : get_or bs 0 0 ≢ 35) (u : get_or bs 0 0 ≢ 95) (q : get_or bs 0 0 ≢ 34) (plain : begins_comment bs ≡ false) where
  first : BeginsMark (get_or bs 0 0)
  first = record { no_letter = a; no_hash = grind (arith, nat_tests); no_underscore = grind (arith, nat_tests); no_digit = d; no_quote = grind (arith, nat_tests) }

  pub mark_case : (s : Sort) (n : ℕ) → Some (s, n) ≡ longest_mark bs → Begins l bs n s × Edges bs n
  mark_case s n e =
      let m : IsLongestMark bs (Some (s, n)) = subst (IsLongestMark bs) (sym e) (longest_mark_is bs) in
      (begun bs h first plain m, mark_edges bs n s m.0 m.1 m.2)
    where
      begun : (bs : List ℕ) → 0 < length bs → BeginsMark (get_or bs 0 0) → begins_comment bs ≡ false → IsLongestMark bs (Some (s, n)) → Begins l bs n s
      begun [] h f p m = let never : ⊥ = omega arith in absurd never
      begun (x ∷ xs) h f p m = mark_begins x xs f l s n m.0 m.1 m.2 m.3 p (mark_fits l (take n (x ∷ xs)) s m.2)

  pub bad_mark_case : None ≡ longest_mark bs → is_space (get_or bs 0 0) ≡ false → get_or bs 0 0 ≢ 10 → NoneBegins bs
  bad_mark_case e s n =
      let m : IsLongestMark bs None = subst (IsLongestMark bs) (sym e) (longest_mark_is bs) in
      refused bs h first plain s (grind (arith, nat_tests)) m
    where
      refused : (bs : List ℕ) → 0 < length bs → BeginsMark (get_or bs 0 0) → begins_comment bs ≡ false → is_space (get_or bs 0 0) ≡ false → (get_or bs 0 0 == 10) ≡ false → NoneAbove bs 0 → NoneBegins bs
      refused [] h f p s n m = let never : ⊥ = omega arith in absurd never
      refused (x ∷ xs) h f p s n m = nothing s n p (mark_none x xs f m)
