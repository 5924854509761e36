-- What the loop of the lexer keeps: whatever cuts the rest completes the cut of the whole text, and where the rest is stuck, so is the text.
use Rattle.std.proofs.Common.{◌≡◌, ℕ, ◌+◌, ◌-◌, ◌<◌, ◌≤◌, List, [], ◌∷◌, ◌++◌, length, take, drop, get_or, drop-cons, get_or-drop, IsUtf8, Bool, true, false, cond, Some, None, refl, sym, ap, subst, ◌∙◌, append_assoc, arith}
use Rattle.std.proofs.Math.Numerals.{add-one}
use Rattle.std.proofs.Math.ListN.{drop_of_length-le}
use Rattle.std.proofs.lemmas.List.{drop-drop, take_all, length-drop}
use Rattle.std.proofs.lemmas.Bool.Decides.{nat_tests}
use Rattle.std.specs.Prelude.{◌==◌, not}
use Rattle.std.specs.Str.{IsCharBoundary}
use Rattle.std.proofs.lemmas.Str.{IsCharBoundary-after_ascii}
use Rattle.cs_grammar.specs.declared.token.Sort.{Sort}
use Rattle.cs_grammar.specs.declared.token.Sort.TheVariants as sorts
use Rattle.cs_grammar.specs.declared.line.LineState.{LineState}
use Rattle.cs_grammar.specs.declared.line.LineState.TheVariants.{Plain, WantsComma, Minus}
use Rattle.cs_grammar.specs.declared.fault.SyntaxFault.{SyntaxFault}
use Rattle.cs_grammar.specs.declared.fault.SyntaxFault.TheVariants.{NoToken, IntegerRange}
use Rattle.cs_grammar.specs.declared.profile.Profile.{Profile}
use Rattle.cs_grammar.specs.Attribute.{attribute_in}
use Rattle.cs_lexer.proofs.Attributes.{attribute_in_within}
use Rattle.cs_lexer.specs.Pieces.{Edges}
use Rattle.cs_lexer.proofs.Runs.{prefix_within}
use Rattle.cs_grammar.specs.Cut.{is_space, Begins, Lexeme, lexeme, line_after, line_ended, line_len, begins_comment, comma_if, blank, new_line, comment, attribute, token, finish}
use Rattle.cs_grammar.specs.CutIn.{CutIn}
use Rattle.cs_grammar.specs.Stuck.{NoneBegins, TooLarge, StuckIn, no_token, too_large, past_blank, past_line, past_comment, past_attribute, past_token}

pub record Before (p : Profile) (bs : List ℕ) (at : ℕ) (l : LineState) (front : List Lexeme) : Type 0 where
  pub cut : (ks : List Lexeme) → CutIn p (drop at bs) at l ks → CutIn p bs 0 Plain (front ++ ks)
  pub stuck : (f : SyntaxFault) → StuckIn p (drop at bs) at l f → StuckIn p bs 0 Plain f

pub comma_front : (front ks : List Lexeme) (l : LineState) (o : ℕ) → (front ++ comma_if l o []) ++ ks ≡ front ++ comma_if l o ks
comma_front front ks WantsComma o = append_assoc front (comma_if WantsComma o []) ks
comma_front front ks Plain o = append_assoc front [] ks
comma_front front ks Minus o = append_assoc front [] ks

whole_rest : (bs : List ℕ) (at : ℕ) → take (length bs - at) (drop at bs) ≡ drop at bs
whole_rest bs at = take_all (length bs - at) (drop at bs) (omega (arith, length-drop at bs))

-- ---- the turns of the loop

module _ (p : Profile) (bs : List ℕ) (at : ℕ) (l : LineState) (front : List Lexeme) (b : Before p bs at l front) where
  module _ (lt : at < length bs) where
    first_is : drop at bs ≡ get_or bs at 0 ∷ drop (at + 1) bs
    first_is = rw add-one (drop-cons bs at 0 lt)

    after_blank : is_space (get_or bs at 0) ≡ true → Before p bs (at + 1) l front
    after_blank h = record {
      cut = λ ks k. b.cut ks (subst (λ t. CutIn p t at l ks) (sym first_is) (blank h k));
      stuck = λ f k. b.stuck f (subst (λ t. StuckIn p t at l f) (sym first_is) (past_blank h k));
    }

    after_line : (get_or bs at 0 == 10) ≡ true → Before p bs (at + 1) (line_ended l) (front ++ comma_if l at [])
    after_line h = record {
      cut = λ ks k. subst (λ xs. CutIn p bs 0 Plain xs) (sym (comma_front front ks l at)) (b.cut (comma_if l at ks) (subst (λ t. CutIn p t at l (comma_if l at ks)) (sym first_is) (new_line h k)));
      stuck = λ f k. b.stuck f (subst (λ t. StuckIn p t at l f) (sym first_is) (past_line h k));
    }

  after_comment : begins_comment (drop at bs) ≡ true → Before p bs (at + line_len (drop at bs)) (line_ended l) (front ++ comma_if l at [])
  after_comment h = record {
    cut = λ ks k. subst (λ xs. CutIn p bs 0 Plain xs) (sym (comma_front front ks l at)) (b.cut (comma_if l at ks) (comment h (subst (λ t. CutIn p t (at + line_len (drop at bs)) (line_ended l) ks) moved k)));
    stuck = λ f k. b.stuck f (past_comment h (subst (λ t. StuckIn p t (at + line_len (drop at bs)) (line_ended l) f) moved k));
  }
    where
      moved : drop (at + line_len (drop at bs)) bs ≡ drop (line_len (drop at bs)) (drop at bs)
      moved = grind (arith, drop-drop)

  after_attribute : (n : ℕ) → attribute_in p (drop at bs) ≡ Some n → Before p bs (at + n) l front
  after_attribute n h = record {
    cut = λ ks k. b.cut ks (attribute h (subst (λ t. CutIn p t (at + n) l ks) moved k));
    stuck = λ f k. b.stuck f (past_attribute h (subst (λ t. StuckIn p t (at + n) l f) moved k));
  }
    where
      moved : drop (at + n) bs ≡ drop n (drop at bs)
      moved = grind (arith, drop-drop)

  after_token : (n : ℕ) (s : Sort) → Begins l (drop at bs) n s → Before p bs (at + n) (line_after s (take n (drop at bs))) (front ++ lexeme s (take n (drop at bs)) at ∷ [])
  after_token n s h = record {
    cut = λ ks k. subst (λ xs. CutIn p bs 0 Plain xs) (sym (append_assoc front (lexeme s (take n (drop at bs)) at ∷ []) ks)) (b.cut (lexeme s (take n (drop at bs)) at ∷ ks) (token h (subst (λ t. CutIn p t (at + n) (line_after s (take n (drop at bs))) ks) moved k)));
    stuck = λ f k. b.stuck f (past_token h (subst (λ t. StuckIn p t (at + n) (line_after s (take n (drop at bs))) f) moved k));
  }
    where
      moved : drop (at + n) bs ≡ drop n (drop at bs)
      moved = grind (arith, drop-drop)

  pub at_end : length bs ≤ at → CutIn p bs 0 Plain (front ++ comma_if l at (lexeme sorts.End [] at ∷ []))
  at_end le = b.cut (comma_if l at (lexeme sorts.End [] at ∷ [])) (subst (λ t. CutIn p t at l (comma_if l at (lexeme sorts.End [] at ∷ []))) (sym (drop_of_length-le bs le)) finish)

-- ---- the same, of what the code has in hand

abbrev pub rest : List ℕ → ℕ → List ℕ
rest bs at = take (length bs - at) (drop at bs)

module _ (p : Profile) (bs : List ℕ) (at : ℕ) (l : LineState) (front : List Lexeme) (b : Before p bs at l front) where
  pub turn_blank : at < length bs → is_space (get_or (rest bs at) 0 0) ≡ true → Before p bs (at + 1) l front
  turn_blank lt h = after_blank p bs at l front b lt (rw (whole_rest, first_is p bs at l front b lt) at h)

  pub turn_line : at < length bs → (get_or (rest bs at) 0 0 == 10) ≡ true → Before p bs (at + 1) (line_ended l) (front ++ comma_if l at [])
  turn_line lt h = after_line p bs at l front b lt (rw (whole_rest, first_is p bs at l front b lt) at h)

  pub turn_comment : (n : ℕ) → begins_comment (rest bs at) ≡ true → n ≡ line_len (rest bs at) → Before p bs (at + n) (line_ended l) (front ++ comma_if l at [])
  turn_comment n h e =
      let is : n ≡ line_len (drop at bs) = e ∙ ap line_len (whole_rest bs at) in
      rw is (after_comment p bs at l front b (rw whole_rest at h))

  pub turn_attribute : (n : ℕ) → attribute_in p (rest bs at) ≡ Some n → Before p bs (at + n) l front
  turn_attribute n h = after_attribute p bs at l front b n (subst (λ t. attribute_in p t ≡ Some n) (whole_rest bs at) h)

  pub turn_token : (n : ℕ) (s : Sort) → Begins l (rest bs at) n s → Before p bs (at + n) (line_after s (take n (drop at bs))) (front ++ lexeme s (take n (drop at bs)) at ∷ [])
  turn_token n s h = after_token p bs at l front b n s (subst (λ t. Begins l t n s) (whole_rest bs at) h)

  pub turn_none : NoneBegins (rest bs at) → attribute_in p (rest bs at) ≡ None → StuckIn p bs 0 Plain (NoToken at)
  turn_none h i = b.stuck (NoToken at) (no_token (subst NoneBegins (whole_rest bs at) h) (subst (λ t. attribute_in p t ≡ None) (whole_rest bs at) i))

  pub turn_large : (n : ℕ) → TooLarge l (rest bs at) n → StuckIn p bs 0 Plain (IntegerRange at)
  turn_large n h = b.stuck (IntegerRange at) (too_large (subst (λ t. TooLarge l t n) (whole_rest bs at) h))

pub line_within : (bs : List ℕ) → line_len bs ≤ length bs
line_within bs = prefix_within (λ x. not (x == 10)) bs

pub comment_within : (bs : List ℕ) (at n : ℕ) → at ≤ length bs → n ≡ line_len (rest bs at) → at + n ≤ length bs
comment_within bs at n le e = omega (arith, e, line_within (rest bs at), ap length (whole_rest bs at), length-drop at bs)

pub attribute_within : (p : Profile) (bs : List ℕ) (at n : ℕ) → at ≤ length bs → attribute_in p (rest bs at) ≡ Some n → at + n ≤ length bs
attribute_within p bs at n le h = omega (arith, attribute_in_within p (rest bs at) n h, ap length (whole_rest bs at), length-drop at bs)

-- a comment is no empty line
pub comment_some : (bs : List ℕ) → begins_comment bs ≡ true → 0 < line_len bs
comment_some [] h = absurd cc
comment_some (x ∷ []) h = absurd cc
comment_some (x ∷ y ∷ xs) h = by (x == 10) refl
  where
    by : (b : Bool) → (x == 10) ≡ b → 0 < cond (not b) (1 + line_len (y ∷ xs)) 0
    by true e = let never : ⊥ = grind (arith, nat_tests) in absurd never
    by false e = omega arith

-- ---- slices

pub token_within : (bs : List ℕ) (at n : ℕ) → at ≤ length bs → Edges (rest bs at) n → at + n ≤ length bs
token_within bs at n le h = omega (arith, h.within, ap length (whole_rest bs at), length-drop at bs)

pub token_boundary : (bs : List ℕ) (at n : ℕ) → IsUtf8 bs → at ≤ length bs → Edges (rest bs at) n → IsCharBoundary bs (at + n)
token_boundary bs at n utf8 le h =
    let within = token_within bs at n le h in
    let some = h.some in
    let same : get_or (rest bs at) (n - 1) 0 ≡ get_or bs (at + (n - 1)) 0 = ap (λ t. get_or t (n - 1) 0) (whole_rest bs at) ∙ get_or-drop at bs (n - 1) 0 in
    let next : at + (n - 1) + 1 ≡ at + n = omega arith in
    subst (λ k. IsCharBoundary bs k) next (IsCharBoundary-after_ascii bs (at + (n - 1)) utf8 (omega arith) (omega (arith, h.last, same)))
