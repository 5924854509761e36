use Rattle.std.proofs.Common.{◌≡◌, ℕ, ◌<◌, true, false, List, [], ◌∷◌, Bor, Result, Ok, Err, Equal, IfOk, HoldsAt, is_err, get_or, length, map, ap, sym, ◌∙◌, arith}
use Rattle.std.specs.List.Sorted.{IsSearchInRange}
use Rattle.std.specs.Ordering.{nat_cmp, is_eq}
use Rattle.std.specs.Cmp.Lexicographic.{slice_cmp, texts_ties, nat_list_eq_equiv}
use Rattle.std.specs.Str.{bytes_eq}
use Rattle.std.proofs.lemmas.List.Folds.{list_any_at}
use Rattle.cs_instance.specs.Constraint.{allows}
use Rattle.cs_instance.specs.Steps.{field_of}
use Rattle.cs_question.specs.Spread.{is_among}
use Rattle.cs_question.proofs.Loops.{any_then}
use Rattle.cs_question.proofs.Mapped.{among_label}
use Rattle.cs_question.proofs.Some.{or_false}
use Rattle.cs_question.proofs.maps.are_all_among.Goals as goal

-- a key that is found among labels
among : (ls : List (Bor (List ℕ))) (k : List ℕ) (r : Result ℕ ℕ) → is_err r ≡ false → IsSearchInRange r (length ls) → IfOk r (HoldsAt (λ l. slice_cmp nat_cmp l.now k ≡ Equal) ls) → is_among ls k ≡ true
among [] k (Ok i) e within here = absurd (let w : i < 0 = within in omega (arith, w))
among (l ∷ ls) k (Ok i) e within here =
    let m = (get_or (l ∷ ls) i l).now in
    list_any_at (λ m. bytes_eq k m.now) (l ∷ ls) i l within (nat_list_eq_equiv.symm k m ∙ texts_ties m k ∙ ap is_eq (here l))
among ls k (Err i) e within here = cc

pub loop-field-preserved : goal.loop-field-preserved
loop-field-preserved c = λ k h.
    any_then field_of c.args.fields.now c.loop-field.field-index (λ d. allows d k) _ c.loop-field-test.true (is_among c.args.labels.now k ≡ true)
    (λ a. c.loop-field.invariant k a)
    (λ b. among_label c.args.labels.now k _ (or_false _ _ (sym c.is_for_every_key.ensures ∙ c.if-is_for_every_key.false) b) (among c.args.labels.now _ c.binary_search.result (sym c.is_err.ensures.value ∙ c.if-is_err.false) c.binary_search.ensures.bound c.binary_search.ensures.ok)) h
