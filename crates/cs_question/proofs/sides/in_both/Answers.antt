use Rattle.std.proofs.Common.{◌≡◌, ℤ, int_le, int_cmp, Bool, true, false, ◌&&◌, Option, Some, None, refl, sym, ap, ap₂, ◌∙◌, arith}
use Rattle.std.specs.Ordering.{ord_max, ord_min}
use Rattle.std.specs.Option.{option_cmp, option_or}
use Rattle.std.proofs.lemmas.Int.{ints}
use Rattle.cs_instance.specs.Constraint.{at_most_or_any}
use Rattle.cs_question.specs.Between.{at_least_or_any}
use Rattle.cs_question.proofs.Between.{and_true}
use Rattle.cs_question.proofs.sides.in_both.Goals as goal

abbrev greater : Option ℤ → Option ℤ → Option ℤ
greater = ord_max (option_cmp int_cmp)

abbrev less : Option ℤ → Option ℤ → Option ℤ
less = ord_min (option_cmp int_cmp)

-- what is at least the greater one of two limits is at least both
greater_told : (a b : Option ℤ) (z : ℤ) → at_least_or_any (greater a b) z ≡ (at_least_or_any a z && at_least_or_any b z)
greater_told None None z = refl
greater_told (Some x) None z = sym (and_true (int_le x z))
greater_told None (Some y) z = refl
greater_told (Some x) (Some y) z = grind (arith, ints)

-- what is at most the less one of those that are there is at most both
less_told : (a b : Option ℤ) (z : ℤ) → at_most_or_any (option_or (less a b) (greater a b)) z ≡ (at_most_or_any a z && at_most_or_any b z)
less_told None None z = refl
less_told (Some x) None z = sym (and_true (int_le z x))
less_told None (Some y) z = refl
less_told (Some x) (Some y) z = grind (arith, ints)

regrouped : (a b c d : Bool) → ((a && b) && (c && d)) ≡ ((a && c) && (b && d))
regrouped true true c d = refl
regrouped true false true d = refl
regrouped true false false d = refl
regrouped false b c d = refl

pub returns : goal.returns
returns c = λ z.
    ap₂ ◌&&◌ (ap (λ o. at_least_or_any o z) c.max-2.ensures ∙ greater_told c.args.first.0 c.args.second.0 z)
    (ap (λ o. at_most_or_any o z) (c.or-greatest.ensures ∙ ap₂ option_or c.min.ensures c.max.ensures) ∙ less_told c.args.first.1 c.args.second.1 z)
    ∙ regrouped (at_least_or_any c.args.first.0 z) (at_least_or_any c.args.second.0 z) (at_most_or_any c.args.first.1 z) (at_most_or_any c.args.second.1 z)
