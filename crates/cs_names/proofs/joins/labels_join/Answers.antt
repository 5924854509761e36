use Rattle.std.proofs.Common.{◌≡◌, suc, Bool, true, false, ◌||◌, ◌&&◌, nat_lt, List, [], ◌∷◌, length, refl, sym, ap₂, ◌∙◌, arith}
use Rattle.std.proofs.lemmas.Bool.Decides.{nat_tests}
use Rattle.cs_grammar.specs.View.{fields_view}
use Rattle.cs_grammar.specs.declared.ast.Field.{Field}
use Rattle.cs_names.specs.Joined.{are_two}
use Rattle.cs_names.proofs.joins.labels_join.Goals as goal

two : (fs : List Field) → nat_lt 1 (length fs) ≡ are_two (fields_view fs)
two [] = refl
two (f ∷ []) = refl
two (f ∷ (g ∷ fs)) = by (nat_lt 1 (suc (suc (length fs)))) refl
  where
    by : (b : Bool) → nat_lt 1 (suc (suc (length fs))) ≡ b → b ≡ true
    by true e = refl
    by false e = absurd (grind (arith, nat_tests))

pub returns-then-some_every : goal.returns-then-some_every
returns-then-some_every c =
    let fs = c.args.fields.now in
    two fs ∙ sym (ap₂ (λ a b. a || (b && are_two (fields_view fs))) (sym c.in_ok-has_label_twice.ensures ∙ c.if-branch.false) (sym c.if-some_every.ensures))
