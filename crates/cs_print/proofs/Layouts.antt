-- How parts are laid out where there are some.
use Rattle.std.proofs.Common.{◌≡◌, ℕ, suc, List, [], ◌∷◌, ◌++◌, length, false, refl, ap, ◌∙◌, append_assoc, arith}
use Rattle.cs_grammar.specs.declared.ast.Expr.{Expr}
use Rattle.cs_grammar.specs.declared.ast.Field.{Field}
use Rattle.cs_grammar.specs.View.{exprs_view, fields_view}
use Rattle.cs_print.specs.Layout.{is_no_field, is_no_element}
use Rattle.std.specs.Prelude.{◌==◌}
use Rattle.std.proofs.lemmas.Bool.Decides.{nat_tests}

not_zero : (n : ℕ) → (suc n == 0) ≡ false
not_zero n = grind (arith, nat_tests)

pub no_elements : (es : List Expr) → (length es == 0) ≡ is_no_element (exprs_view es)
no_elements [] = refl
no_elements (e ∷ es) = not_zero (length es)

pub no_fields : (fs : List Field) → (length fs == 0) ≡ is_no_field (fields_view fs)
no_fields [] = refl
no_fields (f ∷ fs) = not_zero (length fs)

-- one text behind another
pub two_put : (old a b now new : List ℕ) → now ≡ old ++ a → new ≡ now ++ b → new ≡ old ++ (a ++ b)
two_put old a b now new first second = second ∙ ap (λ t. t ++ b) first ∙ append_assoc old a b

pub four_put : (old a b c d x y z new : List ℕ) → x ≡ old ++ a → y ≡ x ++ b → z ≡ y ++ c → new ≡ z ++ d → new ≡ old ++ (a ++ (b ++ (c ++ d)))
four_put old a b c d x y z new p q r s = two_put old a (b ++ (c ++ d)) x new p (two_put x b (c ++ d) y new q (two_put y c d z new r s))
