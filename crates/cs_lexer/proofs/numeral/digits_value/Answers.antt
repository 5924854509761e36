use Rattle.std.proofs.Common.{◌≡◌, false, get_or, arith}
use Rattle.std.proofs.lemmas.Bool.Decides.{nat_tests}
use Rattle.std.specs.Prelude.{◌==◌}
use Rattle.cs_lexer.proofs.Numerals.{product_fits, sum_fits}
use Rattle.cs_lexer.proofs.numeral.digits_value.Goals as goal

pub returns-in_err-checked_mul : goal.returns-in_err-checked_mul
returns-in_err-checked_mul c =
    let digit : (get_or c.args.digits.now c.loop-x.x-index 0 == 95) ≡ false = grind (arith, nat_tests, c.if-x-ne95.true) in
    rw c.from_residual.ensures (λ fits. c.in_err-checked_mul.ensures (product_fits c.args.base c.requires c.args.digits.now c.loop-x.x-index c.loop-x.value c.loop-x.invariant.so_far (omega arith) digit fits))

pub returns-in_err-value : goal.returns-in_err-value
returns-in_err-value c =
    let digit : (get_or c.args.digits.now c.loop-x.x-index 0 == 95) ≡ false = grind (arith, nat_tests, c.if-x-ne95.true) in
    rw c.from_residual-in_err-value.ensures (λ fits. let h = sum_fits c.args.base c.requires c.args.digits.now c.loop-x.x-index c.loop-x.value c.loop-x.invariant.so_far (omega arith) digit fits in c.in_err-value.ensures (omega (arith, h, c.in_ok-checked_mul.ensures, c.digit_value.ensures)))
