use Rattle.std.proofs.Common.{sym, subst, ◌∙◌, ◌≡◌, IfOk}
use Rattle.std.specs.Option.{option_map}
use Rattle.cs_grammar.specs.View.{expr_view}
use Rattle.cs_plain.proofs.Values.{fits_there, fits_nowhere}
use Rattle.cs_plain.proofs.placed.Placing.fitting.Goals as goal

pub returns-then-fits : goal.returns-then-fits
returns-then-fits c =
    subst (λ v. IfOk c.plain.result (λ o. option_map expr_view o ≡ v)) (sym (fits_there c.args.standing (expr_view c.args.value.now) (sym c.fits.ensures ∙ c.if-fits.true))) c.plain.ensures

pub returns-else-fits : goal.returns-else-fits
returns-else-fits c = sym (fits_nowhere c.args.standing (expr_view c.args.value.now) (sym c.fits.ensures ∙ c.if-fits.false))
