use Rattle.std.proofs.Common.{◌||◌, [], cond, string_bytes, sym, ap, ◌∙◌}
use Rattle.cs_grammar.specs.View.{expr_view}
use Rattle.cs_defaults.specs.Absent.{is_repeated, excluded}
use Rattle.cs_defaults.specs.Leading.{leading, place_of}
use Rattle.cs_defaults.proofs.absent.Clashes.excluded.Goals as goal

pub returns-in-Regular : goal.returns-in-Regular
returns-in-Regular c has absent tells told =
    let f = c.args.field.now in
    let every = c.args.absences.now.has_every in
    let asked = ap (λ s. every || is_repeated s absent) (sym c.deref.ensures) ∙ sym (c.exclude.ensures absent told) ∙ c.if-exclude.true in
    c.place_of.ensures has tells ∙ sym (ap (λ m. excluded has every absent (string_bytes f.label) m (expr_view f.value)) c.in-Regular.is ∙ ap (λ b. cond b (place_of has (leading (expr_view f.value))) []) asked)

pub returns-in-Regular-2 : goal.returns-in-Regular-2
returns-in-Regular-2 c has absent tells told =
    let f = c.args.field.now in
    let every = c.args.absences.now.has_every in
    let asked = ap (λ s. every || is_repeated s absent) (sym c.deref.ensures) ∙ sym (c.exclude.ensures absent told) ∙ c.if-exclude.false in
    sym (ap (λ m. excluded has every absent (string_bytes f.label) m (expr_view f.value)) c.in-Regular.is ∙ ap (λ b. cond b (place_of has (leading (expr_view f.value))) []) asked)
