use Rattle.std.proofs.Common.{◌≡◌, Bool, true, false, not, None, Some, drop, ◌+◌, sym, ap, ◌∙◌}
use Rattle.cs_names.specs.Scopes.{entry, is_field, or_field}
use Rattle.cs_names.proofs.Tables.{scopes_at, scopes_end}
use Rattle.cs_names.proofs.scopes.is_field.Goals as goal

other_way : (a b : Bool) → a ≡ not b → b ≡ not a
other_way a true h = ap not (sym h)
other_way a false h = ap not (sym h)

pub returns-in-Some : goal.returns-in-Some
returns-in-Some c ss told =
    let i = c.loop-around.around-index in
    let s = c.args.name.now in
    let here = scopes_at c.args.scopes.now ss i c.around-item.result told c.loop-around-test.true c.around-item.is in
    let is : entry here.0 s ≡ Some c.in-Some.entry = sym (here.2 s) ∙ sym c.in-Some.ensures in
    other_way _ _ c.is_none.ensures ∙ sym (c.loop-around.invariant ss told ∙ ap (λ xs. is_field xs s) here.1 ∙ ap (λ o. or_field o (is_field (drop (i + 1) ss) s)) is)

pub loop-around-preserved : goal.loop-around-preserved
loop-around-preserved c ss told =
    let i = c.loop-around.around-index in
    let s = c.args.name.now in
    let here = scopes_at c.args.scopes.now ss i c.around-item.result told c.loop-around-test.true c.around-item.is in
    let is : entry here.0 s ≡ None = sym (here.2 s) ∙ sym c.in_default.ensures in
    c.loop-around.invariant ss told ∙ ap (λ xs. is_field xs s) here.1 ∙ ap (λ o. or_field o (is_field (drop (i + 1) ss) s)) is

pub returns : goal.returns
returns c ss told =
    let s = c.args.name.now in
    sym (c.loop-around.invariant ss told ∙ ap (λ xs. is_field xs s) (scopes_end c.args.scopes.now ss c.loop-around.around-index told c.loop-around-test.false))
