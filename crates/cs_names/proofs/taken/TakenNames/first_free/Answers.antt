use Rattle.std.proofs.Common.{rules, ◌≡◌, true, false, sym, ap, ◌∙◌, arith}
use Rattle.cs_names.specs.Lifted.{all_numbers}
use Rattle.cs_names.specs.Taken.{is_named}
use Rattle.cs_names.proofs.Free.{number_free, all_below, begun, behind_next}
use Rattle.cs_names.proofs.taken.TakenNames.first_free.Goals as goal

pub returns-then-not-is_taken-clause-found : goal.returns-then-not-is_taken-clause-found
returns-then-not-is_taken-clause-found c all given tells behind =
    let n = c.loop-number.number in
    let w = c.args.wanted.now in
    let f = is_named all given in
    let fits = all_below n (omega (arith, c.loop-number-test.true)) in
    let free : c.is_taken.result ≡ false = search (rules, c.if-not-is_taken.true) in
    let told = ap f (sym (c.deref.ensures ∙ c.in_ok-name.ensures)) ∙ sym (c.is_taken.ensures all given tells) ∙ free in
    c.in_ok-name.ensures ∙ sym (begun f w n fits (c.loop-number.invariant all given tells behind) ∙ number_free f w all_numbers n fits told)

pub loop-number-preserved : goal.loop-number-preserved
loop-number-preserved c all given tells behind =
    let n = c.loop-number.number in
    let w = c.args.wanted.now in
    let f = is_named all given in
    let taken : c.is_taken.result ≡ true = search (rules, c.if-not-is_taken.false) in
    behind_next f w n (c.loop-number.invariant all given tells behind) (ap f (sym (c.deref.ensures ∙ c.in_ok-name.ensures)) ∙ sym (c.is_taken.ensures all given tells) ∙ taken)
