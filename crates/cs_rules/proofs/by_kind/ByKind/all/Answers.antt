use Rattle.std.proofs.Common.{◌≡◌, ℕ, ◌+◌, ◌∷◌, drop, drop-cons, get_or, add-one, Some, true, ap, sym, ◌∙◌}
use Rattle.cs_document.proofs.Maps.{drop_past}
use Rattle.cs_document.specs.Opened.{Opened}
use Rattle.cs_rules.specs.Kinds.{verdict_of, both, decided_by, all_decided}
use Rattle.cs_rules.proofs.Foretold.{verdict_of-same, both_true, both_assoc, all_decides}
use Rattle.cs_rules.proofs.by_kind.ByKind.all.Goals as goal

pub loop-rule-init : goal.loop-rule-init
loop-rule-init c = λ x. ap (λ o. both o (all_decided c.args.earlier.now x c.args.rules.now)) (sym (ap (λ k. verdict_of k x) c.of-verdicts.ensures ∙ verdict_of-same (Some true) x))

pub loop-rule-preserved : goal.loop-rule-preserved
loop-rule-preserved c = λ x.
    let ks = c.args.earlier.now in
    let rs = c.args.rules.now in
    let i = c.loop-rule.rule-index in
    let rest = all_decided ks x (drop (i + 1) rs) in
    let next = ap (all_decided ks x) (let e : drop i rs ≡ get_or rs i 0 ∷ drop (i + 1) rs = rw (add-one, drop-cons rs i 0 c.loop-rule-test.true) in e) in
    c.loop-rule.invariant x ∙ ap (both (verdict_of c.loop-rule.verdicts x)) next
    ∙ sym (both_assoc (verdict_of c.loop-rule.verdicts x) (decided_by ks x (get_or rs i 0)) rest)
    ∙ ap (λ o. both o rest) (ap (both (verdict_of c.loop-rule.verdicts x)) (sym (c.at.ensures x)) ∙ sym (c.and-verdicts.ensures x))

returned : (c : goal.After-loop-rule) (x : Opened ℕ) → verdict_of c.loop-rule.verdicts x ≡ all_decided c.args.earlier.now x c.args.rules.now
returned c x =
    let past = drop_past c.args.rules.now c.loop-rule.rule-index c.loop-rule-test.false in
    sym (c.loop-rule.invariant x ∙ ap (λ rs. both (verdict_of c.loop-rule.verdicts x) (all_decided c.args.earlier.now x rs)) past ∙ both_true (verdict_of c.loop-rule.verdicts x))

pub returns-clause-found : goal.returns-clause-found
returns-clause-found c = returned c

pub returns-clause-decides : goal.returns-clause-decides
returns-clause-decides c = λ x here h b e. all_decides c.args.earlier.now x here h c.args.rules.now b (sym (returned c x) ∙ e)
