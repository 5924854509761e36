use Rattle.std.proofs.Common.{◌≡◌, ℕ, ◌+◌, ◌∷◌, drop, drop-cons, get_or, add-one, Some, false, ap, sym, ◌∙◌}
use Rattle.cs_document.proofs.Maps.{drop_past}
use Rattle.cs_document.specs.Opened.{Opened}
use Rattle.cs_rules.specs.Kinds.{verdict_of, either, decided_by, any_decided}
use Rattle.cs_rules.proofs.Foretold.{verdict_of-same, either_false, either_assoc, any_decides}
use Rattle.cs_rules.proofs.by_kind.ByKind.any.Goals as goal

pub loop-rule-init : goal.loop-rule-init
loop-rule-init c = λ x. ap (λ o. either o (any_decided c.args.earlier.now x c.args.rules.now)) (sym (ap (λ k. verdict_of k x) c.of-verdicts.ensures ∙ verdict_of-same (Some false) x))

pub loop-rule-preserved : goal.loop-rule-preserved
loop-rule-preserved c = λ x.
    let ks = c.args.earlier.now in
    let rs = c.args.rules.now in
    let i = c.loop-rule.rule-index in
    let rest = any_decided ks x (drop (i + 1) rs) in
    let next = ap (any_decided ks x) (let e : drop i rs ≡ get_or rs i 0 ∷ drop (i + 1) rs = rw (add-one, drop-cons rs i 0 c.loop-rule-test.true) in e) in
    c.loop-rule.invariant x ∙ ap (either (verdict_of c.loop-rule.verdicts x)) next
    ∙ sym (either_assoc (verdict_of c.loop-rule.verdicts x) (decided_by ks x (get_or rs i 0)) rest)
    ∙ ap (λ o. either o rest) (ap (either (verdict_of c.loop-rule.verdicts x)) (sym (c.at.ensures x)) ∙ sym (c.or-verdicts.ensures x))

returned : (c : goal.After-loop-rule) (x : Opened ℕ) → verdict_of c.loop-rule.verdicts x ≡ any_decided c.args.earlier.now x c.args.rules.now
returned c x =
    let past = drop_past c.args.rules.now c.loop-rule.rule-index c.loop-rule-test.false in
    sym (c.loop-rule.invariant x ∙ ap (λ rs. either (verdict_of c.loop-rule.verdicts x) (any_decided c.args.earlier.now x rs)) past ∙ either_false (verdict_of c.loop-rule.verdicts x))

pub returns-clause-found : goal.returns-clause-found
returns-clause-found c = returned c

pub returns-clause-decides : goal.returns-clause-decides
returns-clause-decides c = λ x here h b e. any_decides c.args.earlier.now x here h c.args.rules.now b (sym (returned c x) ∙ e)
