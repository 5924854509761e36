use Rattle.std.proofs.Common.{◌+◌, map, drop, sym, ap, ◌∙◌}
use Rattle.cs_document.specs.View.{doc_view}
use Rattle.cs_document.proofs.Maps.{drop_at, drop_past}
use Rattle.cs_rules.specs.Kinds.{either, verdict_of}
use Rattle.cs_validate.specs.Kinds.{equals_by_kind, among_by_kind}
use Rattle.cs_validate.proofs.ByKind.{same_for_all, either_no, either_assoc}
use Rattle.cs_validate.proofs.by_kind.by_values.Goals as goal

pub loop-value-init : goal.loop-value-init
loop-value-init c = λ x. ap (λ o. either o (among_by_kind (map doc_view c.args.values.now) x)) (ap (λ k. verdict_of k x) c.of-verdicts.ensures ∙ same_for_all _ x)

pub loop-value-preserved : goal.loop-value-preserved
loop-value-preserved c = λ x.
    let vs = c.args.values.now in
    let so_far = verdict_of c.loop-value.verdicts x in
    let others = among_by_kind (map doc_view (drop (c.loop-value.value-index + 1) vs)) x in
    ap (λ o. either o others) (c.or-verdicts.ensures x ∙ ap (either so_far) (c.by_value.ensures x))
    ∙ either_assoc so_far (equals_by_kind (doc_view c.value-item.result) x) others
    ∙ ap (λ ys. either so_far (among_by_kind (map doc_view ys) x)) (sym (drop_at vs c.loop-value.value-index c.value-item.result c.loop-value-test.true c.value-item.is))
    ∙ c.loop-value.invariant x

pub returns : goal.returns
returns c = λ x.
    let vs = c.args.values.now in
    let all = verdict_of c.loop-value.verdicts x in
    sym (either_no all) ∙ ap (λ ys. either all (among_by_kind (map doc_view ys) x)) (sym (drop_past vs c.loop-value.value-index c.loop-value-test.false)) ∙ c.loop-value.invariant x
