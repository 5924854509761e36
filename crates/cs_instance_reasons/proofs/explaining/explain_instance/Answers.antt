use Rattle.std.proofs.Common.{◌≡◌, ◌-◌, length, ap, sym, subst, ◌∙◌, arith, ◌<◌}
use Rattle.std.proofs.lemmas.Option.{slice_get_within}
use Rattle.std.proofs.lemmas.Result.{err_from_is_err_and}
use Rattle.cs_flat.specs.Items.{inside}
use Rattle.cs_flat.specs.Listed.{document_in}
use Rattle.cs_table.specs.Judged.{verdicts}
use Rattle.cs_instance.specs.Instance.{definition, OneMeaning}
use Rattle.cs_instance.specs.Numbering.{PartsBelow}
use Rattle.cs_instance_reasons.proofs.Explained.{table_over, explained}
use Rattle.cs_instance_reasons.proofs.Refused.{judged_over}
use Rattle.cs_instance.proofs.Verdicts.{judge_over, is_table, few_pairs, many_where, last_verdict}
use Rattle.cs_instance_reasons.proofs.explaining.explain_instance.Goals as goal

pub returns-in_err-judge-clause-one_meaning : goal.returns-in_err-judge-clause-one_meaning
returns-in_err-judge-clause-one_meaning c = subst OneMeaning c.root-root.ensures.package_kept c.one_meaning.ensures

pub returns-in_err-refill-clause-one_meaning : goal.returns-in_err-refill-clause-one_meaning
returns-in_err-refill-clause-one_meaning c = subst OneMeaning c.root-root.ensures.package_kept c.one_meaning.ensures

pub returns-in_err-refill-clause-many : goal.returns-in_err-refill-clause-many
returns-in_err-refill-clause-many c = λ items rules is.
    let p = c.args.rules.now in
    let s = c.book-number.result in
    let d = c.args.flat.now in
    let rooted = c.book-number.ensures in
    let m = c.in_ok-judge.ensures.book in
    let judge = judge_over p.0 p.1 d s.1 _ _ rooted c.in_ok-judge.judge.flat.now _ _ c.in_ok-judge.ensures.flat (ap (λ x. x.rules.items) m) (ap (λ x. x.children.items) m) in
    let e = err_from_is_err_and c.from_residual-in_err-refill.result c.from_residual-in_err-refill.ensures.1 in
    let same = sym e.1 ∙ is in
    let from = e.2 in
    many_where p.0 p.1 d s.1 _ _ _ judge c.len-last.ensures.items c.len-last.ensures.whole c.in_err-refill.field-0.0 c.in_err-refill.ensures.refused items rules cc

pub get-requires-clause-rule : goal.get-requires-clause-rule
get-requires-clause-rule c =
    let p = c.args.rules.now in
    let s = c.book-number.result in
    let d = c.args.flat.now in
    let rooted = c.book-number.ensures in
    let m = c.in_ok-judge.ensures.book in
    let judge = judge_over p.0 p.1 d s.1 _ _ rooted c.in_ok-judge.judge.flat.now _ _ c.in_ok-judge.ensures.flat (ap (λ x. x.rules.items) m) (ap (λ x. x.children.items) m) in
    let within = slice_get_within judge.all s.1 (definition p.1) judge.found in
    omega (arith, within, judge.rule_count, c.in_ok-refill.ensures.rules)

pub returns-then-get-clause-one_meaning : goal.returns-then-get-clause-one_meaning
returns-then-get-clause-one_meaning c = subst OneMeaning c.root-root.ensures.package_kept c.one_meaning.ensures

pub returns-then-get-clause-answer : goal.returns-then-get-clause-answer
returns-then-get-clause-answer c =
    let p = c.args.rules.now in
    let s = c.book-number.result in
    let d = c.args.flat.now in
    let rooted = c.book-number.ensures in
    let m = c.in_ok-judge.ensures.book in
    let judge = judge_over p.0 p.1 d s.1 _ _ rooted c.in_ok-judge.judge.flat.now _ _ c.in_ok-judge.ensures.flat (ap (λ x. x.rules.items) m) (ap (λ x. x.children.items) m) in
    let t = c.in_ok-refill.ensures in
    let table = is_table p.0 p.1 d s.1 _ _ _ judge c.len-last.ensures.items c.len-last.ensures.whole c.refill.new.done t.items t.rules t.count t.unique in
    let last : c.len-last.result - 1 ≡ inside (document_in d) = omega (arith, c.len-last.ensures.count, c.len-last.ensures.inside) in
    λ I i. sym c.if-get.true ∙ c.get.ensures ∙ last_verdict p.0 p.1 d s.1 c.refill.new.done table (c.len-last.result - 1) last c.len-last.ensures.inside c.len-last.ensures.last I i

pub returns-then-get-clause-within : goal.returns-then-get-clause-within
returns-then-get-clause-within c =
    let p = c.args.rules.now in
    let s = c.book-number.result in
    let d = c.args.flat.now in
    let rooted = c.book-number.ensures in
    let m = c.in_ok-judge.ensures.book in
    let judge = judge_over p.0 p.1 d s.1 _ _ rooted c.in_ok-judge.judge.flat.now _ _ c.in_ok-judge.ensures.flat (ap (λ x. x.rules.items) m) (ap (λ x. x.children.items) m) in
    few_pairs p.0 p.1 d s.1 _ _ _ judge c.len-last.ensures.items c.len-last.ensures.whole c.in_ok-refill.ensures.within

pub invariant_of-graph : goal.invariant_of-graph
invariant_of-graph c =
    let p = c.args.rules.now in
    let s = c.book-number.result in
    let d = c.args.flat.now in
    let rooted = c.book-number.ensures in
    let m = c.in_ok-judge.ensures.book in
    let t = c.in_ok-refill.ensures in
    record {
      items = t.items ∙ ap length c.in_ok-judge.ensures.flat;
      rules = t.rules ∙ ap (λ x. length x.rules.items) m;
      judged = ∣ judged_over d _ _ _ _ _ _ (sym c.in_ok-judge.ensures.flat) (ap (λ x. x.rules.items) (sym m)) (ap (λ x. x.children.items) (sym m)) t.judged ∣₁;
      parts = ∣ (λ r a e. subst (λ n. PartsBelow r n a) (sym rooted.numbering.count) (rooted.numbering.below r a e)) ∣₁;
      lower = c.len-last.ensures.listed.built.lower;
    }

pub told-requires : goal.told-requires
told-requires c =
    let p = c.args.rules.now in
    let s = c.book-number.result in
    let d = c.args.flat.now in
    let rooted = c.book-number.ensures in
    let m = c.in_ok-judge.ensures.book in
    let root = slice_get_within rooted.all s.1 (definition p.1) rooted.root in
    record {
      item = omega (arith, c.len-last.ensures.count, c.len-last.ensures.inside);
      rule = subst (λ n. s.1 < n) (sym rooted.numbering.count) root;
      refused = sym c.get.ensures ∙ c.if-get.false;
    }

pub returns-in_err-reasons-clause-one_meaning : goal.returns-in_err-reasons-clause-one_meaning
returns-in_err-reasons-clause-one_meaning c = subst OneMeaning c.root-root.ensures.package_kept c.one_meaning.ensures

pub returns-clause-one_meaning : goal.returns-clause-one_meaning
returns-clause-one_meaning c = subst OneMeaning c.root-root.ensures.package_kept c.one_meaning.ensures

pub returns-clause-answer : goal.returns-clause-answer
returns-clause-answer c =
    let p = c.args.rules.now in
    let s = c.book-number.result in
    let d = c.args.flat.now in
    let rooted = c.book-number.ensures in
    let m = c.in_ok-judge.ensures.book in
    let judge = judge_over p.0 p.1 d s.1 _ _ rooted c.in_ok-judge.judge.flat.now _ _ c.in_ok-judge.ensures.flat (ap (λ x. x.rules.items) m) (ap (λ x. x.children.items) m) in
    let t = c.in_ok-refill.ensures in
    let table = is_table p.0 p.1 d s.1 _ _ _ judge c.len-last.ensures.items c.len-last.ensures.whole c.refill.new.done t.items t.rules t.count t.unique in
    let last : c.len-last.result - 1 ≡ inside (document_in d) = omega (arith, c.len-last.ensures.count, c.len-last.ensures.inside) in
    λ I i. sym c.if-get.false ∙ c.get.ensures ∙ last_verdict p.0 p.1 d s.1 c.refill.new.done table (c.len-last.result - 1) last c.len-last.ensures.inside c.len-last.ensures.last I i

pub returns-clause-within : goal.returns-clause-within
returns-clause-within c =
    let p = c.args.rules.now in
    let s = c.book-number.result in
    let d = c.args.flat.now in
    let rooted = c.book-number.ensures in
    let m = c.in_ok-judge.ensures.book in
    let judge = judge_over p.0 p.1 d s.1 _ _ rooted c.in_ok-judge.judge.flat.now _ _ c.in_ok-judge.ensures.flat (ap (λ x. x.rules.items) m) (ap (λ x. x.children.items) m) in
    few_pairs p.0 p.1 d s.1 _ _ _ judge c.len-last.ensures.items c.len-last.ensures.whole c.in_ok-refill.ensures.within

pub returns-clause-why : goal.returns-clause-why
returns-clause-why c =
    let p = c.args.rules.now in
    let s = c.book-number.result in
    let d = c.args.flat.now in
    let rooted = c.book-number.ensures in
    let m = c.in_ok-judge.ensures.book in
    let l = c.len-last.ensures in
    let f = verdicts c.refill.new.done in
    let table = table_over f c.in_ok-judge.judge.flat.now d _ s.0.now.numbering.rules.items _ s.0.now.numbering.children.items c.in_ok-judge.ensures.flat (ap (λ x. x.rules.items) m) (ap (λ x. x.children.items) m) c.in_ok-refill.ensures.unique in
    let last : c.len-last.result - 1 ≡ inside (document_in d) = omega (arith, l.count, l.inside) in
    let within : inside (document_in d) < length d = omega (arith, l.inside) in
    explained p.0 p.1 d s.1 s.0.now.numbering.rules.items s.0.now.numbering.children.items rooted l.items l.whole l.last within f table (c.len-last.result - 1) last (sym c.get.ensures ∙ c.if-get.false)
    c.args.telling.all c.args.telling.most c.in_ok-reasons.reasons c.in_ok-reasons.ensures
