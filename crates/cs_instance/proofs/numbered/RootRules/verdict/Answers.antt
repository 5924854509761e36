use Rattle.std.proofs.Common.{◌≡◌, ◌-◌, ap, sym, subst, ◌∙◌, arith}
use Rattle.std.proofs.lemmas.Option.{slice_get_within}
use Rattle.std.proofs.lemmas.Result.{err_from_is_err_and}
use Rattle.cs_flat.specs.Items.{inside}
use Rattle.cs_flat.specs.Listed.{document_in}
use Rattle.cs_guard.specs.Guarded.{IsGuarded}
use Rattle.cs_instance.specs.Instance.{definition}
use Rattle.cs_instance.specs.Rooted.{IsRooted}
use Rattle.cs_instance.proofs.Meaning as meaning
use Rattle.cs_instance.proofs.Verdicts.{judge_over, is_table, few_pairs, many_where, last_verdict}
use Rattle.cs_instance.proofs.numbered.RootRules.verdict.Goals as goal

pub returns-in_err-judge-clause-one_meaning : goal.returns-in_err-judge-clause-one_meaning
returns-in_err-judge-clause-one_meaning c = meaning.one_meaning c.args.self.now.0 (subst (λ q. IsGuarded q.0) c.self.view_is c.package-package.ensures.guarded)

pub returns-in_err-refill-clause-one_meaning : goal.returns-in_err-refill-clause-one_meaning
returns-in_err-refill-clause-one_meaning c = meaning.one_meaning c.args.self.now.0 (subst (λ q. IsGuarded q.0) c.self.view_is c.package-package.ensures.guarded)

pub returns-clause-one_meaning : goal.returns-clause-one_meaning
returns-clause-one_meaning c = meaning.one_meaning c.args.self.now.0 (subst (λ q. IsGuarded q.0) c.self.view_is c.package-package.ensures.guarded)

pub returns-in_err-refill-clause-many : goal.returns-in_err-refill-clause-many
returns-in_err-refill-clause-many c = λ items rules is.
    let p = c.args.self.now in
    let s = c.self.inside in
    let d = c.args.flat.now in
    let rooted = subst (λ q. IsRooted q.0 q.1 s.book.numbering.rules.items s.book.numbering.children.items s.number) c.self.view_is c.self.invariant in
    let m = c.in_ok-judge.ensures.book in
    let judge = judge_over p.0 p.1 d s.number _ _ rooted c.in_ok-judge.judge.flat.now _ _ c.in_ok-judge.ensures.flat (ap (λ x. x.rules.items) m) (ap (λ x. x.children.items) m) in
    let e = err_from_is_err_and c.from_residual-in_err-refill.result c.from_residual-in_err-refill.ensures.1 in
    let same = sym e.1 ∙ is in
    let from = e.2 in
    many_where p.0 p.1 d s.number _ _ _ judge c.len-last.ensures.items c.len-last.ensures.whole c.in_err-refill.field-0.0 c.in_err-refill.ensures.refused items rules cc

pub get-requires-clause-rule : goal.get-requires-clause-rule
get-requires-clause-rule c =
    let p = c.args.self.now in
    let s = c.self.inside in
    let d = c.args.flat.now in
    let rooted = subst (λ q. IsRooted q.0 q.1 s.book.numbering.rules.items s.book.numbering.children.items s.number) c.self.view_is c.self.invariant in
    let m = c.in_ok-judge.ensures.book in
    let judge = judge_over p.0 p.1 d s.number _ _ rooted c.in_ok-judge.judge.flat.now _ _ c.in_ok-judge.ensures.flat (ap (λ x. x.rules.items) m) (ap (λ x. x.children.items) m) in
    let within = slice_get_within judge.all s.number (definition p.1) judge.found in
    omega (arith, within, judge.rule_count, c.in_ok-refill.ensures.rules)

pub returns-clause-answer : goal.returns-clause-answer
returns-clause-answer c =
    let p = c.args.self.now in
    let s = c.self.inside in
    let d = c.args.flat.now in
    let rooted = subst (λ q. IsRooted q.0 q.1 s.book.numbering.rules.items s.book.numbering.children.items s.number) c.self.view_is c.self.invariant in
    let m = c.in_ok-judge.ensures.book in
    let judge = judge_over p.0 p.1 d s.number _ _ rooted c.in_ok-judge.judge.flat.now _ _ c.in_ok-judge.ensures.flat (ap (λ x. x.rules.items) m) (ap (λ x. x.children.items) m) in
    let t = c.in_ok-refill.ensures in
    let table = is_table p.0 p.1 d s.number _ _ _ judge c.len-last.ensures.items c.len-last.ensures.whole c.refill.new.done t.items t.rules t.count t.unique in
    let last : c.len-last.result - 1 ≡ inside (document_in d) = omega (arith, c.len-last.ensures.count, c.len-last.ensures.inside) in
    λ I i. c.get.ensures ∙ last_verdict p.0 p.1 d s.number c.refill.new.done table (c.len-last.result - 1) last c.len-last.ensures.inside c.len-last.ensures.last I i

pub returns-clause-within : goal.returns-clause-within
returns-clause-within c =
    let p = c.args.self.now in
    let s = c.self.inside in
    let d = c.args.flat.now in
    let rooted = subst (λ q. IsRooted q.0 q.1 s.book.numbering.rules.items s.book.numbering.children.items s.number) c.self.view_is c.self.invariant in
    let m = c.in_ok-judge.ensures.book in
    let judge = judge_over p.0 p.1 d s.number _ _ rooted c.in_ok-judge.judge.flat.now _ _ c.in_ok-judge.ensures.flat (ap (λ x. x.rules.items) m) (ap (λ x. x.children.items) m) in
    few_pairs p.0 p.1 d s.number _ _ _ judge c.len-last.ensures.items c.len-last.ensures.whole c.in_ok-refill.ensures.within
