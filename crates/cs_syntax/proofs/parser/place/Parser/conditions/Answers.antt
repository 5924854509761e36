use Rattle.std.proofs.Common.{◌≡◌, ◌+◌, ◌-◌, suc, Ok, map, sym, ap, ◌∙◌, arith, length}
use Rattle.std.proofs.lemmas.Result.{err_from_is_err_and}
use Rattle.cs_grammar.specs.View.{condition_view}
use Rattle.cs_syntax.specs.Left.{left}
use Rattle.cs_syntax.specs.Reading.{condition_at, after_if}
use Rattle.cs_syntax.proofs.Reader.{goes_on, ends, out, breaks, fails-of}
use Rattle.cs_syntax.proofs.parser.place.Parser.conditions.Goals as goal

pub returns-then-not-skip_to_condition : goal.returns-then-not-skip_to_condition
returns-then-not-skip_to_condition c = sym c.loop.invariant ∙ ends condition_view after_if condition_at c.loop.conditions.items _ (left c.loop.self) c.if-not-skip_to_condition.ensures.0 ∙ ap (λ ts. Ok (map condition_view c.loop.conditions.items, ts)) (sym c.if-not-skip_to_condition.ensures.1)

pub returns-in_err-condition : goal.returns-in_err-condition
returns-in_err-condition c =
    let p = err_from_is_err_and c.from_residual.result c.from_residual.ensures.1 in
    let k = length c.args.self.now.tokens.now - c.loop.counter in
    let n = length c.args.self.now.tokens.now - (c.loop.counter + 1) in
    let is : k ≡ suc n = omega arith in
    let f = c.in_err-condition.field-0.0 in
    rw (p.1, p.2) (fails-of f _ _ c.loop.invariant (breaks condition_view after_if condition_at c.loop.conditions.items f k n (left c.loop.self) (left c.skip_to_condition.new.self) is c.if-not-skip_to_condition.ensures c.in_err-condition.ensures))

pub loop-preserved : goal.loop-preserved
loop-preserved c =
    let k = length c.args.self.now.tokens.now - c.loop.counter in
    let n = length c.args.self.now.tokens.now - (c.loop.counter + 1) in
    let is : k ≡ suc n = omega arith in
    rw c.in_ok-push.ensures.items (goes_on condition_view after_if condition_at c.loop.conditions.items c.in_ok-condition.field-0 k n (left c.loop.self) (left c.skip_to_condition.new.self) (left c.condition.new.self) is c.if-not-skip_to_condition.ensures c.in_ok-condition.ensures ∙ c.loop.invariant)

pub returns : goal.returns
returns c = sym c.loop.invariant ∙ out condition_view after_if condition_at c.loop.conditions.items _ (left c.loop.self) (omega arith)
