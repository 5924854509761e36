use Rattle.std.proofs.Common.{◌≡◌, ◌+◌, ◌-◌, suc, Ok, map, sym, ap, ◌∙◌, arith, length}
use Rattle.std.proofs.lemmas.Result.{err_from_is_err_and}
use Rattle.cs_grammar.specs.View.{selector_view}
use Rattle.cs_syntax.specs.Left.{left}
use Rattle.cs_grammar.specs.declared.kind.Kind.TheVariants as kinds
use Rattle.cs_syntax.specs.Reading.{selector_at, after}
use Rattle.cs_syntax.proofs.Reader.{goes_on, ends, out, breaks, fails-of}
use Rattle.cs_syntax.proofs.parser.place.Parser.selectors.Goals as goal

pub returns-then-not-skip : goal.returns-then-not-skip
returns-then-not-skip c = sym c.loop.invariant ∙ ends selector_view (after kinds.Dot) selector_at c.loop.labels.items _ (left c.loop.self) c.if-not-skip.ensures.0 ∙ ap (λ ts. Ok (map selector_view c.loop.labels.items, ts)) (sym c.if-not-skip.ensures.1)

pub returns-in_err-selector : goal.returns-in_err-selector
returns-in_err-selector c =
    let p = err_from_is_err_and c.from_residual.result c.from_residual.ensures.1 in
    let k = length c.args.self.now.tokens.now - c.loop.counter in
    let n = length c.args.self.now.tokens.now - (c.loop.counter + 1) in
    let is : k ≡ suc n = omega arith in
    let f = c.in_err-selector.field-0.0 in
    rw (p.1, p.2) (fails-of f _ _ c.loop.invariant (breaks selector_view (after kinds.Dot) selector_at c.loop.labels.items f k n (left c.loop.self) (left c.skip.new.self) is c.if-not-skip.ensures c.in_err-selector.ensures))

pub loop-preserved : goal.loop-preserved
loop-preserved c =
    let k = length c.args.self.now.tokens.now - c.loop.counter in
    let n = length c.args.self.now.tokens.now - (c.loop.counter + 1) in
    let is : k ≡ suc n = omega arith in
    rw c.in_ok-push.ensures.items (goes_on selector_view (after kinds.Dot) selector_at c.loop.labels.items c.in_ok-selector.field-0 k n (left c.loop.self) (left c.skip.new.self) (left c.selector.new.self) is c.if-not-skip.ensures c.in_ok-selector.ensures ∙ c.loop.invariant)

pub returns : goal.returns
returns c = sym c.loop.invariant ∙ out selector_view (after kinds.Dot) selector_at c.loop.labels.items _ (left c.loop.self) (omega arith)
