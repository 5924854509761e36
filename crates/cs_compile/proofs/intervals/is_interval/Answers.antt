use Rattle.std.proofs.Common.{◌≡◌, map, take, true, false, ◌&&◌, ◌||◌, sym, ap, ap₂, ◌∙◌, arith}
use Rattle.std.specs.List.{list_all, list_any}
use Rattle.std.proofs.Math.Bool.{or-false, or-true}
use Rattle.std.proofs.lemmas.List.{take_all}
use Rattle.cs_package.specs.View.{expression_of}
use Rattle.cs_compile.specs.Translation.{is_integer_kind, is_bound}
use Rattle.cs_compile.proofs.Limits.{all-more, any-more, all-fails}
use Rattle.cs_compile.proofs.intervals.is_interval.Goals as goal
use Rattle.cs_compile.proofs.intervals.is_interval.Goals.{then-is_integer_kind, else-is_integer_kind+else-not-is_bound}

pub loop-operand-preserved : goal.loop-operand-preserved
loop-operand-preserved c =
    let l = c.loop-operand in
    let xs = c.args.operands.now in
    let x = c.operand-item.result in
    let within = c.loop-operand-test.true in
    let is = c.operand-item.is in
    elim c.if-is_integer_kind.branch [
      | then-is_integer_kind w ↦ record {
        alone = λ ns.
            let kind : is_integer_kind (expression_of ns x) ≡ true = sym (c.is_integer_kind.ensures ns) ∙ w.if-is_integer_kind.true in
            all-more (λ e. is_integer_kind e || is_bound e) (expression_of ns) xs l.operand-index x within is
            ∙ ap₂ (λ a b. a && (b || is_bound (expression_of ns x))) (l.invariant.alone ns) kind;
        kinds = λ ns.
            let kind : is_integer_kind (expression_of ns x) ≡ true = sym (c.is_integer_kind.ensures ns) ∙ w.if-is_integer_kind.true in
            let before = list_any is_integer_kind (map (expression_of ns) (take l.operand-index xs)) in
            w.has_kind-is ∙ sym (any-more is_integer_kind (expression_of ns) xs l.operand-index x within is ∙ ap (λ b. before || b) kind ∙ or-true before);
      }
      | else-is_integer_kind+else-not-is_bound w ↦ record {
        alone = λ ns.
            let kind : is_integer_kind (expression_of ns x) ≡ false = sym (c.is_integer_kind.ensures ns) ∙ w.if-is_integer_kind.false in
            let bound : is_bound (expression_of ns x) ≡ true = sym (w.is_bound.ensures ns) ∙ w.if-not-is_bound.false in
            all-more (λ e. is_integer_kind e || is_bound e) (expression_of ns) xs l.operand-index x within is
            ∙ ap₂ (λ a b. a && b) (l.invariant.alone ns) (ap₂ (λ a b. a || b) kind bound);
        kinds = λ ns.
            let kind : is_integer_kind (expression_of ns x) ≡ false = sym (c.is_integer_kind.ensures ns) ∙ w.if-is_integer_kind.false in
            let before = list_any is_integer_kind (map (expression_of ns) (take l.operand-index xs)) in
            w.has_kind-is ∙ l.invariant.kinds ns ∙ sym (any-more is_integer_kind (expression_of ns) xs l.operand-index x within is ∙ ap (λ b. before || b) kind ∙ or-false before);
      }
    ]

pub returns-then-not-is_bound : goal.returns-then-not-is_bound
returns-then-not-is_bound c = λ ns.
    let xs = c.args.operands.now in
    let x = c.operand-item.result in
    let kind : is_integer_kind (expression_of ns x) ≡ false = sym (c.is_integer_kind.ensures ns) ∙ c.if-is_integer_kind.false in
    let bound : is_bound (expression_of ns x) ≡ false = sym (c.is_bound.ensures ns) ∙ c.if-not-is_bound.true in
    sym (ap (λ b. b && list_any is_integer_kind (map (expression_of ns) xs)) (all-fails (λ e. is_integer_kind e || is_bound e) (expression_of ns) xs c.loop-operand.operand-index x c.loop-operand-test.true c.operand-item.is (ap₂ (λ a b. a || b) kind bound)))

pub returns : goal.returns
returns c = λ ns.
    let l = c.loop-operand in
    let xs = c.args.operands.now in
    let whole : take l.operand-index xs ≡ xs = take_all l.operand-index xs (omega arith) in
    let every : list_all (λ e. is_integer_kind e || is_bound e) (map (expression_of ns) xs) ≡ true = ap (λ ys. list_all (λ e. is_integer_kind e || is_bound e) (map (expression_of ns) ys)) (sym whole) ∙ l.invariant.alone ns in
    l.invariant.kinds ns ∙ ap (λ ys. list_any is_integer_kind (map (expression_of ns) ys)) whole ∙ sym (ap (λ b. b && list_any is_integer_kind (map (expression_of ns) xs)) every)
