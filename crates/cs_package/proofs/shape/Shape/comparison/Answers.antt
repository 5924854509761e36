use Rattle.std.proofs.Common.{◌≡◌, w64, to_z, of_z, rules, sym, ap, ◌∙◌}
use Rattle.cs_package.specs.Inside.{with_nothing}
use Rattle.cs_package.specs.View.{expression_of}
use Rattle.cs_package.proofs.Simples.{compared_in, simple_compared, none_compared}
use Rattle.cs_package.proofs.shape.Shape.comparison.Goals as goal

pub returns-in_default : goal.returns-in_default
returns-in_default c = λ ns. none_compared (expression_of ns c.args.self.now) (c.in_default.ensures ns)

pub returns-in-Literal : goal.returns-in-Literal
returns-in-Literal c = λ ns. c.comparison.ensures ∙ sym (ap compared_in c.in-Literal.is) ∙ simple_compared c.in-Some.simple (expression_of ns c.args.self.now) (c.in-Some.ensures ns)

pub returns-in-Excluded : goal.returns-in-Excluded
returns-in-Excluded c = λ ns. c.comparison-in-Excluded.ensures ∙ sym (ap compared_in c.in-Excluded.is) ∙ simple_compared c.in-Some.simple (expression_of ns c.args.self.now) (c.in-Some.ensures ns)

pub returns-in-Range : goal.returns-in-Range
returns-in-Range c = λ ns.
    let back : to_z w64 (of_z w64 c.in-Range.least) ≡ c.in-Range.least = search rules in
    rw back (sym (ap compared_in c.in-Range.is) ∙ simple_compared c.in-Some.simple (expression_of ns c.args.self.now) (c.in-Some.ensures ns))

pub returns-in-Bound : goal.returns-in-Bound
returns-in-Bound c = λ ns.
    let back : to_z w64 (of_z w64 c.in-Bound.limit) ≡ c.in-Bound.limit = search rules in
    rw back (sym (ap compared_in c.in-Bound.is) ∙ simple_compared c.in-Some.simple (expression_of ns c.args.self.now) (c.in-Some.ensures ns))

pub returns-in-Top : goal.returns-in-Top
returns-in-Top c = λ ns.
    let is = c.in-Top.is in
    let none : compared_in c.in-Some.simple ≡ with_nothing = search rules in
    sym none ∙ simple_compared c.in-Some.simple (expression_of ns c.args.self.now) (c.in-Some.ensures ns)
