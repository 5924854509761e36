use Rattle.std.proofs.Common.{◌≡◌, None, rules, sym, ap, ◌∙◌}
use Rattle.cs_package.specs.View.{expression_of}
use Rattle.cs_package.proofs.Simples.{literal_in, simple_literal, none_literal}
use Rattle.cs_package.proofs.shape.Shape.literal.Goals as goal

pub returns-in_default : goal.returns-in_default
returns-in_default c = λ ns. none_literal (expression_of ns c.args.self.now) (c.in_default.ensures ns)

pub returns-in-Literal : goal.returns-in-Literal
returns-in-Literal c = λ ns. sym (ap literal_in c.in-Literal.is) ∙ simple_literal c.in-Some.simple (expression_of ns c.args.self.now) (c.in-Some.ensures ns)

pub returns-in-Top : goal.returns-in-Top
returns-in-Top c = λ ns.
    let is = c.in-Top.is in
    let none : literal_in c.in-Some.simple ≡ None = search rules in
    sym none ∙ simple_literal c.in-Some.simple (expression_of ns c.args.self.now) (c.in-Some.ensures ns)
