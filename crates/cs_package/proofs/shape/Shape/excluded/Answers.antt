use Rattle.std.proofs.Common.{◌≡◌, None, rules, sym, ap, ◌∙◌}
use Rattle.cs_package.specs.View.{expression_of}
use Rattle.cs_package.proofs.Simples.{excluded_in, simple_excluded, none_excluded}
use Rattle.cs_package.proofs.shape.Shape.excluded.Goals as goal

pub returns-in_default : goal.returns-in_default
returns-in_default c = λ ns. none_excluded (expression_of ns c.args.self.now) (c.in_default.ensures ns)

pub returns-in-Excluded : goal.returns-in-Excluded
returns-in-Excluded c = λ ns. sym (ap excluded_in c.in-Excluded.is) ∙ simple_excluded c.in-Some.simple (expression_of ns c.args.self.now) (c.in-Some.ensures ns)

pub returns-in-Top : goal.returns-in-Top
returns-in-Top c = λ ns.
    let is = c.in-Top.is in
    let none : excluded_in c.in-Some.simple ≡ None = search rules in
    sym none ∙ simple_excluded c.in-Some.simple (expression_of ns c.args.self.now) (c.in-Some.ensures ns)
