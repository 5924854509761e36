use Rattle.std.proofs.Common.{◌≡◌, false, rules, sym, ◌∙◌}
use Rattle.cs_package.specs.View.{expression_of}
use Rattle.cs_package.proofs.Simples.{is_simple_in, inside_simple}
use Rattle.cs_package.proofs.shape.Shape.simple.Goals as goal

pub returns-in-Definition : goal.returns-in-Definition
returns-in-Definition c = λ ns.
    let is = c.in-Definition.is in
    let none : is_simple_in c.inside.result ≡ false = search rules in
    sym (inside_simple ns c.inside.result (expression_of ns c.args.self.now) (c.inside.ensures.means ns)) ∙ none
