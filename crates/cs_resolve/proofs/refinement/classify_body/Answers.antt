use Rattle.std.proofs.Common.{◌≡◌, Some, None, sym, ap, ◌∙◌}
use Rattle.std.specs.Option.{option_map}
use Rattle.cs_grammar.specs.View.{expr_view, fields_view}
use Rattle.cs_resolve.specs.Refinement.{closed_literal, by_literal}
use Rattle.cs_resolve.proofs.BaseLaw.{no_literal}
use Rattle.cs_resolve.proofs.Searches.{on_ok}
use Rattle.cs_resolve.proofs.refinement.classify_body.Goals as goal

pub returns-in-Some-clause-classified : goal.returns-in-Some-clause-classified
returns-in-Some-clause-classified c =
    let e = expr_view c.args.definition.1.now in
    let fields = fields_view c.in-Some.fields.now.items in
    let lit : closed_literal e ≡ Some fields = sym c.closed_literal.ensures ∙ ap (option_map (λ v. fields_view v.now.items)) c.in-Some.is in
    on_ok c.add_literal.result (λ has. record {
      literal = λ fs h. has;
      listed = λ m fs h. let none : Some fields ≡ None = sym lit ∙ no_literal e (m, fs) h in cc;
    }) c.add_literal.ensures.added

pub returns-in-Some-clause-sound : goal.returns-in-Some-clause-sound
returns-in-Some-clause-sound c =
    let e = expr_view c.args.definition.1.now in
    let fields = fields_view c.in-Some.fields.now.items in
    let lit : closed_literal e ≡ Some fields = sym c.closed_literal.ensures ∙ ap (option_map (λ v. fields_view v.now.items)) c.in-Some.is in
    on_ok c.add_literal.result (λ f ds is s. f ds (by_literal is lit) s) c.add_literal.ensures.sound
