use Rattle.std.proofs.Common.{◌≡◌, ℤ, [], false, Option, Some, w64, to_z, of_z, rules, subst, refl, sym, ap, ◌∙◌}
use Rattle.std.specs.Prelude.{slice_get}
use Rattle.std.proofs.lemmas.Result.{on_ok_weaker}
use Rattle.cs_document.specs.Opened.{an_integer}
use Rattle.cs_package.specs.Inside.{comparison_of}
use Rattle.cs_package.specs.View.{expression_of}
use Rattle.cs_instance.specs.Constraint.{is_within}
use Rattle.cs_instance.specs.Steps.{test_of}
use Rattle.cs_instance.proofs.AlikeScalars.{integer_compared, range_compared}
use Rattle.cs_question.specs.declared.nodes.Literal.{Literal}
use Rattle.cs_question.specs.declared.nodes.Node.TheVariants as node
use Rattle.cs_question.specs.declared.nodes.Nodes.{Nodes}
use Rattle.cs_question.specs.Nodes.{nodes_on}
use Rattle.cs_question.specs.Outlines.{agrees, node_verdict, may, IsToldBy}
use Rattle.cs_question.proofs.Compared.{integers_alone, compares_integers, integers_alike, simple_marked}
use Rattle.cs_question.proofs.scalars.mark.Goals as goal

-- a range tells no integers apart where its limits don't
within_marked : (ns : Nodes) (l : Literal) (least : ℤ) (greatest : Option ℤ) → slice_get (nodes_on ns l.side) l.rule ≡ Some (node.Within least greatest) → (z w : ℤ) → is_within least greatest z ≡ is_within least greatest w → may ns (an_integer z) l ≡ may ns (an_integer w) l
within_marked ns l least greatest at z w same =
    ap (λ o. agrees l.holds (node_verdict o (an_integer z))) at
    ∙ ap (λ b. agrees l.holds (Some b)) same
    ∙ sym (ap (λ o. agrees l.holds (node_verdict o (an_integer w))) at)

pub returns-in_ok-push-in-Integer-clause-told : goal.returns-in_ok-push-in-Integer-clause-told
returns-in_ok-push-in-Integer-clause-told c = λ z w s.
    let r = c.in-Some-Simple in
    let back : to_z w64 (of_z w64 c.in-Integer.integer) ≡ c.in-Integer.integer = search rules in
    simple_marked c.args.nodes.now c.args.literal r.shape (r.ensures ∙ ap Some r.field-0-is) (an_integer z) (an_integer w)
    (integer_compared (expression_of [] r.shape.now) c.in-Integer.integer (integers_alone c.args.marks.now.items) (integers_alone c.push.new.self.items) (c.in-Integer.ensures []) (rw back at c.in_ok-push-in-Integer.ensures.items, refl, refl) (an_integer z) (an_integer w) s)

pub returns-in-Range-clause-told : goal.returns-in-Range-clause-told
returns-in-Range-clause-told c =
    let r = c.in-Some-Simple in
    let back : to_z w64 (of_z w64 c.in-Range.least) ≡ c.in-Range.least = search rules in
    on_ok_weaker c.mark_range.result (λ f z w s.
    simple_marked c.args.nodes.now c.args.literal r.shape (r.ensures ∙ ap Some r.field-0-is) (an_integer z) (an_integer w)
    (subst (λ e. IsToldBy (test_of e) c.mark_range.new.marks.items) (range_compared (expression_of [] r.shape.now) c.in-Range.least c.in-Range.greatest (c.in-Range.ensures [])) f z w s)) (rw back at c.mark_range.ensures.told)

pub returns-in-Nothing-clause-told : goal.returns-in-Nothing-clause-told
returns-in-Nothing-clause-told c = λ z w s.
    let r = c.in-Some-Simple in
    let is = c.in-Nothing.is in
    let none : compares_integers (comparison_of c.comparison.result) ≡ false = search rules in
    simple_marked c.args.nodes.now c.args.literal r.shape (r.ensures ∙ ap Some r.field-0-is) (an_integer z) (an_integer w)
    (integers_alike (expression_of [] r.shape.now) (sym (ap compares_integers (c.comparison.ensures [])) ∙ none) z w)

pub returns-in-Some-Within-clause-told : goal.returns-in-Some-Within-clause-told
returns-in-Some-Within-clause-told c =
    let s = c.in-Some-Within in
    let back : to_z w64 (of_z w64 s.least) ≡ s.least = search rules in
    on_ok_weaker c.mark_range-in-Some-Within.result (λ f z w same. within_marked c.args.nodes.now c.args.literal s.least s.greatest (s.ensures ∙ ap Some s.field-0-is) z w (f z w same)) (rw back at c.mark_range-in-Some-Within.ensures.told)
