use Rattle.std.proofs.Common.{◌≡◌, ◌≤◌, true, false, [], ◌∷◌, Some, get_or, sym, ap, ◌∙◌, subst, take_all}
use Rattle.std.specs.List.{AllByRecursion as Each}
use Rattle.cs_document.specs.Document.{Document, list, elements}
use Rattle.cs_document.proofs.Each.{each_append}
use Rattle.cs_instance.specs.Constraint.{elements_hold}
use Rattle.cs_question.specs.Asked.{meets, meets_all}
use Rattle.cs_question.specs.Nodes.{end_of}
use Rattle.cs_question.specs.Spread.{AreTaken, spread_list}
use Rattle.cs_question.proofs.Loops.{all_before, all_read, first_literal}
use Rattle.cs_question.proofs.Unfolded.{list_is}
use Rattle.cs_question.proofs.lists.rules_of.Goals as goal
use Rattle.cs_question.proofs.lists.rules_of.Goals.{in-Some-List+in_ok-list_ways-in-Some-List+in_ok-push-in-Some-List, in-Some-List+then-not-literal+else-len-count, in-Some-List+else-not-literal, in-Some+in-Simple-1, in-None-1}

pub loop-literal-preserved : goal.loop-literal-preserved
loop-literal-preserved c = λ J ds m h l.
    let f = meets J (list ds) in
    let i = c.loop-literal.literal-index in
    let met = all_read f c.args.asked.now i first_literal c.loop-literal-test.true h in
    let before = c.loop-literal.invariant J ds m (all_before f c.args.asked.now i first_literal c.loop-literal-test.true h) l in
    let lit = get_or c.args.asked.now i first_literal in
    let s = spread_list c.args.count (elements ds) in
    elim c.match-of.branch [
      | in-Some-List+in_ok-list_ways-in-Some-List+in_ok-push-in-Some-List w ↦
          let g = w.in-Some-List in
          let is = list_is c.args.nodes.now J m lit false w.if-not-literal.true g.front g.end ds (g.ensures ∙ ap Some g.field-0-is) met in
          let one = w.in_ok-list_ways-in-Some-List.ensures J (elements ds) l (ap (λ es. elements_hold (λ (y : Document) p. J lit.side p y) es (end_of g.end) (elements ds)) w.deref.ensures.value ∙ is) in
          subst (λ v. Each (λ w. AreTaken J s w.items) v.items) (sym w.rules-is) (subst (Each (λ w. AreTaken J s w.items)) (sym w.in_ok-push-in-Some-List.ensures.items) (each_append (λ w. AreTaken J s w.items) c.loop-literal.rules.items (w.in_ok-list_ways-in-Some-List.field-0 ∷ []) before (one, tt)))
      | in-Some-List+then-not-literal+else-len-count w ↦ subst (λ v. Each (λ w. AreTaken J s w.items) v.items) (sym w.rules-is) before
      | in-Some-List+else-not-literal w ↦ subst (λ v. Each (λ w. AreTaken J s w.items) v.items) (sym w.rules-is) before
      | in-Some+in-Simple-1 w ↦ subst (λ v. Each (λ w. AreTaken J s w.items) v.items) (sym w.rules-is) before
      | in-None-1 w ↦ subst (λ v. Each (λ w. AreTaken J s w.items) v.items) (sym w.rules-is) before
    ]

pub returns : goal.returns
returns c = λ J ds m h l. c.loop-literal.invariant J ds m (ap (meets_all J (list ds)) (take_all c.loop-literal.literal-index c.args.asked.now c.loop-literal-test.false) ∙ h) l
