use Rattle.std.proofs.Common.{is_some, map, ap, ap₂, ◌∙◌, subst}
use Rattle.cs_guard.specs.Numbered.{name_of}
use Rattle.cs_instance.specs.Instance.{definition}
use Rattle.cs_instance.specs.Steps.{numbered}
use Rattle.cs_question.specs.declared.nodes.Nodes.{Nodes}
use Rattle.cs_question.specs.Nodes.{asked_of, Says}
use Rattle.cs_question.specs.Truth.{IsMetByNoDocument}
use Rattle.cs_question.proofs.Rooted.{same_name, no_separating}
use Rattle.cs_question.proofs.questions.separating.Goals as goal

pub returns-in_default-clause-none : goal.returns-in_default-clause-none
returns-in_default-clause-none c = λ e I J n m x i j named other d sep.
    let E = c.args.admitting.now in
    let F = c.args.refusing.now in
    let one = c.in_ok-first.first in
    let two = c.in_ok-second.second in
    let name = name_of E one.definition in
    let name' = name_of F two.definition in
    let ns : Nodes = record { alloc = c.args.alloc; admitting = c.in_ok-side_of.field-0; refusing = c.in_ok-side_of-2.field-0 } in
    let asked = c.add.new.asked.items in
    let first : Says (map (numbered one.numbering.children.items) one.numbering.rules.items) (map asked_of ns.admitting.items) = subst (λ cs. Says cs (map asked_of ns.admitting.items)) (ap₂ (λ inner rules. map (numbered inner) rules) c.deref-2.ensures.value c.deref.ensures.value) c.in_ok-side_of.ensures in
    let second : Says (map (numbered two.numbering.children.items) two.numbering.rules.items) (map asked_of ns.refusing.items) = subst (λ cs. Says cs (map asked_of ns.refusing.items)) (ap₂ (λ inner rules. map (numbered inner) rules) c.deref-4.ensures.value c.deref-3.ensures.value) c.in_ok-side_of-2.ensures in
    let none = subst (IsMetByNoDocument ns) c.deref-5.ensures.value (c.in_ok-doc.ensures.none (ap is_some c.in_default.is)) in
    let r = c.in_ok-first.ensures.rooted in
    let q = c.in_ok-second.ensures.rooted in
    no_separating E r.all one.numbering.rules.items one.numbering.children.items r.numbering I i ns asked none first name one.number r.root
    F q.all two.numbering.rules.items two.numbering.children.items q.numbering name' two.number q.root J j second (λ p a b. c.in_ok-add.ensures p (c.in_ok-asked.ensures p a) b) x d
    (ap (λ k. I (definition k) x) (same_name E c.args.admitting_root.now name n c.in_ok-first.ensures.named named) ∙ sep.0.0)
    (ap (λ k. J (definition k) x) (same_name F c.args.refusing_root.now name' m c.in_ok-second.ensures.named other) ∙ sep.1.0)

pub returns-clause-one : goal.returns-clause-one
returns-clause-one c = λ I J n m i j named other. ((c.in_ok-judged.ensures.judged I n i named, tt), (c.in_ok-judged-2.ensures.judged J m j other, tt))
