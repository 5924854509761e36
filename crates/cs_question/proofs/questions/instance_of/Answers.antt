use Rattle.std.proofs.Common.{is_some, map, ap, ap₂, ◌∙◌, subst}
use Rattle.cs_guard.specs.Numbered.{name_of}
use Rattle.cs_instance.specs.Instance.{definition}
use Rattle.cs_instance.specs.Steps.{numbered}
use Rattle.cs_question.specs.declared.nodes.Nodes.{Nodes}
use Rattle.cs_question.specs.Nodes.{asked_of, Says}
use Rattle.cs_question.specs.Truth.{IsMetByNoDocument}
use Rattle.cs_question.proofs.Rooted.{same_name, no_instance}
use Rattle.cs_question.proofs.questions.instance_of.Goals as goal

pub returns-in_default-clause-none : goal.returns-in_default-clause-none
returns-in_default-clause-none c = λ e I n x i named d sep.
    let E = c.args.«package».now in
    let root = c.in_ok-rooted.rooted in
    let name = name_of E root.definition in
    let ns : Nodes = record { alloc = c.args.alloc; admitting = c.in_ok-side_of.field-0; refusing = c.new.result } in
    let asked = c.in_ok-asked.asked.items in
    let first : Says (map (numbered root.numbering.children.items) root.numbering.rules.items) (map asked_of ns.admitting.items) = subst (λ cs. Says cs (map asked_of ns.admitting.items)) (ap₂ (λ inner rules. map (numbered inner) rules) c.deref-2.ensures.value c.deref.ensures.value) c.in_ok-side_of.ensures in
    let none = subst (IsMetByNoDocument ns) c.deref-3.ensures.value (c.in_ok-doc.ensures.none (ap is_some c.in_default.is)) in
    let r = c.in_ok-rooted.ensures.rooted in
    no_instance E r.all root.numbering.rules.items root.numbering.children.items r.numbering I i ns asked none first name root.number r.root c.new.ensures.items c.in_ok-asked.ensures x d
    (ap (λ k. I (definition k) x) (same_name E c.args.root.now name n c.in_ok-rooted.ensures.named named) ∙ sep.0.0)

pub returns-clause-one : goal.returns-clause-one
returns-clause-one c = λ I n i named. ((c.in_ok-judged.ensures.judged I n i named, tt), tt)
