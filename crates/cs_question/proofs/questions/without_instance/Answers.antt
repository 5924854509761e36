use Rattle.std.proofs.Common.{◌<◌, true, map, length, ap, ap₂, ◌∙◌, subst, arith}
use Rattle.std.specs.Prelude.{slice_index}
use Rattle.std.proofs.lemmas.Option.{slice_get_within}
use Rattle.cs_guard.specs.Numbered.{name_of}
use Rattle.cs_guard.proofs.Numbers.{name_within}
use Rattle.cs_instance.specs.Instance.{definition}
use Rattle.cs_instance.specs.Steps.{numbered}
use Rattle.cs_question.specs.Nodes.{asked_of, Says}
use Rattle.cs_question.specs.Truth.{IsMetByNone}
use Rattle.cs_question.specs.declared.nodes.Nodes.{Nodes}
use Rattle.cs_question.proofs.Answered.{no_document}
use Rattle.cs_question.proofs.Rooted.{no_instance, is_false}
use Rattle.cs_question.proofs.questions.without_instance.Goals as goal

pub returns-clause-long : goal.returns-clause-long
returns-clause-long c = c.in_ok-all.ensures.long ∙ ap length c.deref-4.ensures.value ∙ c.in_ok-numbering.ensures.long

pub returns-clause-none : goal.returns-clause-none
returns-clause-none c = λ i e.
    let E = c.args.«package».now in
    let all = c.in_ok-numbering.field-0 in
    let w = c.in_ok-numbering.ensures in
    let ns : Nodes = record { alloc = c.args.alloc; admitting = c.in_ok-side_of.field-0; refusing = c.new.result } in
    let table = c.in_ok-table.table in
    let first : Says (map (numbered all.numbering.children.items) all.numbering.rules.items) (map asked_of ns.admitting.items) = subst (λ cs. Says cs (map asked_of ns.admitting.items)) (ap₂ (λ inner rules. map (numbered inner) rules) c.deref-2.ensures.value c.deref.ensures.value) c.in_ok-side_of.ensures in
    let within : i < length E = let l = slice_get_within c.in_ok-all.all.items i true e in omega (arith, l, c.in_ok-all.ensures.long, ap length c.deref-4.ensures.value, w.long) in
    let none : IsMetByNone table.entries.items (slice_index all.numbers.items i) = subst (λ xs. IsMetByNone table.entries.items (slice_index xs i)) c.deref-4.ensures.value (c.in_ok-all.ensures.none i e) in
    record {
      name = name_of E i;
      at = name_within E i within;
      none = λ I inst x d. is_false (I (definition (name_of E i)) x)
          (no_instance E w.all all.numbering.rules.items all.numbering.children.items w.numbering I inst ns none.asked (λ J m. no_document ns table c.in_ok-table.ensures.ended c.in_ok-table.ensures.rest J m none.asked none.shut) first (name_of E i) (slice_index all.numbers.items i) (w.each i within) c.new.ensures.items none.only x d);
    }
