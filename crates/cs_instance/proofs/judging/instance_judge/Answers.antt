use Rattle.std.proofs.Common.{ap}
use Rattle.cs_guard.specs.Numbered.{name_of}
use Rattle.cs_instance.proofs.Verdicts.{judge_over}
use Rattle.cs_instance.proofs.judging.instance_judge.Goals as goal

pub returns-clause-found : goal.returns-clause-found
returns-clause-found c =
    let E = c.args.«package».now in
    let root = c.in_ok-rooted.rooted in
    let told = c.in_ok-rooted.ensures in
    let j = c.in_ok-judge.judge in
    let m = c.in_ok-judge.ensures.numbering in (
      name_of E root.definition,
      told.named,
      judge_over E (name_of E root.definition) c.args.flat.now root.number root.numbering.rules.items root.numbering.children.items told.rooted
          j.flat.now j.book.numbering.rules.items j.book.numbering.children.items c.in_ok-judge.ensures.flat (ap (λ x. x.rules.items) m) (ap (λ x. x.children.items) m),
    )
