use Rattle.std.proofs.Common.{◌≡◌, true, sym, subst}
use Rattle.std.specs.List.{list_all}
use Rattle.cs_question.proofs.Some.{all_inserted}
use Rattle.cs_question.proofs.nodes.add.Goals as goal

pub returns-in_ok-insert-in-Err : goal.returns-in_ok-insert-in-Err
returns-in_ok-insert-in-Err c = λ p h k. subst (λ ls. list_all p ls ≡ true) (sym c.in_ok-insert-in-Err.ensures.items) (all_inserted p c.args.asked.now.items c.in-Err.place c.args.literal h k)
