use Rattle.cs_instance.proofs.numbered.root_rules.Goals as goal

pub invariant_of-result : goal.invariant_of-result
invariant_of-result c = rw c.in_ok-book.ensures c.in_ok-definition.ensures.rooted
