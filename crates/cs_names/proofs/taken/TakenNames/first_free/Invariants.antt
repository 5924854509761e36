use Rattle.std.proofs.Common.{ℕ, Bool, List}
use Rattle.cs_grammar.specs.Tree.{DefinitionTree}
use Rattle.cs_names.specs.Taken.{TellsTaken, IsBehind, is_named}
use Rattle.cs_names.proofs.taken.TakenNames.first_free.Given as goal

abbrev pub invariant-loop-number : goal.invariant-loop-number
invariant-loop-number l = (all : List DefinitionTree) (given : List ℕ → Bool) → TellsTaken l.self all given → IsBehind (is_named all given) l.wanted l.first
    → IsBehind (is_named all given) l.wanted l.number
