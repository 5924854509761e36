use Rattle.cs_describe.specs.Described.{described_root}
use Rattle.cs_describe.proofs.Joined.{IsMade}
use Rattle.cs_describe.proofs.describe.describe_root.Given as goal

abbrev pub invariant-loop-key : goal.invariant-loop-key
invariant-loop-key l = IsMade (described_root l.fn.note l.notes.entries) l.fn.members.entries l.key-iterator l.found.entries
