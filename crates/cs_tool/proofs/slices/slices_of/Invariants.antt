use Rattle.std.proofs.Common.{◌≡◌, map, take}
use Rattle.cs_tool.proofs.slices.slices_of.Given as goal

abbrev pub invariant-loop-file : goal.invariant-loop-file
invariant-loop-file l = map (λ s. s.now) l.slices.items ≡ map (λ f. f.items) (take l.file-index l.files)
