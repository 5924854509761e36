use Rattle.std.proofs.Common.{◌≡◌, map, take}
use Rattle.std.specs.Prelude.{IsUtf8}
use Rattle.std.specs.List.{AllByRecursion}
use Rattle.cs_tool.proofs.packages.texts_of.Given as goal

abbrev pub invariant-loop-file : goal.invariant-loop-file
invariant-loop-file l = record {
  texts : map (λ t. t.now) l.texts.items ≡ map (λ s. s.now) (take l.file l.sources);
  utf8 : AllByRecursion IsUtf8 (take l.file (map (λ s. s.now) l.sources));
}
