use Rattle.std.proofs.Common.{◌≡◌, map}
use Rattle.cs_embeddings.specs.GatheredTable.{declared_view}
use Rattle.cs_embeddings.proofs.Keeping.{declared_before}
use Rattle.cs_embeddings.proofs.kept.declared_in_files.Given as goal

abbrev pub invariant-loop-file : goal.invariant-loop-file
invariant-loop-file l = map declared_view l.all.items ≡ declared_before l.files l.file-index
