use Rattle.std.proofs.Common.{string_bytes}
use Rattle.cs_package.specs.Environment.{IsDefinitionName}
use Rattle.cs_variants.proofs.variants.put_name.Given as goal

abbrev pub invariant-loop : goal.invariant-loop
invariant-loop l = IsDefinitionName (string_bytes l.fresh)
