use Rattle.std.proofs.Common.{◌≡◌, map, take}
use Rattle.cs_embeddings.specs.Sited.{leading}
use Rattle.cs_embeddings.proofs.gathered.Together.site.Given as goal

abbrev pub invariant-loop-declared : goal.invariant-loop-declared
invariant-loop-declared l =
    (l.lead ≡ leading (take l.declared-index l.declared-items)) × (l.all.items ≡ map (λ d. d.at) (take l.declared-index l.declared-items))
