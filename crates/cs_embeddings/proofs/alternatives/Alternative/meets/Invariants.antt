use Rattle.std.proofs.Common.{◌≡◌, drop, map}
use Rattle.std.specs.List.{list_any}
use Rattle.std.specs.Str.{bytes_eq}
use Rattle.cs_embeddings.proofs.alternatives.Alternative.meets.Given as goal

abbrev pub invariant-loop-met : goal.invariant-loop-met
invariant-loop-met l = list_any (bytes_eq l.name) (map (λ s. s.now) l.self.met.items) ≡ list_any (bytes_eq l.name)
    (map (λ s. s.now) (drop l.met-index l.met-items))
