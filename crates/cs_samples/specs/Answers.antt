-- What questions answer. For private contracts and proofs alone.
use Rattle.std.specs.Prelude.{ℕ, Option, Vec, IfSome}
use Rattle.std.specs.declared.alloc.Global.{Global}
use Rattle.cs_samples.specs.declared.asking.Asking.{Asking}
use Rattle.cs_samples.specs.Sample.{IsSampleText}

-- a text that is answered is that of a sample
abbrev pub IsAnswer : Asking → Option (Vec ℕ Global) → Type 0
IsAnswer a o = IfSome o (λ t. IsSampleText a.package.now a.root.now a.which t.items)
