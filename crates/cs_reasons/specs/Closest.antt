-- Links of which it is counted how many alternatives are as close.
use Rattle.std.specs.Prelude.{◌≡◌, ℕ, List, Some, length, slice_get}
use Rattle.cs_reasons.specs.declared.reasons.Link.{Link}

-- two lists have the same links but for that count
abbrev pub AreSameLinks : {C : Type 0} → List (Link C) → List (Link C) → Type 0
AreSameLinks {C} old links = (length links ≡ length old) × ((k : ℕ) (l : Link C) → slice_get links k ≡ Some l
    → (o : Link C) × (slice_get old k ≡ Some o) × (o.item ≡ l.item) × (o.rule ≡ l.rule) × (o.up ≡ l.up))
