-- What a document's kind decides of numbered rules.
use Rattle.std.specs.Prelude.{◌≡◌, ℕ, true, List, Some, length, take, slice_get, slice_index, unwrap_or}
use Rattle.cs_document.specs.Opened.{Opened}
use Rattle.cs_rules.specs.Kinds.{decided_by, Foretells}
use Rattle.cs_rules.specs.declared.by_kind.ByKind.{ByKind}
use Rattle.cs_instance.specs.Steps.{step}
use Rattle.cs_instance.specs.declared.rules.Rule.{Rule as Coded}
use Rattle.cs_listing.specs.Kinds.{has_kind}

-- for each rule there are verdicts by kind, which those of the rules before it give
pub record AreByKind (rules : List Coded) (ks : List ByKind) : Type 0 where
  pub count : length ks ≡ length rules
  pub each : (r : ℕ) (x : Coded) (k : ByKind) → slice_get rules r ≡ Some x → slice_get ks r ≡ Some k → Foretells (step x) (take r ks) k

-- for each of these numbers, the kinds that the verdicts on its rule leave open
pub record AreLeftOpen (ks : List ByKind) (numbers : List ℕ) (kinds : List ByKind) : Type 0 where
  pub count : length kinds ≡ length numbers
  pub each : (i : ℕ) (k : ByKind) → slice_get kinds i ≡ Some k → (x : Opened ℕ) → has_kind k x ≡ unwrap_or (decided_by ks x (slice_index numbers i)) true
