-- Facts about the numbers of parts.
use Rattle.std.proofs.Common.{ℕ, ◌<◌, ◌≤◌, lt_of_lt_of_le}
use Rattle.std.specs.Prelude.{option_to_list}
use mathlib.Core.HLevel.{Unit-prop}
use native.Mathlib.Bridge.{le_prop}
use Rattle.cs_document.specs.Document.{Entry}
use Rattle.cs_document.proofs.Each.{each_map}
use Rattle.cs_profile.specs.Constraint.{Assertion, valid_by, at_keys, at_other_keys, in_front, behind, valid_by_all, valid_by_any, not_valid_by, Constraint, always, never, conjunction}
use Rattle.cs_rules.specs.Props.{each_prop, below_prop}
use Rattle.cs_validate.specs.Numbering.{ClaimBelow, PartsBelow}

claim_prop : (n m : ℕ) (a : Assertion ℕ ℕ) → IsProp (ClaimBelow n m a)
claim_prop n m (valid_by o) = below_prop n (option_to_list o)
claim_prop n m (at_keys ps) = each_prop (λ (e : Entry ℕ). e.1 < m) (λ e. le_prop) ps
claim_prop n m (at_other_keys ks p) = le_prop
claim_prop n m (in_front ps) = below_prop m ps
claim_prop n m (behind k p) = le_prop
claim_prop n m (valid_by_all rs) = below_prop n rs
claim_prop n m (valid_by_any rs) = below_prop n rs
claim_prop n m (not_valid_by r) = le_prop
claim_prop n m _ = Unit-prop

pub parts_prop : (n m : ℕ) (a : Constraint ℕ ℕ) → IsProp (PartsBelow n m a)
parts_prop n m always = Unit-prop
parts_prop n m never = Unit-prop
parts_prop n m (conjunction claims) = each_prop (ClaimBelow n m) (claim_prop n m) claims

-- parts that are below two numbers are below greater ones
claim_weaker : (n m n' m' : ℕ) → n ≤ n' → m ≤ m' → (a : Assertion ℕ ℕ) → ClaimBelow n m a → ClaimBelow n' m' a
claim_weaker n m n' m' u l (valid_by o) b = each_map (λ r. r < n) (λ r. r < n') (λ r c. lt_of_lt_of_le c u) (option_to_list o) b
claim_weaker n m n' m' u l (at_keys ps) b = each_map (λ (e : Entry ℕ). e.1 < m) (λ (e : Entry ℕ). e.1 < m') (λ e c. lt_of_lt_of_le c l) ps b
claim_weaker n m n' m' u l (at_other_keys ks p) b = lt_of_lt_of_le b l
claim_weaker n m n' m' u l (in_front ps) b = each_map (λ p. p < m) (λ p. p < m') (λ p c. lt_of_lt_of_le c l) ps b
claim_weaker n m n' m' u l (behind j p) b = lt_of_lt_of_le b l
claim_weaker n m n' m' u l (valid_by_all rs) b = each_map (λ r. r < n) (λ r. r < n') (λ r c. lt_of_lt_of_le c u) rs b
claim_weaker n m n' m' u l (valid_by_any rs) b = each_map (λ r. r < n) (λ r. r < n') (λ r c. lt_of_lt_of_le c u) rs b
claim_weaker n m n' m' u l (not_valid_by r) b = lt_of_lt_of_le b u
claim_weaker n m n' m' u l _ b = tt

pub parts_weaker : (n m n' m' : ℕ) → n ≤ n' → m ≤ m' → (a : Constraint ℕ ℕ) → PartsBelow n m a → PartsBelow n' m' a
parts_weaker n m n' m' u l always b = tt
parts_weaker n m n' m' u l never b = tt
parts_weaker n m n' m' u l (conjunction claims) b = each_map (ClaimBelow n m) (ClaimBelow n' m') (claim_weaker n m n' m' u l) claims b
