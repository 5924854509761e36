-- What pairs cost, and which of some causes leads to the pair that costs least.
use Rattle.std.specs.Prelude.{ℕ, ◌+◌, ◌^◌, Bool, false, cond, nat_eq, nat_lt, nat_le, List, [], ◌++◌, Option, Some, None, length, replicate, get_or, slice_get, slice_set}
use Rattle.std.specs.List.{fold}
use Rattle.cs_reasons.specs.declared.costs.Costs.{Costs}

-- costs as they are kept: how many rules there are, for each item where its costs begin, the item that was begun last, and all costs
pub record Kept : Type 0 where
  pub rules : ℕ
  pub starts : List ℕ
  pub last : Option ℕ
  pub costs : List ℕ

abbrev pub kept : Costs → Kept
kept c = record { rules = c.rules; starts = c.starts.items; last = c.last; costs = c.costs.items }

-- none yet, of so many items and rules
abbrev pub none_kept : ℕ → ℕ → Kept
none_kept items rules = record { rules = rules; starts = replicate items 0; last = None; costs = [] }

abbrev pub is_item : ℕ → Option ℕ → Bool
is_item i None = false
is_item i (Some j) = nat_eq j i

-- the costs of an item behind all others, unless it was begun last
abbrev pub begun : ℕ → Kept → Kept
begun i k = cond (is_item i k.last) k (record { rules = k.rules; starts = slice_set k.starts i (length k.costs); last = Some i; costs = k.costs ++ replicate k.rules 0 })

-- the place of a rule's cost, by where the costs of the item begin
abbrev pub place_behind : ℕ → Option ℕ → Option ℕ
place_behind r None = None
place_behind r (Some start) = cond (nat_lt (start + r) (2 ^ 64)) (Some (start + r)) None

abbrev pub place : Kept → ℕ → ℕ → Option ℕ
place k i r = place_behind r (slice_get k.starts i)

-- a cost put at a place, if there is one
abbrev pub put_at : List ℕ → Option ℕ → ℕ → List ℕ
put_at costs None n = costs
put_at costs (Some p) n = slice_set costs p n

abbrev pub with_cost : ℕ → ℕ → ℕ → Kept → Kept
with_cost i r n k = record { rules = k.rules; starts = k.starts; last = k.last; costs = put_at k.costs (place k i r) n }

-- the cost at a place, which is the largest one where there is none
abbrev pub cost_at : List ℕ → Option ℕ → ℕ
cost_at costs None = 65535
cost_at costs (Some p) = get_or costs p 65535

-- the cost of a pair, and of the pair that a cause leads to
abbrev pub pair_cost : Kept → ℕ → ℕ → ℕ
pair_cost k i r = cost_at k.costs (place k i r)

abbrev pub cost_below : Kept → Option (ℕ × ℕ) → ℕ
cost_below k None = 65535
cost_below k (Some p) = pair_cost k p.0 p.1

module _ {C : Type 0} (cost : C → ℕ) where
  -- what costs least so far, with its cost, and one more: the first of equal ones stays
  abbrev pub lesser : Option (C × ℕ) → C → Option (C × ℕ)
  lesser None c = Some (c, cost c)
  lesser (Some best) c = cond (nat_le best.1 (cost c)) (Some best) (Some (c, cost c))

  abbrev pub first_least : List C → Option (C × ℕ)
  first_least cs = fold lesser None cs
