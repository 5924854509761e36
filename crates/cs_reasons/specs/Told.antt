-- What is told of a refused pair: the first of its reasons, how many there are, and the chains that lead to them.
use Rattle.std.specs.Prelude.{◌≡◌, ℕ, zero, suc, ◌<◌, List, [], ◌∷◌, ◌++◌, Option, Some, None, Contains, length, take, map, slice_get}
use Rattle.cs_table.specs.Judged.{IsEarlier}
use Rattle.cs_reasons.specs.Reasons.{IsReason}
use Rattle.cs_reasons.specs.declared.reasons.Link.{Link}
use Rattle.cs_reasons.specs.declared.reasons.Up.{Up}
use Rattle.cs_reasons.specs.declared.reasons.Reason.{Reason}
use Rattle.cs_reasons.specs.declared.reasons.Reasons.{Reasons}

-- the pair of a link, and a reason with the pair that it is of
abbrev pub pair_of : {C : Type 0} → Option (Link C) → ℕ × ℕ
pair_of None = (0, 0)
pair_of (Some l) = (l.item, l.rule)

abbrev pub pair_at : {C : Type 0} → List (Link C) → ℕ → ℕ × ℕ
pair_at links k = pair_of (slice_get links k)

abbrev pub entry_of : {C : Type 0} → List (Link C) → Reason C → (ℕ × ℕ) × C
entry_of links t = (pair_at links t.link, t.cause)

module _ {C : Type 0} (leads_to : C → Option (ℕ × ℕ)) (is_cause : ℕ → ℕ → C → Type 0) (i r : ℕ) where
  -- a link without one above it is that of the first pair; the pair above any other has a cause that leads to it
  abbrev pub IsUnder : List (Link C) → ℕ → ℕ × ℕ → Option (Up C) → Type 0
  IsUnder links k p None = p ≡ (i, r)
  IsUnder links k p (Some u) = (k < u.link) × (u.link < length links) × is_cause (pair_at links u.link).0 (pair_at links u.link).1 u.cause × (leads_to u.cause ≡ Some p)

  abbrev pub AreLinked : List (Link C) → Type 0
  AreLinked links = (k : ℕ) (l : Link C) → slice_get links k ≡ Some l → IsUnder links k (l.item, l.rule) l.up

  -- the reasons are all there are, each once, in the order of their pairs; the first of them are told, each with a link of
  -- its pair
  pub record AreReasons (most : ℕ) (rs : Reasons C) : Type 0 where
    pub linked : AreLinked rs.links.items
    pub within : (k : ℕ) (t : Reason C) → slice_get rs.told.items k ≡ Some t → t.link < length rs.links.items
    pub all : List ((ℕ × ℕ) × C)
    pub sound : (k : ℕ) (e : (ℕ × ℕ) × C) → slice_get all k ≡ Some e → IsReason leads_to is_cause i r e
    pub complete : (e : (ℕ × ℕ) × C) → IsReason leads_to is_cause i r e → Contains all e
    pub once : (j k : ℕ) (e : (ℕ × ℕ) × C) → slice_get all j ≡ Some e → slice_get all k ≡ Some e → j ≡ k
    pub in_order : (j k : ℕ) (e g : (ℕ × ℕ) × C) → j < k → slice_get all j ≡ Some e → slice_get all k ≡ Some g → ¬ (IsEarlier g.0.0 g.0.1 e.0.0 e.0.1)
    pub told : map (entry_of rs.links.items) rs.told.items ≡ take most all
    pub count : rs.count ≡ length all
    pub some : 0 < length all

-- what leads to the link at a place, and the causes on a chain that it ends
abbrev pub up_of : {C : Type 0} → Option (Link C) → Option (Up C)
up_of None = None
up_of (Some l) = l.up

abbrev pub chain_over : {C : Type 0} → (ℕ → List C) → Option (Up C) → List C
chain_over before None = []
chain_over before (Some u) = before u.link ++ u.cause ∷ []

-- the causes on the chain that leads to a link, from the first pair on
abbrev pub chain_in : {C : Type 0} → ℕ → List (Link C) → ℕ → List C
chain_in zero links k = []
chain_in (suc n) links k = chain_over (λ j. chain_in n links j) (up_of (slice_get links k))

abbrev pub chain_to : {C : Type 0} → List (Link C) → ℕ → List C
chain_to links k = chain_in (length links) links k
