-- Reasons and links while the pairs are passed in their order.
use Rattle.std.specs.Prelude.{◌≡◌, ℕ, ◌<◌, ◌≤◌, ◌+◌, ◌⊎◌, Bool, ◌||◌, ◌&&◌, nat_eq, nat_lt, List, [], ◌∷◌, ◌++◌, Option, Some, None, Contains, length, take, map, slice_get, slice_set}
use Rattle.cs_table.specs.Judged.{IsEarlier}
use Rattle.cs_reasons.specs.Told.{pair_at, entry_of}
use Rattle.cs_reasons.specs.declared.reasons.Link.{Link}
use Rattle.cs_reasons.specs.declared.reasons.Up.{Up}
use Rattle.cs_reasons.specs.declared.reasons.Reason.{Reason}
use Rattle.cs_reasons.specs.declared.reasons.Reasons.{Reasons}

-- whether a pair comes before another
abbrev pub is_before : ℕ → ℕ → ℕ → ℕ → Bool
is_before j q i r = nat_lt j i || (nat_eq j i && nat_lt q r)

module _ {C : Type 0} where
  -- the links are in the order of their pairs
  abbrev pub AreInOrder : List (Link C) → Type 0
  AreInOrder links = (a b : ℕ) (l m : Link C) → a < b → slice_get links a ≡ Some l → slice_get links b ≡ Some m → IsEarlier l.item l.rule m.item m.rule

  -- the link at a place is that of a pair
  abbrev pub IsLinkAt : List (Link C) → ℕ → ℕ → ℕ → Type 0
  IsLinkAt links a i r = (l : Link C) × (slice_get links a ≡ Some l) × (l.item ≡ i) × (l.rule ≡ r)

  -- what a search for the link of a pair answers
  abbrev pub IsFound : List (Link C) → ℕ → ℕ → Option ℕ → Type 0
  IsFound links i r None = AreInOrder links → (a : ℕ) → ¬ (IsLinkAt links a i r)
  IsFound links i r (Some a) = IsLinkAt links a i r

  -- the link of a pair is the last one, or is added behind the last one, which is that of another pair
  abbrev pub IsLast : List (Link C) → List (Link C) → ℕ → ℕ → ℕ → Type 0
  IsLast old links i r a =
      ((links ≡ old) × (length old ≡ a + 1) × IsLinkAt old a i r)
      ⊎ ((links ≡ old ++ record { item = i; rule = r; up = None; as_close = 0 } ∷ []) × (length old ≡ a) × ((b : ℕ) → length old ≡ b + 1 → ¬ (IsLinkAt old b i r)))

  -- a leaf of a pair is counted, and told while fewer are told than so many
  abbrev pub IsTold : ℕ → ℕ → ℕ → C → Reasons C → Reasons C → Type 0
  IsTold most i r c old new =
      (new.count ≡ old.count + 1)
      × (((most ≤ length old.told.items) × (new.links.items ≡ old.links.items) × (new.told.items ≡ old.told.items))
      ⊎ ((a : ℕ) × (length old.told.items < most) × IsLast old.links.items new.links.items i r a × (new.told.items ≡ old.told.items ++ record { link = a; cause = c } ∷ [])))

  -- a cause of a pair that leads to the pair j, q is what leads to the link of that pair, if it has one without such a
  -- cause
  abbrev pub IsUpFor : ℕ → ℕ → C → ℕ → ℕ → List (Link C) → List (Link C) → Type 0
  IsUpFor i r c j q old new =
      ((new ≡ old) × (AreInOrder old → (a : ℕ) (l : Link C) → slice_get old a ≡ Some l → l.item ≡ j → l.rule ≡ q → ¬ (l.up ≡ None)))
      ⊎ ((a b : ℕ) × (l : Link C) × (links : List (Link C)) × (slice_get old a ≡ Some l) × (l.item ≡ j) × (l.rule ≡ q) × (l.up ≡ None) × IsLast old links i r b
      × (new ≡ slice_set links a (record l { up = Some (record { link = b; cause = c }) })))

  -- a cause of a pair is listed
  abbrev pub IsListed : ℕ → ℕ → ℕ → C → Option (ℕ × ℕ) → Reasons C → Reasons C → Type 0
  IsListed most i r c None old new = IsTold most i r c old new
  IsListed most i r c (Some p) old new = (new.count ≡ old.count) × (new.told.items ≡ old.told.items) × IsUpFor i r c p.0 p.1 old.links.items new.links.items

module _ {C : Type 0} (leads_to : C → Option (ℕ × ℕ)) (is_reached : ℕ → ℕ → Type 0) (is_done : (ℕ × ℕ) × C → Type 0) where
  -- as far as causes are done: each link that one of them leads to has one that leads to it
  pub record AreLinks (links : List (Link C)) : Type 0 where
    pub in_order : AreInOrder links
    pub reached : (a : ℕ) (l : Link C) → slice_get links a ≡ Some l → is_reached l.item l.rule
    pub under : (a : ℕ) (l : Link C) (u : Up C) → slice_get links a ≡ Some l → l.up ≡ Some u
        → (a < u.link) × (u.link < length links) × is_done (pair_at links u.link, u.cause) × (leads_to u.cause ≡ Some (l.item, l.rule))
    pub linked : (a : ℕ) (l : Link C) (e : (ℕ × ℕ) × C) → slice_get links a ≡ Some l → is_done e → leads_to e.1 ≡ Some (l.item, l.rule) → ¬ (l.up ≡ None)

  -- and the reasons among them are listed
  pub record AreTold (most : ℕ) (all : List ((ℕ × ℕ) × C)) (rs : Reasons C) : Type 0 where
    pub sound : (k : ℕ) (e : (ℕ × ℕ) × C) → slice_get all k ≡ Some e → is_done e × (leads_to e.1 ≡ None)
    pub complete : (e : (ℕ × ℕ) × C) → is_done e → leads_to e.1 ≡ None → Contains all e
    pub once : (j k : ℕ) (e : (ℕ × ℕ) × C) → slice_get all j ≡ Some e → slice_get all k ≡ Some e → j ≡ k
    pub in_order : (j k : ℕ) (e g : (ℕ × ℕ) × C) → j < k → slice_get all j ≡ Some e → slice_get all k ≡ Some g → ¬ (IsEarlier g.0.0 g.0.1 e.0.0 e.0.1)
    pub within : (k : ℕ) (t : Reason C) → slice_get rs.told.items k ≡ Some t → t.link < length rs.links.items
    pub told : map (entry_of rs.links.items) rs.told.items ≡ take most all
    pub count : rs.count ≡ length all

  pub record AreListed (most : ℕ) (rs : Reasons C) : Type 0 where
    pub links : AreLinks rs.links.items
    pub all : List ((ℕ × ℕ) × C)
    pub told : AreTold most all rs
