-- What is told of why a document is no instance of a rule. C stands for causes of the code, which name rules and values by
-- numbers; `meaning i c` is the cause by the meaning that c is of the item i.
use Rattle.std.specs.Prelude.{◌≡◌, ℕ, ◌<◌, Bool, true, false, not, ◌||◌, List, [], ◌∷◌, ◌⊎◌, Option, Some, None, Contains, length, take, map, slice_get}
use Rattle.std.specs.List.{cons_option, list_any, AllByRecursion}
use Rattle.cs_document.specs.Document.{Document}
use Rattle.cs_flat.specs.Nodes.{node_at}
use Rattle.cs_reasons.specs.Told.{entry_of, chain_to}
use Rattle.cs_reasons.specs.declared.reasons.Reason.{Reason}
use Rattle.cs_reasons.specs.declared.reasons.Reasons.{Reasons}
use Rattle.cs_table.specs.Judged.{IsEarlier}
use Rattle.cs_package.specs.Environment.{Environment}
use Rattle.cs_instance_reasons.specs.Causes.{Cause, no_alternative}
use Rattle.cs_instance.specs.Constraint.{any_of}
use Rattle.cs_instance.specs.Instance.{Rule}
use Rattle.cs_instance.specs.Numbering.{rule_at}
use Rattle.cs_instance_reasons.specs.Why.{asked_by, Way, way_of, is_to_alternative, IsRefused, IsWhy}

-- the item that a cause of the item i leads to
abbrev pub item_after : ℕ → Option (ℕ × ℕ) → ℕ
item_after i None = i
item_after i (Some p) = p.0

module _ {C : Type 0} (leads_to : C → Option (ℕ × ℕ)) (meaning : ℕ → C → Cause Document Rule Rule) where
  -- the ways of the causes on a chain, the first of which is one of the item i
  abbrev pub ways_along : ℕ → List C → List Way
  ways_along i [] = []
  ways_along i (c ∷ cs) = cons_option (way_of (meaning i c)) (ways_along (item_after i (leads_to c)) cs)

module _ (E : Environment) (I : Rule → Document → Bool) (r0 : Rule) (x0 : Document) where
  -- these ways lead to a rule and a value, and the value is an instance of no alternative of the rule
  pub record IsNoneOf (w : List Way) (r : Rule) (x : Document) : Type 0 where
    pub refused : IsRefused E I r0 x0 w r x
    pub alternatives : List Rule
    pub asks : asked_by E r ≡ any_of alternatives
    pub none : AllByRecursion (λ s. I s x ≡ false) alternatives

  -- what is told at the end of a chain: why a value is no instance of a rule; or where not all alternatives are followed also
  -- that none of them admits it
  abbrev pub Tells : Bool → List Way → Rule → Document → Cause Document Rule Rule → Type 0
  Tells true w r x c = IsWhy E I r0 x0 w r x c
  Tells false w r x c = IsWhy E I r0 x0 w r x c ⊎ (IsNoneOf w r x × (c ≡ no_alternative))

  -- the reasons are told of the item i, which is x0, where rules and values have these numbers; `full` says whether all
  -- alternatives are followed
  module _ (rules : List Rule) (values : List Document) {C : Type 0} (leads_to : C → Option (ℕ × ℕ)) (meaning : ℕ → C → Cause Document Rule Rule) (i : ℕ) (full : Bool) where
    -- what a leaf of a pair tells at the end of these ways
    abbrev pub TellsOf : List Way → (ℕ × ℕ) × C → Type 0
    TellsOf w e = Tells full w (rule_at rules e.0.1) (node_at values e.0.0) (meaning e.0.0 e.1)

    pub record AreWhys (most : ℕ) (rs : Reasons C) : Type 0 where
      -- each that is told is so, at the end of the chain to its link
      pub told : (k : ℕ) (t : Reason C) → slice_get rs.told.items k ≡ Some t → TellsOf (ways_along leads_to meaning i (chain_to rs.links.items t.link)) (entry_of rs.links.items t)
      -- all there is to tell, each once
      pub all : List ((ℕ × ℕ) × C)
      pub sound : (k : ℕ) (e : (ℕ × ℕ) × C) → slice_get all k ≡ Some e → (w : List Way) × TellsOf w e
      pub once : (j k : ℕ) (e : (ℕ × ℕ) × C) → slice_get all j ≡ Some e → slice_get all k ≡ Some e → j ≡ k
      -- in the order of their pairs
      pub in_order : (j k : ℕ) (e g : (ℕ × ℕ) × C) → j < k → slice_get all j ≡ Some e → slice_get all k ≡ Some g → ¬ (IsEarlier g.0.0 g.0.1 e.0.0 e.0.1)
      -- no reason is left out, but below alternatives where not all of them are followed
      pub complete : (w : List Way) (r : Rule) (x : Document) (c : Cause Document Rule Rule) → IsWhy E I r0 x0 w r x c → (full || not (list_any is_to_alternative w)) ≡ true
          → (e : (ℕ × ℕ) × C) × Contains all e × (rule_at rules e.0.1 ≡ r) × (node_at values e.0.0 ≡ x) × (meaning e.0.0 e.1 ≡ c)
      -- the first of them are told, and how many there are; there is one
      pub first : map (entry_of rs.links.items) rs.told.items ≡ take most all
      pub count : rs.count ≡ length all
      pub some : 0 < length all
