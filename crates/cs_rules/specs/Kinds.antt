-- Verdicts that a value's kind alone decides.
use Rattle.std.specs.Prelude.{◌≡◌, ℕ, Bool, true, false, List, [], ◌∷◌, Option, Some, None, option_and_then, length, slice_get}
use Rattle.cs_document.specs.Document.{Document}
use Rattle.cs_document.specs.Opened.{Opened, a_null, a_boolean, an_integer, a_text, a_list, an_object, opened}
use Rattle.cs_document.specs.Inside.{map_opened}
use Rattle.cs_rules.specs.Steps.{Step}
use Rattle.cs_rules.specs.declared.by_kind.ByKind.{ByKind}

-- the verdict on values of its kind, if there is one
abbrev pub verdict_of : ByKind → Opened ℕ → Option Bool
verdict_of k a_null = k.null
verdict_of k (a_boolean b) = k.boolean
verdict_of k (an_integer z) = k.integer
verdict_of k (a_text s) = k.text
verdict_of k (a_list ys) = k.list
verdict_of k (an_object ms) = k.object

-- the verdicts for each kind in a row, and the place of a value's kind there
abbrev pub row_of : ByKind → List (Option Bool)
row_of k = k.null ∷ k.boolean ∷ k.integer ∷ k.text ∷ k.list ∷ k.object ∷ []

abbrev pub kind_place : Opened ℕ → ℕ
kind_place a_null = 0
kind_place (a_boolean b) = 1
kind_place (an_integer z) = 2
kind_place (a_text s) = 3
kind_place (a_list ys) = 4
kind_place (an_object ms) = 5

-- both of two verdicts, and either: one of them may decide it
abbrev pub both : Option Bool → Option Bool → Option Bool
both (Some false) p = Some false
both (Some true) p = p
both None (Some false) = Some false
both None p = None

abbrev pub either : Option Bool → Option Bool → Option Bool
either (Some true) p = Some true
either (Some false) p = p
either None (Some true) = Some true
either None p = None

-- a verdict that is decided is this one
abbrev pub Decides : Option Bool → Bool → Type 0
Decides o v = (b : Bool) → o ≡ Some b → v ≡ b

-- what is decided of a rule by the verdicts by kind of all rules so far
abbrev pub decided_by : List ByKind → Opened ℕ → ℕ → Option Bool
decided_by ks x r = option_and_then (λ k. verdict_of k x) (slice_get ks r)

-- what is decided of all of these rules together, and of one or another of them
abbrev pub all_decided : List ByKind → Opened ℕ → List ℕ → Option Bool
all_decided ks x [] = Some true
all_decided ks x (r ∷ rs) = both (decided_by ks x r) (all_decided ks x rs)

abbrev pub any_decided : List ByKind → Opened ℕ → List ℕ → Option Bool
any_decided ks x [] = Some false
any_decided ks x (r ∷ rs) = either (decided_by ks x r) (any_decided ks x rs)

-- verdicts on a value are as they are decided
abbrev pub AreDecided : List ByKind → Opened ℕ → (ℕ → Bool) → Type 0
AreDecided ks x here = (q : ℕ) → Decides (decided_by ks x q) (here q)

-- the item of a value: the value opened once, with numbers in place of those inside
abbrev pub IsItem : Document → Opened ℕ → Type 0
IsItem d x = (f : ℕ → Document) × (opened d ≡ map_opened f x)

-- verdicts by kind are those of the step, where those of earlier rules are as they are decided
abbrev pub Foretells : Step → List ByKind → ByKind → Type 0
Foretells step earlier k =
    (d : Document) (x : Opened ℕ) → IsItem d x → (here : ℕ → Bool) (inside : ℕ → ℕ → Bool) → AreDecided earlier x here
    → Decides (verdict_of k x) (step here inside d x)

-- for each rule there are verdicts by kind
pub record AreForetold {R : Type 0} (step : R → Step) (rules : List R) (ks : List ByKind) : Type 0 where
  pub count : length ks ≡ length rules
  pub each : (r : ℕ) (x : R) (k : ByKind) → slice_get rules r ≡ Some x → slice_get ks r ≡ Some k → Foretells (step x) ks k
