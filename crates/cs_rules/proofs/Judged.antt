-- What a judge answers at a rule and a value.
use Rattle.std.proofs.Common.{◌≡◌, ℕ, zero, suc, ◌<◌, ◌≤◌, List, [], ◌∷◌, Option, Some, None, map, length, option_map, refl, sym, ap, ap₂, ◌∙◌, lt_of_lt_of_le, arith}
use Rattle.std.specs.Prelude.{slice_get}
use Rattle.std.proofs.lemmas.Option.{slice_get-map, get_or_from_slice_get}
use Rattle.cs_document.specs.Document.{Document, null, Entry}
use Rattle.cs_document.specs.Opened.{Opened, a_null, a_boolean, an_integer, a_text, a_list, an_object}
use Rattle.cs_document.specs.Inside.{InsideBelow}
use Rattle.cs_document.proofs.Each.{each_map}
use Rattle.cs_flat.specs.Nodes.{node_at}
use Rattle.cs_table.specs.Judged.{AllVerdicts, Judgement, IsJudged}
use Rattle.cs_rules.specs.Steps.{Step}
use Rattle.cs_rules.specs.Answers.{step_by, step_at, answer}

pub inside_weaker : (i n : ℕ) → i ≤ n → (x : Opened ℕ) → InsideBelow i x → InsideBelow n x
inside_weaker i n l a_null h = tt
inside_weaker i n l (a_boolean b) h = tt
inside_weaker i n l (an_integer z) h = tt
inside_weaker i n l (a_text s) h = tt
inside_weaker i n l (a_list ys) h = each_map (λ y. y < i) (λ y. y < n) (λ y k. lt_of_lt_of_le k l) ys h
inside_weaker i n l (an_object ms) h = each_map (λ (m : Entry ℕ). m.1 < i) (λ (m : Entry ℕ). m.1 < n) (λ m k. lt_of_lt_of_le k l) ms h

pub answer_is : {R : Type 0} (step : R → Step) (rules : List R) (children : List ℕ) (ns : List Document) (items : List (Opened ℕ)) (i r : ℕ) (f : AllVerdicts) (rule : R) (x : Opened ℕ)
    → slice_get rules r ≡ Some rule → slice_get items i ≡ Some x → answer step rules children ns items i r f ≡ step_by step children f i rule (node_at ns i) x
answer_is step rules children ns items i r f rule x e k = ap₂ (λ o y. step_at step children f i o (node_at ns i) y) e k

pub node_is : (ns : List Document) (i : ℕ) (d : Document) → slice_get ns i ≡ Some d → node_at ns i ≡ d
node_is ns i d e = get_or_from_slice_get ns i d null e

-- what stands for a rule at a place is made of the rule there
module _ {R C : Type 0} (made : R → C) (rules : List R) (r : ℕ) (c : C) where
  coded_at : (o : Option R) → slice_get rules r ≡ o → slice_get (map made rules) r ≡ Some c → (x : R) × (slice_get rules r ≡ Some x) × (made x ≡ c)
  coded_at None e h = let k : option_map made None ≡ Some c = sym (slice_get-map made rules r ∙ ap (option_map made) e) ∙ h in cc
  coded_at (Some x) e h = (x, e, (let k : Some (made x) ≡ Some c = sym (slice_get-map made rules r ∙ ap (option_map made) e) ∙ h in cc))

  pub coded_found : slice_get (map made rules) r ≡ Some c → (x : R) × (slice_get rules r ≡ Some x) × (made x ≡ c)
  coded_found h = coded_at (slice_get rules r) refl h

-- ---- tables

pub found_within : {X : Type 0} (xs : List X) (i : ℕ) → i < length xs → (x : X) × (slice_get xs i ≡ Some x)
found_within [] i l = absurd (omega (arith, l))
found_within (x ∷ xs) zero l = (x, refl)
found_within (x ∷ xs) (suc i) l = found_within xs i (omega (arith, l))

-- a table is judged if it is right wherever there is a rule and an item
pub judged_where : {C : Type 0} (asked : List C) (xs : List (Opened ℕ)) (ic rc : ℕ) (judge : Judgement) (f : AllVerdicts) → ic ≡ length xs → rc ≡ length asked
    → ((i r : ℕ) (c : C) (x : Opened ℕ) → slice_get asked r ≡ Some c → slice_get xs i ≡ Some x → f i r ≡ judge i r f) → IsJudged ic rc judge f
judged_where asked xs ic rc judge f items rules h i r l m =
    let c = found_within asked r (omega (arith, m, rules)) in
    let x = found_within xs i (omega (arith, l, items)) in h i r c.0 x.0 c.1 x.1
