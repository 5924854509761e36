-- The validity of a schema document's schemas is the table of its judge.
use Rattle.std.proofs.Common.{◌≡◌, ℕ, ◌*◌, ◌<◌, ◌≤◌, Bool, List, map, length, slice_index, refl, sym, ap, ap₂, ◌∙◌, subst, subst₂, arith}
use Rattle.std.specs.Prelude.{Some, slice_get}
use Rattle.std.proofs.lemmas.List.{length-map}
use Rattle.std.proofs.lemmas.List.Sorted.{length_permutation}
use Rattle.cs_document.specs.Document.{Document}
use Rattle.cs_document.specs.Opened.{Opened, opened}
use Rattle.cs_document.specs.Inside.{map_opened}
use Rattle.cs_flat.specs.Nodes.{nodes, node_at}
use Rattle.cs_flat.specs.Items.{AreItems}
use Rattle.cs_flat.specs.Listed.{values, document_in}
use Rattle.cs_table.specs.Judged.{AllVerdicts, Judgement, IsJudged, Table, verdicts}
use Rattle.cs_table.specs.Limit.{most_pairs}
use Rattle.cs_table.specs.Refused as limits
use Rattle.cs_table.specs.declared.fault.TableFault.{TableFault}
use Rattle.cs_table.specs.declared.fault.TableFault.TheVariants as table
use Rattle.cs_rules.specs.Answers.{answer}
use Rattle.cs_rules.proofs.Judged.{answer_is, coded_found, judged_where}
use Rattle.cs_profile.specs.Constraint.{Constraint, constraint_of}
use Rattle.cs_profile.specs.Validity.{is_satisfied, IsValidity}
use Rattle.cs_validate.specs.Numbering.{map_constraint, said, schema_at}
use Rattle.cs_validate.specs.Rules.{rules_of, HasManyPairs}
use Rattle.cs_validate.specs.Judging.{IsJudge, IsTable}
use Rattle.cs_validate.specs.Refusal.{IsRefusal, AreManyPairs}
use Rattle.cs_validate.specs.declared.rules.Rule.{Rule as Coded}
use Rattle.cs_validate.specs.Steps.{asked_of, numbered, step}
use Rattle.cs_validate.specs.Rooted.{IsRooted}
use Rattle.cs_validate.proofs.Satisfied.{as_said, named, at_documents}

pub judge_of : (R : Document) (xs : List (Opened ℕ)) (root : ℕ) (rules : List Coded) (inner : List ℕ) → IsRooted R rules inner root → IsJudge R xs root (length xs) (length rules) (answer step rules inner (values xs) xs)
judge_of R xs root rules inner h =
    let count : length rules ≡ length h.all = sym (length-map rules (numbered inner)) ∙ h.numbering.count in
    record { all = h.all; are = h.are; asked = map (numbered inner) rules; numbering = h.numbering; item_count = refl; rule_count = count; found = h.root; answers = answers }
  where
    answers : (f : AllVerdicts) (i r : ℕ) (c : Constraint ℕ ℕ) (x : Opened ℕ) → slice_get (map (numbered inner) rules) r ≡ Some c → slice_get xs i ≡ Some x
        → answer step rules inner (values xs) xs i r f ≡ is_satisfied (λ p. f i p) (λ y p. f y p) c (node_at (values xs) i) x
    answers f i r c x e k =
        let y = coded_found (numbered inner) rules r c e in
        answer_is step rules inner (values xs) xs i r f y.0 x y.1 k ∙ sym (named (λ q. q) (slice_index inner) (f i) f (asked_of y.0) (node_at (values xs) i) x)
        ∙ ap (λ a. is_satisfied (f i) f a (node_at (values xs) i) x) y.2

-- and over rules and values that are the same
pub judge_over : (R : Document) (xs ys : List (Opened ℕ)) (root : ℕ) (rules rules' : List Coded) (inner inner' : List ℕ) → ys ≡ xs → rules' ≡ rules → inner' ≡ inner
    → IsRooted R rules inner root → IsJudge R xs root (length ys) (length rules') (answer step rules' inner' (values ys) ys)
judge_over R xs ys root rules rules' inner inner' e f g h =
    subst (λ y. IsJudge R xs root (length y) (length rules') (answer step rules' inner' (values y) y)) (sym e)
    (judge_of R xs root rules' inner' (subst (λ r. IsRooted R r inner' root) (sym f) (subst (λ i. IsRooted R rules i root) (sym g) h)))

module _ (R : Document) (xs : List (Opened ℕ)) (root ic rc : ℕ) (judge : Judgement) (j : IsJudge R xs root ic rc judge) (are : AreItems (values xs) xs) (whole : length xs ≡ length (nodes (document_in xs))) where
  module _ (V : Document → Document → Bool) (h : IsValidity R V) where
    abbrev table_of : AllVerdicts
    table_of i r = V (schema_at j.all r) (node_at (values xs) i)

    -- what a schema says is what it asks
    step_is : (s x : Document) → V s x ≡ is_satisfied (λ q. V q x) (λ y q. V q y) (said (constraint_of R s)) x (opened x)
    step_is s x = h s x ∙ sym (as_said (λ q. V q x) (λ y q. V q y) x (opened x) (constraint_of R s))

    pub is_judged : IsJudged ic rc judge table_of
    is_judged =
        judged_where j.asked xs ic rc judge table_of j.item_count (j.rule_count ∙ sym j.numbering.count)
        (λ i r c o e k.
        let x = node_at (values xs) i in
        let mapped = map_constraint (schema_at j.all) (schema_at j.all) c in
        step_is (schema_at j.all r) x
        ∙ ap (λ a. is_satisfied (λ q. V q x) (λ y q. V q y) a x (opened x)) (j.numbering.asks r c e)
        ∙ as_said (λ q. V q x) (λ y q. V q y) x (opened x) mapped
        ∙ ap (is_satisfied (λ q. V q x) (λ y q. V q y) mapped x) (are.node i o k)
        ∙ named (schema_at j.all) (schema_at j.all) (λ q. V q x) (λ y q. V q y) c x (map_opened (node_at (values xs)) o)
        ∙ at_documents (node_at (values xs)) (λ q. V (schema_at j.all q) x) (λ y q. V (schema_at j.all q) y) c x o
        ∙ sym (j.answers table_of i r c o e k))

  pub is_table : (t : Table) → t.items ≡ ic → t.rules ≡ rc → length t.given ≡ ic * rc → ((f : AllVerdicts) → IsJudged ic rc judge f → (i r : ℕ) → i < ic → r < rc → verdicts t i r ≡ f i r) → IsTable R xs root t
  is_table t a b given only =
      let count = given ∙ ap₂ ◌*◌ j.item_count j.rule_count in
      record { all = j.all; are = j.are; item_count = a ∙ j.item_count; rule_count = b ∙ j.rule_count; count = count; found = j.found; verdict = verdict }
    where
      verdict : (V : Document → Document → Bool) → IsValidity R V → (i r : ℕ) → i < length xs → r < length j.all → verdicts t i r ≡ V (schema_at j.all r) (node_at (values xs) i)
      verdict V h i r l m = only (table_of V h) (is_judged V h) i r (subst (λ k. i < k) (sym j.item_count) l) (subst (λ k. r < k) (sym j.rule_count) m)

  pairs : ic * rc ≡ length (nodes (document_in xs)) * length (rules_of R)
  pairs = ap₂ ◌*◌ (j.item_count ∙ whole) (j.rule_count ∙ length_permutation (rules_of R) j.all j.are)

  pub few_pairs : ic * rc ≤ most_pairs → HasManyPairs R (document_in xs) → ⊥
  few_pairs l h = let many : most_pairs < ic * rc = subst (λ k. most_pairs < k) (sym pairs) h in omega (arith, l, many)

  many_pairs : most_pairs < ic * rc → AreManyPairs R (document_in xs) ic rc
  many_pairs l = record {
    items = j.item_count ∙ whole;
    rules = j.rule_count ∙ length_permutation (rules_of R) j.all j.are;
    many = l;
  }

  pub refused : (e : TableFault) → limits.IsRefusal ic rc e → IsRefusal e R (document_in xs)
  refused table.OutOfMemory h = tt
  refused (table.TooManyPairs items rules) h = subst₂ (AreManyPairs R (document_in xs)) (sym h.0) (sym h.1) (many_pairs h.2)
