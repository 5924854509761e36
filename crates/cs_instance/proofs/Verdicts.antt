-- The instance relation is the table of its judge.
use Rattle.std.proofs.Common.{◌≡◌, ℕ, suc, ◌*◌, ◌<◌, ◌≤◌, Bool, List, map, length, slice_index, refl, sym, ap, ap₂, ◌∙◌, subst, subst₂, arith}
use Rattle.std.specs.Prelude.{Some, slice_get}
use Rattle.std.proofs.lemmas.List.{length-map}
use Rattle.std.proofs.lemmas.Option.{slice_get_within}
use Rattle.std.proofs.lemmas.List.Sorted.{length_permutation}
use Rattle.cs_document.specs.Document.{Document}
use Rattle.cs_document.specs.Opened.{Opened, opened}
use Rattle.cs_document.specs.Inside.{map_opened}
use Rattle.cs_flat.specs.Nodes.{nodes, node_at}
use Rattle.cs_flat.specs.Items.{AreItems, inside}
use Rattle.cs_flat.specs.Listed.{values, document_in}
use Rattle.cs_table.specs.Judged.{AllVerdicts, Judgement, IsJudged, Table, verdicts}
use Rattle.cs_table.specs.Limit.{most_pairs}
use Rattle.cs_table.specs.Refused as limits
use Rattle.cs_table.specs.declared.fault.TableFault.{TableFault}
use Rattle.cs_table.specs.declared.fault.TableFault.TheVariants as table
use Rattle.cs_rules.specs.Answers.{answer}
use Rattle.cs_rules.proofs.Judged.{answer_is, coded_found, judged_where}
use Rattle.cs_package.specs.Environment.{Environment, Names, written}
use Rattle.cs_instance.specs.Constraint.{Constraint, is_satisfied}
use Rattle.cs_instance.specs.Instance.{Rule, definition, node, constraint_of, IsInstance}
use Rattle.cs_instance.specs.Numbering.{map_constraint, rule_at}
use Rattle.cs_instance.specs.Rules.{rules_of, HasManyPairs}
use Rattle.cs_instance.specs.Judging.{IsJudge, IsTable}
use Rattle.cs_instance.specs.Refusal.{IsRefusal, AreManyPairs}
use Rattle.cs_instance.specs.Faults.{fault_of}
use Rattle.cs_instance.specs.declared.fault.InstanceFault.TheVariants as instance
use Rattle.cs_instance.specs.declared.rules.Rule.{Rule as Coded}
use Rattle.cs_instance.specs.Steps.{asked_of, numbered, step}
use Rattle.cs_instance.specs.Rooted.{IsRooted}
use Rattle.cs_instance.proofs.Ready.{at_of_some}
use Rattle.cs_instance.proofs.Satisfied.{named, at_documents}
use Rattle.cs_instance.proofs.Wholes.{rules_count}

pub judge_of : (E : Environment) (n : List ℕ) (xs : List (Opened ℕ)) (root : ℕ) (rules : List Coded) (inner : List ℕ) → IsRooted E n rules inner root → IsJudge E n xs root (length xs) (length rules) (answer step rules inner (values xs) xs)
judge_of E n xs root rules inner h =
    let count : length rules ≡ length h.all = sym (length-map rules (numbered inner)) ∙ h.numbering.count in
    record { all = h.all; are = h.are; asked = map (numbered inner) rules; numbering = h.numbering; item_count = refl; rule_count = count; found = h.root; answers = answers }
  where
    answers : (f : AllVerdicts) (i r : ℕ) (c : Constraint ℕ ℕ) (x : Opened ℕ) → slice_get (map (numbered inner) rules) r ≡ Some c → slice_get xs i ≡ Some x → answer step rules inner (values xs) xs i r f ≡ is_satisfied (λ p. f i p) (λ y p. f y p) c x
    answers f i r c x e k =
        let y = coded_found (numbered inner) rules r c e in
        answer_is step rules inner (values xs) xs i r f y.0 x y.1 k ∙ sym (named (λ q. q) (slice_index inner) (f i) f (asked_of y.0) x) ∙ ap (λ a. is_satisfied (f i) f a x) y.2

-- the same, where a judge has these rules and values
pub judge_over : (E : Environment) (n : List ℕ) (xs : List (Opened ℕ)) (root : ℕ) (rules : List Coded) (inner : List ℕ) → IsRooted E n rules inner root → (ys : List (Opened ℕ)) (rules' : List Coded) (inner' : List ℕ) → ys ≡ xs → rules' ≡ rules → inner' ≡ inner
    → IsJudge E n xs root (length ys) (length rules') (answer step rules' inner' (values ys) ys)
judge_over E n xs root rules inner h ys rules' inner' a b d = rw (a, b, d) (judge_of E n xs root rules inner h)

module _ (E : Environment) (n : List ℕ) (xs : List (Opened ℕ)) (root ic rc : ℕ) (judge : Judgement) (j : IsJudge E n xs root ic rc judge) (are : AreItems (values xs) xs) (whole : length xs ≡ length (nodes (document_in xs))) where
  module _ (I : Rule → Document → Bool) (h : IsInstance E I) where
    abbrev table_of : AllVerdicts
    table_of i r = I (rule_at j.all r) (node_at (values xs) i)

    step_is : (rule : Rule) (x : Document) → I rule x ≡ is_satisfied (λ q. I q x) (λ y q. I q y) (map_constraint (λ p. p) node (constraint_of E rule)) (opened x)
    step_is rule x = h rule x ∙ sym (named (λ p. p) node (λ q. I q x) (λ y q. I q y) (constraint_of E rule) (opened x))

    pub is_judged : IsJudged ic rc judge table_of
    is_judged =
        judged_where j.asked xs ic rc judge table_of j.item_count (j.rule_count ∙ sym j.numbering.count)
        (λ i r c o e k.
        let x = node_at (values xs) i in
        step_is (rule_at j.all r) x
        ∙ ap₂ (is_satisfied (λ q. I q x) (λ y q. I q y)) (j.numbering.asks r c e) (are.node i o k)
        ∙ named (rule_at j.all) (rule_at j.all) (λ q. I q x) (λ y q. I q y) c (map_opened (node_at (values xs)) o)
        ∙ at_documents (node_at (values xs)) (λ q. I (rule_at j.all q) x) (λ y q. I (rule_at j.all q) y) c o
        ∙ sym (j.answers table_of i r c o e k))

  pub is_table : (t : Table) → t.items ≡ ic → t.rules ≡ rc → length t.given ≡ ic * rc → ((f : AllVerdicts) → IsJudged ic rc judge f → (i r : ℕ) → i < ic → r < rc → verdicts t i r ≡ f i r) → IsTable E n xs root t
  is_table t a b given only =
      let count = given ∙ ap₂ ◌*◌ j.item_count j.rule_count in
      record { all = j.all; are = j.are; item_count = a ∙ j.item_count; rule_count = b ∙ j.rule_count; count = count; found = j.found; verdict = verdict }
    where
      verdict : (I : Rule → Document → Bool) → IsInstance E I → (i r : ℕ) → i < length xs → r < length j.all → verdicts t i r ≡ I (rule_at j.all r) (node_at (values xs) i)
      verdict I h i r l m = only (table_of I h) (is_judged I h) i r (subst (λ k. i < k) (sym j.item_count) l) (subst (λ k. r < k) (sym j.rule_count) m)

  pairs : ic * rc ≡ length (nodes (document_in xs)) * length (rules_of E j.are.names)
  pairs = ap₂ ◌*◌ (j.item_count ∙ whole) (j.rule_count ∙ length_permutation (rules_of E j.are.names) j.all j.are.same)

  pub few_pairs : ic * rc ≤ most_pairs → HasManyPairs E n (document_in xs) → ⊥
  few_pairs l h =
      let same : length (nodes (document_in xs)) * length (rules_of E h.names) ≡ ic * rc = ap (λ k. length (nodes (document_in xs)) * k) (rules_count E n j.are.names h.names j.are.reachable h.reachable) ∙ sym pairs in
      let many : most_pairs < ic * rc = subst (λ k. most_pairs < k) same h.many in
      omega (arith, l, many)

  many_pairs : most_pairs < ic * rc → AreManyPairs E n (document_in xs) ic rc
  many_pairs l = record {
    names = j.are.names;
    reachable = j.are.reachable;
    items = j.item_count ∙ whole;
    rules = j.rule_count ∙ length_permutation (rules_of E j.are.names) j.all j.are.same;
    many = l;
  }

  told_pairs : (items rules : ℕ) → limits.IsRefusal ic rc (table.TooManyPairs items rules) → AreManyPairs E n (document_in xs) items rules
  told_pairs items rules h = subst₂ (AreManyPairs E n (document_in xs)) (sym h.0) (sym h.1) (many_pairs h.2)

  pub many_where : (e : TableFault) → limits.IsRefusal ic rc e → (items rules : ℕ) → fault_of e ≡ instance.TooManyPairs items rules → AreManyPairs E n (document_in xs) items rules
  many_where table.OutOfMemory h items rules is = cc
  many_where (table.TooManyPairs i r) h items rules is =
      let same_items : i ≡ items = cc in
      let same_rules : r ≡ rules = cc in
      subst₂ (AreManyPairs E n (document_in xs)) same_items same_rules (told_pairs i r h)

  pub refused : (root : List ℕ) → Names E root n → (e : TableFault) → limits.IsRefusal ic rc e → IsRefusal (fault_of e) E root (document_in xs)
  refused root names table.OutOfMemory h = tt
  refused root names (table.TooManyPairs items rules) h = (n, names, told_pairs items rules h)

-- the verdict on the last value by the root's rule is the one on the document
pub last_verdict : (E : Environment) (n : List ℕ) (xs : List (Opened ℕ)) (root : ℕ) (t : Table) → IsTable E n xs root t → (last : ℕ) → last ≡ inside (document_in xs) → length xs ≡ suc (inside (document_in xs)) → node_at (values xs) (inside (document_in xs)) ≡ document_in xs
    → (I : Rule → Document → Bool) → IsInstance E I → verdicts t last root ≡ I (definition n) (document_in xs)
last_verdict E n xs root t h last is count at I i =
    let within = slice_get_within h.all root (definition n) h.found in
    h.verdict I i last root (omega (arith, is, count)) within ∙ ap₂ I (at_of_some h.all root (definition n) h.found) (ap (node_at (values xs)) is ∙ at)

-- a text names one definition
pub one_name : (E : Environment) (t n m : List ℕ) → Names E t n → Names E t m → m ≡ n
one_name E t n m a b = (let e : written m ≡ written n = sym b.text ∙ a.text in cc)
