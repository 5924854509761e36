-- The table of a schema document's rules over a document's values has the verdicts of the meaning.
use Rattle.std.proofs.Common.{◌≡◌, ◌<◌, ℕ, Bool, false, List, Option, map, length, slice_index, refl, sym, ap, ◌∙◌, subst}
use Rattle.std.specs.Prelude.{Some, slice_get}
use Rattle.std.proofs.lemmas.List.{length-map}
use Rattle.std.proofs.lemmas.Option.{slice_get_within, get_or_from_slice_get}
use Rattle.cs_document.specs.Document.{Document, boolean, IsDocument}
use Rattle.cs_document.specs.Opened.{Opened}
use Rattle.cs_flat.specs.Nodes.{nodes, node_at}
use Rattle.cs_flat.specs.Items.{AreItems}
use Rattle.cs_flat.specs.Listed.{values, document_in}
use Rattle.cs_table.specs.Judged.{AllVerdicts, IsJudged}
use Rattle.cs_reasons.specs.Told.{AreReasons}
use Rattle.cs_reasons.specs.declared.reasons.Reasons.{Reasons}
use Rattle.cs_reasons.specs.declared.telling.Telling.{Telling}
use Rattle.cs_rules.specs.Answers.{answer}
use Rattle.cs_rules.proofs.Judged.{answer_is, coded_found}
use Rattle.cs_profile.specs.Constraint.{Constraint}
use Rattle.cs_profile.specs.Validity.{is_satisfied, IsValidity}
use Rattle.cs_validate.specs.Numbering.{schema_at}
use Rattle.cs_validate.specs.Judging.{IsJudge}
use Rattle.cs_validity_reasons.specs.NumberedCauses.{NumberedCause}
use Rattle.cs_validity_reasons.specs.Renamed.{AreRenamed}
use Rattle.cs_validity_reasons.specs.WhyTold.{ValidCause, IsToldWhy}
use Rattle.cs_validate.specs.declared.rules.Rule.{Rule as Coded}
use Rattle.cs_validate.specs.Steps.{asked_of, numbered, step}
use Rattle.cs_validate.specs.Rooted.{IsRooted}
use Rattle.cs_validate.proofs.Satisfied.{named as mapped}
use Rattle.cs_validate.proofs.Verdicts.{is_judged}
use Rattle.cs_validity_reasons.proofs.Whys.{IsSetting}
use Rattle.cs_validity_reasons.proofs.Tells.{AreNamed, AreFollowed, AreDistinct, says, tells}

module _ (R : Document) (xs : List (Opened ℕ)) (root : ℕ) (rules : List Coded) (inner : List ℕ) (rooted : IsRooted R rules inner root) where
  answers_here : (f : AllVerdicts) (i r : ℕ) (c : Constraint ℕ ℕ) (x : Opened ℕ) → slice_get (map (numbered inner) rules) r ≡ Some c → slice_get xs i ≡ Some x
      → answer step rules inner (values xs) xs i r f ≡ is_satisfied (λ p. f i p) (λ y p. f y p) c (node_at (values xs) i) x
  answers_here f i r c x e k =
      let y = coded_found (numbered inner) rules r c e in
      answer_is step rules inner (values xs) xs i r f y.0 x y.1 k ∙ sym (mapped (λ q. q) (slice_index inner) (f i) f (asked_of y.0) (node_at (values xs) i) x)
      ∙ ap (λ a. is_satisfied (f i) f a (node_at (values xs) i) x) y.2

  rule_count : length rules ≡ length rooted.all
  rule_count = sym (length-map rules (numbered inner)) ∙ rooted.numbering.count

  abbrev judge_here : IsJudge R xs root (length xs) (length rules) (answer step rules inner (values xs) xs)
  judge_here =
      record { all = rooted.all; are = rooted.are; asked = map (numbered inner) rules; numbering = rooted.numbering; item_count = refl; rule_count = rule_count; found = rooted.root; answers = answers_here }

  -- a table that is as every table which the rules judge
  pub setting_of : AreItems (values xs) xs → length xs ≡ length (nodes (document_in xs)) → (g : AllVerdicts)
      → ((f : AllVerdicts) → IsJudged (length xs) (length rules) (answer step rules inner (values xs) xs) f → (i r : ℕ) → i < length xs → r < length rules → g i r ≡ f i r)
      → (V : Document → Document → Bool) → IsValidity R V → IsSetting R xs rooted.all (map (numbered inner) rules) g V
  setting_of are whole g only V h = record { numbering = rooted.numbering; are = are; agree = agree }
    where
      agree : (i r : ℕ) → i < length xs → r < length rooted.all → g i r ≡ V (schema_at rooted.all r) (node_at (values xs) i)
      agree i r l m =
          only (λ j q. V (schema_at rooted.all q) (node_at (values xs) j)) (is_judged R xs root (length xs) (length rules) (answer step rules inner (values xs) xs) judge_here are whole V h) i r l
          (subst (λ n. r < n) (sym rule_count) m)

  -- the root has its number
  pub root_there : schema_at rooted.all root ≡ R
  root_there = get_or_from_slice_get rooted.all root R (boolean false) rooted.root

  pub root_within : root < length rooted.all
  root_within = slice_get_within rooted.all root R rooted.root

  -- what is told of the root's refusal of the document is told of it by the meaning
  module _ (are : AreItems (values xs) xs) (many : length xs ≡ length (nodes (document_in xs))) (fits : IsDocument (document_in xs)) (g : AllVerdicts)
      (only : (f : AllVerdicts) → IsJudged (length xs) (length rules) (answer step rules inner (values xs) xs) f → (i r : ℕ) → i < length xs → r < length rules → g i r ≡ f i r)
      (last : ℕ) (within : last < length xs) (is_last : node_at (values xs) last ≡ document_in xs) (denied : g last root ≡ false)
      {C : Type 0} (leads_to : C → Option (ℕ × ℕ)) (is_cause followed : ℕ → ℕ → C → Type 0) (called : ℕ × ℕ → C → NumberedCause) (names : AreNamed leads_to is_cause called g xs (map (numbered inner) rules))
      (telling : Telling) (follows : AreFollowed leads_to is_cause followed called telling.all)
      (rs : Reasons C) (reasons : AreReasons leads_to followed last root telling.most rs) (ss : Reasons ValidCause) (same : AreRenamed (says followed called) rs ss) (distinct : AreDistinct followed called)
      (V : Document → Document → Bool) (h : IsValidity R V) where
    setting : IsSetting R xs rooted.all (map (numbered inner) rules) g V
    setting = setting_of are many g only V h

    bad : V R (document_in xs) ≡ false
    bad = ap (λ s. V s (document_in xs)) (sym root_there) ∙ ap (V (schema_at rooted.all root)) (sym is_last) ∙ sym (setting.agree last root within root_within) ∙ denied

    pub told_why : IsToldWhy R V xs telling ss
    told_why =
        tells R xs rooted.all (map (numbered inner) rules) g V setting leads_to is_cause followed called names telling follows last root within root_within root_there is_last bad fits rs reasons ss same distinct rooted.are
