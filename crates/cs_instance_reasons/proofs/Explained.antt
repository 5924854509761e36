-- What is told over a table of verdicts tells why the document is no instance.
use Rattle.std.proofs.Common.{◌≡◌, ℕ, ◌<◌, Bool, true, false, List, map, length, slice_index, refl, sym, ap, ◌∙◌, subst}
use Rattle.std.specs.Prelude.{Some, slice_get}
use Rattle.std.proofs.lemmas.List.{length-map}
use Rattle.std.proofs.lemmas.Option.{slice_get_within}
use Rattle.cs_document.specs.Document.{Document}
use Rattle.cs_document.specs.Opened.{Opened}
use Rattle.cs_flat.specs.Nodes.{nodes, node_at}
use Rattle.cs_flat.specs.Items.{AreItems, inside}
use Rattle.cs_flat.specs.Listed.{values, document_in}
use Rattle.cs_reasons.specs.Reasons.{IsFollowed}
use Rattle.cs_reasons.specs.Told.{AreReasons}
use Rattle.cs_reasons.specs.declared.reasons.Reasons.{Reasons}
use Rattle.cs_rules.specs.Answers.{answer}
use Rattle.cs_rules.proofs.Judged.{answer_is, coded_found}
use Rattle.cs_table.specs.Judged.{AllVerdicts, IsJudged}
use Rattle.cs_package.specs.Environment.{Environment}
use Rattle.cs_instance.specs.Constraint.{Constraint, is_satisfied}
use Rattle.cs_instance.specs.Instance.{Rule, definition, IsInstance}
use Rattle.cs_instance.specs.Judging.{IsJudge}
use Rattle.cs_instance_reasons.specs.Led.{leads_to, is_alternative}
use Rattle.cs_instance_reasons.specs.Meanings.{meaning_of, AreReasonsOf, IsExplained}
use Rattle.cs_instance.specs.Numbering.{rule_at}
use Rattle.cs_instance.specs.Rooted.{IsRooted}
use Rattle.cs_instance_reasons.specs.SeenCauses.{IsCauseAt}
use Rattle.cs_instance.specs.Steps.{asked_of, numbered, step}
use Rattle.cs_instance_reasons.specs.Closest.{AreOfChosen}
use Rattle.cs_instance_reasons.specs.WhyTold.{AreWhys}
use Rattle.cs_instance_reasons.specs.declared.cause.InstanceCause.{InstanceCause}
use Rattle.cs_instance_reasons.specs.declared.cause.InstanceCause.TheVariants.{NoAlternative}
use Rattle.cs_instance.specs.declared.rules.Rule.{Rule as Coded}
use Rattle.cs_instance_reasons.proofs.Closest.{of_chosen}
use Rattle.cs_instance.proofs.Ready.{at_of_some}
use Rattle.cs_instance.proofs.Satisfied.{named}
use Rattle.cs_instance_reasons.proofs.Seen.{are_seen, shows_alternative, shown_by_alternative}
use Rattle.cs_instance_reasons.proofs.Told.{whys_of_all, whys_of_closest, same_all}
use Rattle.cs_instance.proofs.Verdicts.{is_judged}

-- f gives what every table does that the judge of these rules and values fills
abbrev pub IsTableOf : List (Opened ℕ) → List Coded → List ℕ → AllVerdicts → Type 0
IsTableOf xs rules inner f =
    (g : AllVerdicts) → IsJudged (length xs) (length rules) (answer step rules inner (values xs) xs) g → (i r : ℕ) → i < length xs → r < length rules → f i r ≡ g i r

-- the same, where a judge has these rules and values
pub table_over : (f : AllVerdicts) (ys xs : List (Opened ℕ)) (rules' rules : List Coded) (inner' inner : List ℕ) → ys ≡ xs → rules' ≡ rules → inner' ≡ inner → IsTableOf ys rules' inner' f → IsTableOf xs rules inner f
table_over f ys xs rules' rules inner' inner a b d h =
    subst (λ zs. IsTableOf zs rules inner f) a (subst (λ rs. IsTableOf ys rs inner f) b (subst (λ is. IsTableOf ys rules' is f) d h))

module _ (E : Environment) (n : List ℕ) (xs : List (Opened ℕ)) (root : ℕ) (rules : List Coded) (inner : List ℕ) (h : IsRooted E n rules inner root)
    (are : AreItems (values xs) xs) (whole : length xs ≡ length (nodes (document_in xs))) (at : node_at (values xs) (inside (document_in xs)) ≡ document_in xs) (within : inside (document_in xs) < length xs)
    (f : AllVerdicts) (only : IsTableOf xs rules inner f) (last : ℕ) (is_last : last ≡ inside (document_in xs)) (told_no : f last root ≡ false) where
  abbrev asked : List (Constraint ℕ ℕ)
  asked = map (numbered inner) rules

  refused : f (inside (document_in xs)) root ≡ false
  refused = subst (λ i. f i root ≡ false) is_last told_no

  count : length rules ≡ length h.all
  count = sym (length-map rules (numbered inner)) ∙ h.numbering.count

  answers : (g : AllVerdicts) (i r : ℕ) (c : Constraint ℕ ℕ) (x : Opened ℕ) → slice_get asked r ≡ Some c → slice_get xs i ≡ Some x → answer step rules inner (values xs) xs i r g ≡ is_satisfied (λ p. g i p) (λ y p. g y p) c x
  answers g i r c x e k =
      let y = coded_found (numbered inner) rules r c e in
      answer_is step rules inner (values xs) xs i r g y.0 x y.1 k ∙ sym (named (λ q. q) (slice_index inner) (g i) g (asked_of y.0) x) ∙ ap (λ a. is_satisfied (g i) g a x) y.2

  abbrev judge : IsJudge E n xs root (length xs) (length rules) (answer step rules inner (values xs) xs)
  judge = record { all = h.all; are = h.are; asked = asked; numbering = h.numbering; item_count = refl; rule_count = count; found = h.root; answers = answers }

  module _ (I : Rule → Document → Bool) (instance : IsInstance E I) where
    verdict : (i r : ℕ) → i < length xs → r < length h.all → f i r ≡ I (rule_at h.all r) (node_at (values xs) i)
    verdict i r l m =
        only (λ i r. I (rule_at h.all r) (node_at (values xs) i)) (is_judged E n xs root (length xs) (length rules) (answer step rules inner (values xs) xs) judge are whole I instance) i r l (subst (λ k. r < k) (sym count) m)

    root_within : root < length h.all
    root_within = slice_get_within h.all root (definition n) h.root

    no_instance : I (rule_at h.all root) (node_at (values xs) (inside (document_in xs))) ≡ false
    no_instance = sym (verdict (inside (document_in xs)) root within root_within) ∙ refused

    abbrev Whys : Bool → ℕ → Reasons InstanceCause → Rule → Document → Type 0
    Whys full most rs r x =
        (w : AreWhys E I r x h.all (values xs) leads_to (meaning_of h.all xs) (inside (document_in xs)) full most rs)
        × (full ≡ false → AreOfChosen E I h.all xs (meaning_of h.all xs) (inside (document_in xs)) (definition n) w.all)

    at_root : (full : Bool) (most : ℕ) (rs : Reasons InstanceCause) → Whys full most rs (rule_at h.all root) (node_at (values xs) (inside (document_in xs))) → Whys full most rs (definition n) (document_in xs)
    at_root full most rs w = subst (Whys full most rs (definition n)) at (subst (λ r. Whys full most rs r (node_at (values xs) (inside (document_in xs)))) (at_of_some h.all root (definition n) h.root) w)

    all_whys : (most : ℕ) (rs : Reasons InstanceCause) → AreReasons leads_to (IsCauseAt asked xs f) (inside (document_in xs)) root most rs → Whys true most rs (definition n) (document_in xs)
    all_whys most rs t =
        at_root true most rs (whys_of_all E I h.all asked h.numbering xs are f verdict leads_to (meaning_of h.all xs) (IsCauseAt asked xs f) (are_seen h.all asked xs f) (inside (document_in xs)) root within root_within no_instance most rs t, λ e. cc)

    closest_whys : (most : ℕ) (rs : Reasons InstanceCause) (chosen : AllVerdicts) → AreReasons leads_to (IsFollowed leads_to (IsCauseAt asked xs f) is_alternative NoAlternative chosen) (inside (document_in xs)) root most rs → Whys false most rs (definition n) (document_in xs)
    closest_whys most rs chosen t =
        at_root false most rs (
          whys_of_closest E I h.all asked h.numbering xs are f verdict leads_to (meaning_of h.all xs) (IsCauseAt asked xs f) (are_seen h.all asked xs f) (inside (document_in xs)) root within root_within no_instance
              instance is_alternative NoAlternative chosen refl (λ j. refl) (λ j c k. shows_alternative h.all xs j c k) most rs t,
          λ e. subst (AreOfChosen E I h.all xs (meaning_of h.all xs) (inside (document_in xs)) (definition n))
              (same_all E I h.all asked h.numbering xs are f verdict leads_to (meaning_of h.all xs) (IsCauseAt asked xs f) (are_seen h.all asked xs f) (inside (document_in xs)) root within root_within no_instance
              instance is_alternative NoAlternative chosen refl (λ j. refl) (λ j c k. shows_alternative h.all xs j c k) most rs t)
              (of_chosen E I h.all asked h.numbering xs f verdict leads_to (meaning_of h.all xs) (IsCauseAt asked xs f) (are_seen h.all asked xs f) is_alternative NoAlternative chosen refl (λ j. refl)
              (λ j c k. shows_alternative h.all xs j c k) (λ j c k s. shown_by_alternative h.all xs j c k s) (inside (document_in xs)) root most rs t (definition n) h.root),
        )

  -- where all alternatives are followed, and where the closest ones are
  pub explained_all : (most : ℕ) (rs : Reasons InstanceCause) → AreReasons leads_to (IsCauseAt asked xs f) last root most rs → IsExplained E n xs true most rs
  explained_all most rs t = record { rules = h.all; are = h.are; whys = λ I i. all_whys I i most rs (subst (λ j. AreReasons leads_to (IsCauseAt asked xs f) j root most rs) is_last t) }

  pub explained_closest : (most : ℕ) (rs : Reasons InstanceCause) (chosen : AllVerdicts) → AreReasons leads_to (IsFollowed leads_to (IsCauseAt asked xs f) is_alternative NoAlternative chosen) last root most rs
      → IsExplained E n xs false most rs
  explained_closest most rs chosen t =
      record { rules = h.all; are = h.are; whys = λ I i. closest_whys I i most rs chosen (subst (λ j. AreReasons leads_to (IsFollowed leads_to (IsCauseAt asked xs f) is_alternative NoAlternative chosen) j root most rs) is_last t) }

  pub explained : (full : Bool) (most : ℕ) (rs : Reasons InstanceCause) → AreReasonsOf asked xs f full last root most rs → IsExplained E n xs full most rs
  explained true most rs t = explained_all most rs t
  explained false most rs t = explained_closest most rs t.0 t.1
