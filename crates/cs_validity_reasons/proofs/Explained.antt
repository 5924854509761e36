-- What is told over a table of verdicts tells why the document isn't valid.
use Rattle.std.proofs.Common.{◌≡◌, ◌⊎◌, inl, inr, ℕ, ◌<◌, Bool, true, false, List, Option, Some, None, length, refl, sym, subst}
use Rattle.cs_document.specs.Document.{Document}
use Rattle.cs_document.specs.Opened.{Opened}
use Rattle.cs_flat.specs.Nodes.{nodes, node_at}
use Rattle.cs_flat.specs.Items.{AreItems}
use Rattle.cs_flat.specs.Listed.{values, document_in, IsListed}
use Rattle.cs_reasons.specs.Reasons as reason
use Rattle.cs_reasons.specs.Reasons.{IsFollowed}
use Rattle.cs_reasons.specs.declared.reasons.Link.{Link}
use Rattle.cs_reasons.specs.declared.reasons.Up.{Up}
use Rattle.cs_reasons.specs.declared.reasons.Reason.{Reason}
use Rattle.cs_reasons.specs.declared.reasons.Reasons.{Reasons}
use Rattle.cs_reasons.specs.declared.telling.Telling.{Telling}
use Rattle.cs_rules.specs.Answers.{answer}
use Rattle.cs_table.specs.Judged.{AllVerdicts, IsJudged}
use Rattle.cs_profile.specs.Profile.{walk_fault}
use Rattle.cs_profile.specs.declared.keyword.Vocabulary.TheVariants as vocabulary
use Rattle.cs_profile.specs.Validity.{IsValidity}
use Rattle.cs_validity_reasons.specs.Led.{PlacedCause, leads_to, is_alternative}
use Rattle.cs_validity_reasons.specs.PlacedCauses.{IsPlacedCause}
use Rattle.cs_validity_reasons.specs.PlacedTold.{IsNamed, AreReasonsOf}
use Rattle.cs_validity_reasons.specs.Renamed.{IsUpRenamed, IsLinkRenamed, IsReasonRenamed, AreRenamed}
use Rattle.cs_validate.specs.Rooted.{IsRooted}
use Rattle.cs_validate.specs.Steps.{step}
use Rattle.cs_validity_reasons.specs.WhyTold.{ValidCause, IsToldWhy}
use Rattle.cs_validity_reasons.specs.declared.cause.KeyedCause.TheVariants.{NoAlternative}
use Rattle.cs_validate.specs.declared.rules.Rule.{Rule as Coded}
use Rattle.cs_validity_reasons.proofs.PlacedNamed.{named, are_named, only_none, alternatives, shown_alternative, follows_all, follows_closest}
use Rattle.cs_validity_reasons.proofs.PlacedOnce.{placed_distinct}
use Rattle.cs_validity_reasons.proofs.Settings.{told_why}
use Rattle.cs_validity_reasons.proofs.Tells.{AreFollowed, AreDistinct, closest_distinct, says, zip_map}

-- ---- reasons in another form, where more is said of the form

module _ {C D : Type 0} (P Q : ℕ × ℕ → C → D → Type 0) (more : (p : ℕ × ℕ) (c : C) (d : D) → P p c d → Q p c d) (links : List (Link C)) where
  up_renamed : (u : Option (Up C)) (v : Option (Up D)) → IsUpRenamed P links u v → IsUpRenamed Q links u v
  up_renamed None None h = tt
  up_renamed None (Some v) h = absurd h
  up_renamed (Some u) None h = absurd h
  up_renamed (Some u) (Some v) h = (h.0, more _ u.cause v.cause h.1)

  link_renamed : (l : Link C) (m : Link D) → IsLinkRenamed P links l m → IsLinkRenamed Q links l m
  link_renamed l m h = record { item = h.item; rule = h.rule; up = up_renamed l.up m.up h.up; as_close = h.as_close }

  reason_renamed : (t : Reason C) (u : Reason D) → IsReasonRenamed P links t u → IsReasonRenamed Q links t u
  reason_renamed t u h = record { link = h.link; cause = more _ t.cause u.cause h.cause }

renamed : {C D : Type 0} (P Q : ℕ × ℕ → C → D → Type 0) → ((p : ℕ × ℕ) (c : C) (d : D) → P p c d → Q p c d) → (rs : Reasons C) (ss : Reasons D) → AreRenamed P rs ss → AreRenamed Q rs ss
renamed P Q more rs ss h = record {
  links = zip_map (IsLinkRenamed P rs.links.items) (IsLinkRenamed Q rs.links.items) (link_renamed P Q more rs.links.items) rs.links.items ss.links.items h.links;
  told = zip_map (IsReasonRenamed P rs.links.items) (IsReasonRenamed Q rs.links.items) (reason_renamed P Q more rs.links.items) rs.told.items ss.told.items h.told;
  count = h.count;
}

-- ---- tables

-- f gives what every table does that the judge of these rules and values fills
abbrev pub IsTableOf : List (Opened ℕ) → List Coded → List ℕ → AllVerdicts → Type 0
IsTableOf xs rules inner f =
    (g : AllVerdicts) → IsJudged (length xs) (length rules) (answer step rules inner (values xs) xs) g → (i r : ℕ) → i < length xs → r < length rules → f i r ≡ g i r

-- the same, where a judge has these rules and values
pub table_over : (f : AllVerdicts) (ys xs : List (Opened ℕ)) (rules' rules : List Coded) (inner' inner : List ℕ) → ys ≡ xs → rules' ≡ rules → inner' ≡ inner → IsTableOf ys rules' inner' f → IsTableOf xs rules inner f
table_over f ys xs rules' rules inner' inner a b d h =
    subst (λ zs. IsTableOf zs rules inner f) a (subst (λ rs. IsTableOf ys rs inner f) b (subst (λ is. IsTableOf ys rules' is f) d h))

-- ---- the root's refusal of the document

module _ (R : Document) (xs : List (Opened ℕ)) (root : ℕ) (rules : List Coded) (inner : List ℕ) (rooted : IsRooted R rules inner root) (are : AreItems (values xs) xs) (many : length xs ≡ length (nodes (document_in xs)))
    (listed : IsListed (document_in xs) xs) (shaped : walk_fault vocabulary.Wide R ≡ None) (f : AllVerdicts) (only : IsTableOf xs rules inner f) (last : ℕ) (within : last < length xs) (is_last : node_at (values xs) last ≡ document_in xs) (denied : f last root ≡ false)
    (telling : Telling) (rs : Reasons PlacedCause) (ss : Reasons ValidCause) (same : AreRenamed (IsNamed xs rules inner) rs ss) (V : Document → Document → Bool) (h : IsValidity R V) where
  abbrev is_cause : ℕ → ℕ → PlacedCause → Type 0
  is_cause = IsPlacedCause f xs rules inner

  abbrev Closest : AllVerdicts → ℕ → ℕ → PlacedCause → Type 0
  Closest chosen = IsFollowed leads_to is_cause is_alternative NoAlternative chosen

  cause_or_none : (chosen : AllVerdicts) (j q : ℕ) (c : PlacedCause) → Closest chosen j q c → is_cause j q c ⊎ (c ≡ NoAlternative)
  cause_or_none chosen j q c (reason.other a b) = inl a
  cause_or_none chosen j q c (reason.alternative a b m k) = inl a
  cause_or_none chosen j q c (reason.unchosen a b k) = inr refl

  distinct : AreDistinct is_cause (named f xs rules inner)
  distinct = placed_distinct R xs root rules inner rooted shaped listed f

  by_telling : (b : Bool) → telling.all ≡ b → AreReasonsOf xs rules inner f b last root telling.most rs → IsToldWhy R V xs telling ss
  by_telling true e reasons =
      told_why R xs root rules inner rooted are many listed.document f only last within is_last denied leads_to is_cause is_cause (named f xs rules inner) (are_named f xs rules inner) telling (follows_all f xs rules inner telling.all) rs reasons ss
      (renamed (IsNamed xs rules inner) (says is_cause (named f xs rules inner)) (λ p c d n a. n f (inl a)) rs ss same) distinct V h
  by_telling false e reasons =
      told_why R xs root rules inner rooted are many listed.document f only last within is_last denied leads_to is_cause (Closest reasons.0) (named f xs rules inner) (are_named f xs rules inner) telling
      (subst (AreFollowed leads_to is_cause (Closest reasons.0) (named f xs rules inner)) (sym e) (follows_closest f xs rules inner reasons.0)) rs reasons.1 ss
      (renamed (IsNamed xs rules inner) (says (Closest reasons.0) (named f xs rules inner)) (λ p c d n a. n f (cause_or_none reasons.0 p.0 p.1 c a)) rs ss same)
      (closest_distinct leads_to is_cause (named f xs rules inner) is_alternative NoAlternative reasons.0 refl (λ p. refl) (only_none f xs rules inner) (alternatives f xs rules inner)
      (shown_alternative f xs rules inner) (are_named f xs rules inner).leads distinct) V h

  pub explained : AreReasonsOf xs rules inner f telling.all last root telling.most rs → IsToldWhy R V xs telling ss
  explained reasons = by_telling telling.all refl reasons
