-- What is a schema where the keywords of some vocabulary are taken is one where all are.
use Rattle.std.proofs.Common.{◌≡◌, true, List, [], ◌∷◌, Option, Some, None, refl, ap, ◌∙◌}
use Rattle.cs_document.specs.Document.{Document}
use Rattle.cs_profile.specs.declared.keyword.Vocabulary.{Vocabulary}
use Rattle.cs_profile.specs.declared.keyword.Vocabulary.TheVariants as vocabulary
use Rattle.cs_profile.specs.declared.keyword.Form.{Form}
use Rattle.cs_profile.specs.Shapes.{taken_at}
use Rattle.cs_profile.specs.Profile.{Visit, value_at, keyword_at, first, fault_of, form_fault, visits, walk_fault, IsSchema}
use Rattle.cs_profile.proofs.Faultless.{or_else_none}
use Rattle.cs_profile.proofs.Taken.{taken_form, wide_form}

module _ (taken : Vocabulary) where
  wide_visit : (v : Visit) → fault_of taken v ≡ None → fault_of vocabulary.Wide v ≡ None
  wide_visit (value_at place d) h = h
  wide_visit (keyword_at root place k v) h = by (taken_at taken root k) refl h
    where
      by : (o : Option Form) → taken_at taken root k ≡ o → form_fault place k v o ≡ None → form_fault place k v (taken_at vocabulary.Wide root k) ≡ None
      by None e h = cc
      by (Some f) e h = ap (form_fault place k v) (wide_form root k ∙ taken_form taken root k f e) ∙ h

  wide_visits : (vs : List Visit) → first (fault_of taken) vs ≡ None → first (fault_of vocabulary.Wide) vs ≡ None
  wide_visits [] h = refl
  wide_visits (v ∷ vs) h =
      let parts = or_else_none (fault_of taken v) (first (fault_of taken) vs) h in
      rw (wide_visit v parts.0) (wide_visits vs parts.1)

  pub wide_fault : (d : Document) → walk_fault taken d ≡ None → walk_fault vocabulary.Wide d ≡ None
  wide_fault d h = wide_visits (visits true [] d) h

  pub wide_schema : (d : Document) → IsSchema taken d → IsSchema vocabulary.Wide d
  wide_schema d is = record { shaped = wide_fault d is.shaped; named = is.named; no_loop = is.no_loop }
