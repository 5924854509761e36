use Rattle.std.proofs.Common.{◌≡◌, suc, ◌+◌, ◌≤◌, refl, sym, ap, ◌∙◌, subst}
use Rattle.std.proofs.lemmas.Result.{IfOk-weaker}
use Rattle.cs_document.specs.Document.{Document, depth}
use Rattle.cs_document.specs.View.{doc_view}
use Rattle.cs_profile.specs.Profile.{IsSchema}
use Rattle.cs_profile.specs.declared.keyword.Vocabulary.{Vocabulary}
use Rattle.cs_describe.specs.Described.{described_document, most_nested}
use Rattle.cs_describe.specs.declared.note.Note.TheVariants as note
use Rattle.cs_describe.specs.Meaning.{SameValidity, SameDefinitions}
use Rattle.cs_describe.specs.Plain.{plain, is_note, is_default, without_defaults}
use Rattle.cs_describe.proofs.Leaving.{notes_are_notes}
use Rattle.cs_describe.proofs.Nested.{defaults_nested}
use Rattle.cs_describe.proofs.PlainLaw.{same_validity, same_definitions}
use Rattle.cs_describe.proofs.StillBare.{still_bare}
use Rattle.cs_describe.proofs.Unchanged.{document_same}
use Rattle.cs_describe.proofs.describe.with_defaults.Goals as goal

pub returns-clause-same : goal.returns-clause-same
returns-clause-same c =
    let ns = c.args.notes.now.entries in
    let doc = doc_view c.args.doc in
    IfOk-weaker c.described_by.result (λ d. doc_view d ≡ described_document note.Default ns doc) (λ d. plain (doc_view d) ≡ plain doc)
    (λ d is. ap plain is ∙ document_same is_note note.Default refl ns doc) c.described_by.ensures

pub returns-clause-others : goal.returns-clause-others
returns-clause-others c =
    let ns = c.args.notes.now.entries in
    let doc = doc_view c.args.doc in
    IfOk-weaker c.described_by.result (λ d. doc_view d ≡ described_document note.Default ns doc) (λ d. without_defaults (doc_view d) ≡ without_defaults doc)
    (λ d is. ap without_defaults is ∙ document_same is_default note.Default refl ns doc) c.described_by.ensures

pub returns-clause-profile : goal.returns-clause-profile
returns-clause-profile c =
    let ns = c.args.notes.now.entries in
    let doc = doc_view c.args.doc in
    IfOk-weaker c.described_by.result (λ d. doc_view d ≡ described_document note.Default ns doc) (λ d. (taken : Vocabulary) → IsSchema taken doc → IsSchema taken (without_defaults (doc_view d)))
    (λ d is taken h. subst (IsSchema taken) (sym (ap without_defaults is ∙ document_same is_default note.Default refl ns doc)) (still_bare taken doc h)) c.described_by.ensures

pub returns-clause-meaning : goal.returns-clause-meaning
returns-clause-meaning c =
    let ns = c.args.notes.now.entries in
    let doc = doc_view c.args.doc in
    IfOk-weaker c.described_by.result (λ d. doc_view d ≡ described_document note.Default ns doc) (λ d. (taken : Vocabulary) → IsSchema taken doc → SameValidity doc (doc_view d))
    (λ d is taken h. same_validity is_note notes_are_notes doc (doc_view d) h.no_loop (ap plain is ∙ document_same is_note note.Default refl ns doc)) c.described_by.ensures

pub returns-clause-definitions : goal.returns-clause-definitions
returns-clause-definitions c =
    let ns = c.args.notes.now.entries in
    let doc = doc_view c.args.doc in
    IfOk-weaker c.described_by.result (λ d. doc_view d ≡ described_document note.Default ns doc) (λ d. (taken : Vocabulary) → IsSchema taken doc → SameDefinitions doc (doc_view d))
    (λ d is taken h. same_definitions is_note notes_are_notes doc (doc_view d) h.no_loop (ap plain is ∙ document_same is_note note.Default refl ns doc)) c.described_by.ensures

pub returns-clause-nested : goal.returns-clause-nested
returns-clause-nested c =
    let ns = c.args.notes.now.entries in
    let doc = doc_view c.args.doc in
    IfOk-weaker c.described_by.result (λ d. doc_view d ≡ described_document note.Default ns doc) (λ d. depth (doc_view d) ≤ suc most_nested + depth doc)
    (λ d is. subst (λ (e : Document). depth e ≤ suc most_nested + depth doc) (sym is) (defaults_nested ns doc)) c.described_by.ensures
