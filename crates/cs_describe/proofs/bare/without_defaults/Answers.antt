use Rattle.std.proofs.Common.{◌≤◌, sym, ap, ◌∙◌, subst}
use Rattle.cs_document.specs.Document.{Document, object, depth}
use Rattle.cs_document.specs.View.{doc_view}
use Rattle.cs_document.proofs.Views.{view-Object}
use Rattle.cs_profile.specs.Profile.{IsSchema}
use Rattle.cs_describe.specs.Meaning.{SameValidity}
use Rattle.cs_describe.specs.Plain.{is_default, without_defaults}
use Rattle.cs_describe.proofs.Leaving.{defaults_are_notes}
use Rattle.cs_describe.proofs.Nested.{document_less}
use Rattle.cs_describe.proofs.PlainLaw.{keeps_meaning}
use Rattle.cs_describe.proofs.PlainLoops.{no_loop_full}
use Rattle.cs_describe.proofs.StillBare.{still_bare}
use Rattle.cs_describe.proofs.bare.without_defaults.Goals as goal

pub returns-clause-found : goal.returns-clause-found
returns-clause-found c =
    view-Object c.in_ok-bare_members.field-0 ∙ ap object c.in_ok-bare_members.ensures
    ∙ sym (ap (λ d. without_defaults (doc_view d)) c.in-Object.is ∙ ap without_defaults (view-Object c.in-Object.members))

pub returns-clause-profile : goal.returns-clause-profile
returns-clause-profile c taken is = subst (IsSchema taken) (sym (returns-clause-found c)) (still_bare taken (doc_view c.args.doc) is)

pub returns-clause-meaning : goal.returns-clause-meaning
returns-clause-meaning c taken is =
    let found = returns-clause-found c in
    let none = no_loop_full is_default defaults_are_notes (doc_view c.args.doc) (subst (IsSchema taken) found is).no_loop in
    subst (SameValidity (doc_view c.args.doc)) (sym found) (keeps_meaning is_default defaults_are_notes (doc_view c.args.doc) none)

pub returns-clause-nested : goal.returns-clause-nested
returns-clause-nested c =
    subst (λ (d : Document). depth d ≤ depth (doc_view c.args.doc)) (sym (returns-clause-found c)) (document_less is_default (doc_view c.args.doc))
