use Rattle.std.proofs.Common.{◌≡◌, ◌++◌, sym, ap, ◌∙◌, subst}
use Rattle.cs_document.proofs.Views.{view-Text}
use Rattle.cs_document.specs.Document.{text}
use Rattle.cs_document.specs.View.{doc_view}
use Rattle.cs_profile.specs.Keywords.{reference_start}
use Rattle.cs_schema.specs.Reading.{Refuses, is_defined_in}
use Rattle.cs_schema.proofs.Named.{contained, after_start, after_none, no_reference, reference_known, reference_unknown}
use Rattle.cs_schema.proofs.names.check_reference.Goals as goal

pub returns-then-contains_key-clause-accepted : goal.returns-then-contains_key-clause-accepted
returns-then-contains_key-clause-accepted c =
    let es = c.args.definitions.now.entries in
    let t = c.deref.result.now in
    let n = c.in-Some.name.now in
    let is : doc_view c.args.value.now ≡ text t = ap doc_view c.in-Text.is ∙ view-Text c.in-Text.text ∙ ap text (sym c.deref.ensures) in
    let start : t ≡ reference_start ++ n = c.in-Some.ensures.cases.1.1 ∙ ap (λ r. reference_start ++ r) (sym c.in-Some.ensures.cases.2) in
    reference_known (is_defined_in es) (doc_view c.args.value.now) t n is (after_start reference_start n t start) (sym (contained n es) ∙ sym c.contains_key.ensures ∙ c.if-contains_key.true)

pub returns-else-contains_key-clause-refused : goal.returns-else-contains_key-clause-refused
returns-else-contains_key-clause-refused c =
    let es = c.args.definitions.now.entries in
    let t = c.deref.result.now in
    let n = c.in-Some.name.now in
    let is : doc_view c.args.value.now ≡ text t = ap doc_view c.in-Text.is ∙ view-Text c.in-Text.text ∙ ap text (sym c.deref.ensures) in
    let start : t ≡ reference_start ++ n = c.in-Some.ensures.cases.1.1 ∙ ap (λ r. reference_start ++ r) (sym c.in-Some.ensures.cases.2) in
    subst (Refuses c.undefined_reference.result)
    (sym (reference_unknown (is_defined_in es) (doc_view c.args.value.now) t n is (after_start reference_start n t start) (sym (contained n es) ∙ sym c.contains_key.ensures ∙ c.if-contains_key.false)))
    c.undefined_reference.ensures

pub returns-in-None-clause-accepted : goal.returns-in-None-clause-accepted
returns-in-None-clause-accepted c =
    let t = c.deref.result.now in
    let is : doc_view c.args.value.now ≡ text t = ap doc_view c.in-Text.is ∙ view-Text c.in-Text.text ∙ ap text (sym c.deref.ensures) in
    no_reference (is_defined_in c.args.definitions.now.entries) (doc_view c.args.value.now) t is (after_none reference_start t c.in-None.ensures.cases)
