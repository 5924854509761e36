use Rattle.std.proofs.Common.{◌≡◌, map, Some, codes, option_map, sym, ap, ◌∙◌}
use Rattle.cs_document.specs.Document.{document_eq, list, object, member, no_members}
use Rattle.cs_document.specs.View.{documents_of, list_view}
use Rattle.cs_package.specs.View.{expression_of}
use Rattle.cs_profile.specs.SchemaDocument.{schema_view, present, set_slot}
use Rattle.cs_compile.specs.Literals.{literal_view}
use Rattle.cs_compile.specs.Translation.{enumeration, firsts, literals}
use Rattle.cs_compile.proofs.literals.enumeration.Goals as goal

pub returns-in_default : goal.returns-in_default
returns-in_default c = λ ns. ap (option_map enumeration) (sym (ap (option_map (λ v. map literal_view v.items)) c.in_default.is) ∙ c.in_ok-literals.ensures ns)

pub returns : goal.returns
returns c = λ ns.
    let found : Some (map literal_view c.in-Some.literals.items) ≡ literals (map (expression_of ns) c.args.operands.now) =
    sym (ap (option_map (λ v. map literal_view v.items)) c.in-Some.is) ∙ c.in_ok-literals.ensures ns in
    let made : schema_view c.in_ok-schema.schema ≡ enumeration (map literal_view c.in-Some.literals.items) =
    c.in_ok-schema.ensures
    ∙ ap (λ ss. object (present ss)) (c.set.ensures ∙ ap (set_slot (codes "enum") (Some (list (list_view c.in_ok-firsts.field-0.items)))) c.untyped.ensures)
    ∙ ap (λ vs. object (member (codes "enum") (list (documents_of vs)) no_members)) (c.in_ok-firsts.ensures ∙ ap (λ xs. firsts document_eq (map literal_view xs)) c.deref.ensures.value) in
    ap Some made ∙ ap (option_map enumeration) found
