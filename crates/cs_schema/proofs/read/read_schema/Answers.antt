use Rattle.std.proofs.Common.{◌≡◌, sym, ap, ◌∙◌, subst, refl, rules}
use Rattle.std.proofs.lemmas.Result.{IfErr-weaker, on_ok_weaker}
use Rattle.cs_document.specs.Document.{boolean, object}
use Rattle.cs_document.specs.View.{doc_view, object_view}
use Rattle.cs_document.proofs.Views.{view-Bool, view-Object}
use Rattle.cs_profile.specs.Loops.{NoLoop}
use Rattle.cs_profile.specs.Profile.{walk_fault, IsSchema}
use Rattle.cs_profile.specs.Refusal.{IsRefusal}
use Rattle.cs_profile.specs.SchemaDocument.{SchemaValue, document_of}
use Rattle.cs_profile.specs.Validity.{OneMeaning}
use Rattle.cs_profile.specs.declared.schema.Schema.{Always, Object}
use Rattle.cs_profile.proofs.Meanings as meanings
use Rattle.cs_profile.proofs.Referring.{no_loop_trimmed}
use Rattle.cs_profile.proofs.TrimLaw.{keeps_validity}
use Rattle.cs_schema.specs.Reading.{Refuses}
use Rattle.cs_schema.proofs.Reader.{WasRead, was_read, names_are, refused_by_walk, refused_by_name, only_memory, truth_is, bare_object, well_formed, unlooped, looped}
use Rattle.cs_schema.proofs.read.read_schema.Goals as goal

pub returns-in_err-keywords-in-Object-clause-refused : goal.returns-in_err-keywords-in-Object-clause-refused
returns-in_err-keywords-in-Object-clause-refused c =
    let e = c.in_err-keywords-in-Object.field-0.0 in
    let is : doc_view c.args.doc.now ≡ object (object_view c.in-Object.members.entries) = ap doc_view c.in-Object.is ∙ view-Object c.in-Object.members in
    let whole = refused_by_walk c.args.vocabulary e (doc_view c.args.doc.now) (subst (λ d. Refuses e (walk_fault c.args.vocabulary d)) (sym is) c.in_err-keywords-in-Object.ensures) in
    search rules

pub returns-in_err-check_members-in-Object-clause-refused : goal.returns-in_err-check_members-in-Object-clause-refused
returns-in_err-check_members-in-Object-clause-refused c =
    let e = c.in_err-check_members-in-Object.field-0.0 in
    let ms = object_view c.in-Object.members.entries in
    let p = c.in_ok-keywords-in-Object.field-0 in
    let is : doc_view c.args.doc.now ≡ object ms = ap doc_view c.in-Object.is ∙ view-Object c.in-Object.members in
    let mine = subst (Refuses e) (names_are ms p c.in_ok-keywords-in-Object.ensures.1.found) c.in_err-check_members-in-Object.ensures.refused in
    let whole : IsRefusal c.args.vocabulary e (doc_view c.args.doc.now) = subst (IsRefusal c.args.vocabulary e) (sym is) (refused_by_name c.args.vocabulary e (object ms) c.in_ok-keywords-in-Object.ensures.0 mine) in
    search rules

pub returns-in_err-check_members-in-Object-clause-only : goal.returns-in_err-check_members-in-Object-clause-only
returns-in_err-check_members-in-Object-clause-only c = λ s.
    let e = c.in_err-check_members-in-Object.field-0.0 in
    let ms = object_view c.in-Object.members.entries in
    let p = c.in_ok-keywords-in-Object.field-0 in
    let is : doc_view c.args.doc.now ≡ object ms = ap doc_view c.in-Object.is ∙ view-Object c.in-Object.members in
    let mine = subst (Refuses e) (names_are ms p c.in_ok-keywords-in-Object.ensures.1.found) c.in_err-check_members-in-Object.ensures.refused in
    let whole = only_memory c.args.vocabulary e (object ms) (subst (IsSchema c.args.vocabulary) is s) (refused_by_name c.args.vocabulary e (object ms) c.in_ok-keywords-in-Object.ensures.0 mine) in
    search rules

abbrev read_root : goal.After-checked-in-Object → SchemaValue
read_root c = record { root = Object c.in_ok-new-in-Object.field-0; definitions = c.in_ok-keywords-in-Object.field-0.definitions.entries }

read : (c : goal.After-checked-in-Object) → WasRead c.args.vocabulary (doc_view c.args.doc.now) (read_root c)
read c =
    was_read c.args.vocabulary (doc_view c.args.doc.now) (object_view c.in-Object.members.entries) c.in_ok-keywords-in-Object.field-0 c.in_ok-new-in-Object.field-0 (ap doc_view c.in-Object.is ∙ view-Object c.in-Object.members)
    c.in_ok-new-in-Object.ensures.ok c.in_ok-keywords-in-Object.ensures.0 c.in_ok-keywords-in-Object.ensures.1.found c.in_ok-check_members-in-Object.ensures.accepted

pub checked-requires-in-Object : goal.checked-requires-in-Object
checked-requires-in-Object c =
    let ms = object_view c.in-Object.members.entries in
    let p = c.in_ok-keywords-in-Object.field-0 in
    let k = c.in_ok-new-in-Object.field-0 in
    well_formed c.args.vocabulary (object ms) (record { root = Object k; definitions = p.definitions.entries })
    (was_read c.args.vocabulary (object ms) ms p k refl c.in_ok-new-in-Object.ensures.ok c.in_ok-keywords-in-Object.ensures.0 c.in_ok-keywords-in-Object.ensures.1.found c.in_ok-check_members-in-Object.ensures.accepted)
    (bare_object k p.definitions.entries)

pub returns-in-Bool-clause-one_meaning : goal.returns-in-Bool-clause-one_meaning
returns-in-Bool-clause-one_meaning c =
    let b = c.in-Bool.b in
    let is : doc_view c.args.doc.now ≡ boolean b = ap doc_view c.in-Bool.is ∙ view-Bool b in
    let v : SchemaValue = record { root = Always b; definitions = c.new.result.entries } in
    let whole : WasRead c.args.vocabulary (boolean b) v = record {
      trimmed = truth_is b c.new.result.entries c.new.ensures.empty;
      shaped = refl;
      named = refl;
    } in
    on_ok_weaker c.checked.result (λ (n : NoLoop (document_of v)). subst OneMeaning (sym is) (meanings.one_meaning (boolean b) (unlooped c.args.vocabulary (boolean b) v whole n))) c.checked.ensures.acyclic

pub returns-in_ok-new-in-Object-clause-accepted : goal.returns-in_ok-new-in-Object-clause-accepted
returns-in_ok-new-in-Object-clause-accepted c =
    let d = doc_view c.args.doc.now in
    on_ok_weaker c.checked-in-Object.result (λ (n : NoLoop (document_of (read_root c))). let schema : IsSchema c.args.vocabulary d = record {
      shaped = (read c).shaped;
      named = (read c).named;
      no_loop = unlooped c.args.vocabulary d (read_root c) (read c) n;
    } in schema) c.checked-in-Object.ensures.acyclic

pub returns-in_ok-new-in-Object-clause-refused : goal.returns-in_ok-new-in-Object-clause-refused
returns-in_ok-new-in-Object-clause-refused c =
    IfErr-weaker c.checked-in-Object.result _ _ (λ e h. looped c.args.vocabulary e (doc_view c.args.doc.now) (read_root c) (read c) h) c.checked-in-Object.ensures.refused

pub returns-in_ok-new-in-Object-clause-only : goal.returns-in_ok-new-in-Object-clause-only
returns-in_ok-new-in-Object-clause-only c = λ s. c.checked-in-Object.ensures.only (subst NoLoop (sym (read c).trimmed) (no_loop_trimmed (doc_view c.args.doc.now) s.no_loop))

pub returns-in_ok-new-in-Object-clause-one_meaning : goal.returns-in_ok-new-in-Object-clause-one_meaning
returns-in_ok-new-in-Object-clause-one_meaning c =
    let d = doc_view c.args.doc.now in
    on_ok_weaker c.checked-in-Object.result (λ (n : NoLoop (document_of (read_root c))). meanings.one_meaning d (unlooped c.args.vocabulary d (read_root c) (read c) n)) c.checked-in-Object.ensures.acyclic

pub returns-in_ok-new-in-Object-clause-meaning : goal.returns-in_ok-new-in-Object-clause-meaning
returns-in_ok-new-in-Object-clause-meaning c =
    let d = doc_view c.args.doc.now in
    on_ok_weaker c.checked-in-Object.result (λ (n : NoLoop (document_of (read_root c))). keeps_validity d (unlooped c.args.vocabulary d (read_root c) (read c) n)) c.checked-in-Object.ensures.acyclic
