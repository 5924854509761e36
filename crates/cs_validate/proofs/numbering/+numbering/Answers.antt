use Rattle.std.proofs.Common.{◌≡◌, ◌+◌, [], ◌∷◌, ◌++◌, option_map, take, take_all, sym, ap, ◌∙◌, subst}
use Rattle.std.specs.Prelude.{option_to_list, IfOk}
use Rattle.std.proofs.lemmas.List.{map-append}
use Rattle.cs_document.proofs.Maps.{take_at}
use Rattle.cs_profile.specs.SchemaDocument.{schema_view, schemas_view}
use Rattle.cs_profile.proofs.Views.{view-Always}
use Rattle.cs_validate.specs.Placing.{Places, PlacesAll}
use Rattle.cs_validate.proofs.Placed.{truth_placed}
use Rattle.cs_validate.proofs.Joined.{places_one, places_then}
use Rattle.cs_validate.proofs.numbering.+numbering.Goals as goal

pub place-returns-in-Always : goal.place-returns-in-Always
place-returns-in-Always t c =
    let numbers = c.args.numbers.now in
    let old = c.args.numberer.now in
    let new = c.put.new.self in
    let b = c.in-Always.b in
    subst (λ s. IfOk c.put.result (Places numbers old new s)) (sym (ap schema_view c.in-Always.is ∙ view-Always b)) (truth_placed c.put.result numbers old new b c.put.ensures.number c.put.ensures.pending)

pub place_all-loop-schema-preserved : goal.place_all-loop-schema-preserved
place_all-loop-schema-preserved t c =
    let l = c.loop-schema in
    let xs = c.args.schemas.now in
    let x = c.schema-item.result in
    let numbers = c.args.numbers.now in
    let first = c.args.numberer.now in
    let done = take l.schema-index xs in
    let new = c.place.new.numberer in
    let part = c.in_ok-part.part in
    let all : schemas_view (take (l.schema-index + 1) xs) ≡ schemas_view done ++ schema_view x ∷ [] = ap schemas_view (take_at xs l.schema-index x c.loop-schema-test.true c.schema-item.is) ∙ map-append schema_view done (x ∷ []) in
    let one = places_one numbers l.numberer new (schema_view x) part c.in_ok-part.ensures in
    let next = places_then numbers first l.numberer new (schemas_view done) (schema_view x ∷ []) l.parts.items (part ∷ []) l.invariant one in
    subst (λ ks. PlacesAll numbers first new (schemas_view (take (l.schema-index + 1) xs)) ks) (sym c.in_ok-push.ensures.items)
    (subst (λ ss. PlacesAll numbers first new ss (l.parts.items ++ part ∷ [])) (sym all) next)

pub place_all-returns : goal.place_all-returns
place_all-returns t c =
    let l = c.loop-schema in
    subst (λ xs. PlacesAll c.args.numbers.now c.args.numberer.now l.numberer (schemas_view xs) l.parts.items) (take_all l.schema-index c.args.schemas.now c.loop-schema-test.false) l.invariant

pub place_option-returns-in_ok-place-in-Some : goal.place_option-returns-in_ok-place-in-Some
place_option-returns-in_ok-place-in-Some t c =
    let numbers = c.args.numbers.now in
    let old = c.args.numberer.now in
    let new = c.place.new.numberer in
    let k = c.in_ok-place-in-Some.field-0 in
    subst (λ o. PlacesAll numbers old new (option_to_list (option_map schema_view o)) (k ∷ [])) (sym c.in-Some.is)
    (places_one numbers old new (schema_view c.in-Some.schema) k c.in_ok-place-in-Some.ensures)

pub place_object-returns : goal.place_object-returns
place_object-returns t c =
    let numbers = c.args.numbers.now in
    let n0 = c.args.numberer.now in
    let n1 = c.place_all.new.numberer in
    let n2 = c.place_all-2.new.numberer in
    c.put_object.ensures n0 n1 n2
    (subst (λ xs. PlacesAll numbers n0 n1 (schemas_view xs) c.in_ok-all_of.all_of.items) c.deref.ensures.value c.in_ok-all_of.ensures)
    (subst (λ xs. PlacesAll numbers n1 n2 (schemas_view xs) c.in_ok-any_of.any_of.items) c.deref-2.ensures.value c.in_ok-any_of.ensures)
    c.in_ok-negated.ensures
