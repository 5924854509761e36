use Rattle.std.proofs.Common.{◌≡◌, [], ◌∷◌, ◌++◌, String, Vec, Global, string_cmp, refl, sym, ap, ◌∙◌, subst, append_assoc}
use Rattle.std.specs.List.Sorted.{IsStrictlySortedBy}
use Rattle.std.specs.Map.{keys_of}
use Rattle.cs_document.specs.View.{members_of}
use Rattle.cs_document.proofs.Entries.{entries-push}
use Rattle.cs_document.proofs.Maps.{texts, insert_last, texts_more}
use Rattle.cs_profile.specs.SchemaDocument.{schema_view, schemas_view, definitions_view}
use Rattle.cs_profile.specs.declared.schema.Schema.{Schema}
use Rattle.cs_compile.specs.Translation.{one_or_all}
use Rattle.cs_compile.proofs.fields.properties.Goals as goal

pub loop-label-preserved : goal.loop-label-preserved
loop-label-preserved c =
    let l = c.loop-label in
    let done = l.invariant.done in
    let e : String Global × Vec Schema Global = (c.in-Some.label, c.in-Some.values) in
    let left = c.next.new.self in
    let v = c.in_ok-schema.schema in
    let all : c.args.groups.entries ≡ done ++ e ∷ left = l.invariant.all ∙ ap (λ es. done ++ es) c.in-Some.ensures.steps in
    let sorted = subst (λ es. IsStrictlySortedBy string_cmp (keys_of es)) all c.into_iter-label-iterator.ensures.into_iter_gives.5 in
    let grown : c.insert.new.self.entries ≡ l.properties.entries ++ (e.0, v) ∷ [] = c.in_ok-insert.ensures.entries ∙ insert_last l.properties.entries done e left e.0 v l.invariant.same refl sorted in record {
      done = done ++ e ∷ [];
      all = all ∙ sym (append_assoc done (e ∷ []) left);
      same = ap texts grown ∙ texts_more l.properties.entries done e e.0 v l.invariant.same refl;
      values = ap (λ es. members_of (definitions_view es)) grown ∙ entries-push schema_view (λ (w : Vec Schema Global). one_or_all (schemas_view w.items)) l.properties.entries done e.0 v e l.invariant.values refl c.in_ok-schema.ensures;
    }
