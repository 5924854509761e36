use Rattle.std.proofs.Common.{◌≡◌, [], ◌∷◌, ◌++◌, subst, rules}
use Rattle.std.specs.BTreeMap.Entry.{map_with_value}
use Rattle.cs_profile.specs.SchemaDocument.{schema_view, schemas_view}
use Rattle.cs_compile.specs.Grouped.{declared, Groups, group, IsGrouped}
use Rattle.cs_compile.proofs.Grouped.{one_more}
use Rattle.cs_compile.proofs.Parts.{group-push}
use Rattle.cs_compile.proofs.fields.add_labelled.Goals as goal

moved : (P : Groups → Type 0) (g n : Groups) → g ≡ n → P g → P n
moved P g n same h = subst P same h

pub returns : goal.returns
returns c = λ ds m h.
    let g = c.args.groups.now in
    let k = c.in_ok-label.label in
    let e = c.in_ok-groups.ensures in
    let w = c.push.new.self in
    let s = schema_view c.args.value in
    let grown : schemas_view w.items ≡ group g k ++ s ∷ [] = group-push g k _ c.new.result c.or_insert.result.now w c.args.value e.value c.new.ensures.items c.or_insert.ensures.value c.in_ok-push.ensures.items in
    let made = one_more ds g (map_with_value c.in_ok-groups.field-0 w) k w m s (e.update.2 w) (e.update.0 w) (e.update.1 w) grown h in
    moved (IsGrouped (ds ++ declared c.args.label.now m s ∷ [])) (map_with_value c.in_ok-groups.field-0 w) _ (search rules) (subst (λ l. IsGrouped (ds ++ declared l m s ∷ []) (map_with_value c.in_ok-groups.field-0 w)) c.in_ok-label.ensures.ok made)
