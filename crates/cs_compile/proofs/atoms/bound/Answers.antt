use Rattle.std.specs.Prelude.{codes}
use Rattle.std.proofs.Common.{◌≡◌, w64, ap, ap₂, ◌∙◌, rules}
use mir.Val.{to_z, of_z}
use Rattle.cs_document.specs.Document.{integer, member}
use Rattle.cs_package.specs.View.{relation_of}
use Rattle.cs_profile.specs.SchemaDocument.{set_slot, slots_of, value_at}
use Rattle.cs_profile.specs.declared.schema.KeywordValue.TheVariants as value
use Rattle.cs_compile.specs.Slots.{typed}
use Rattle.cs_compile.specs.Translation.{limit_name, of_type}
use Rattle.cs_compile.proofs.Slots.{limit_first, made_of}
use Rattle.cs_compile.proofs.atoms.bound.Goals as goal

pub returns : goal.returns
returns c =
    let relation = relation_of c.args.relation in
    let back : to_z w64 (of_z w64 c.args.limit) ≡ c.args.limit = search rules in
    made_of c.object.result c.typed.result c.set.result (typed (codes "number")) (limit_name relation) _ _ c.typed.ensures
    (c.set.ensures ∙ ap₂ (λ n f. set_slot n (value_at f (value.Integer (to_z w64 (of_z w64 c.args.limit)))) (slots_of c.typed.result)) c.limit_keyword.ensures.name c.limit_keyword.ensures.form)
    (limit_first relation _ ∙ ap (λ z. member (limit_name relation) (integer z) (of_type (codes "number"))) back) c.object.ensures
