use Rattle.std.proofs.Common.{refl}
use Rattle.cs_profile.specs.declared.keyword.Keyword.TheVariants as keyword
use Rattle.cs_profile.proofs.Slots.{is_set}
use Rattle.cs_profile.proofs.schema.Keywords.set.Goals as goal

-- each keyword's slot is the one that its field stands for
pub returns-in-Ref : goal.returns-in-Ref
returns-in-Ref c = is_set keyword.Ref c.args.keyword c.in-Ref.is c.args.self _ c.args.value _ c.reference.ensures refl

pub returns-in-AdditionalProperties : goal.returns-in-AdditionalProperties
returns-in-AdditionalProperties c = is_set keyword.AdditionalProperties c.args.keyword c.in-AdditionalProperties.is c.args.self _ c.args.value _ c.schema.ensures refl

pub returns-in-AllOf : goal.returns-in-AllOf
returns-in-AllOf c = is_set keyword.AllOf c.args.keyword c.in-AllOf.is c.args.self _ c.args.value _ c.schemas.ensures refl

pub returns-in-AnyOf : goal.returns-in-AnyOf
returns-in-AnyOf c = is_set keyword.AnyOf c.args.keyword c.in-AnyOf.is c.args.self _ c.args.value _ c.schemas-in-AnyOf.ensures refl

pub returns-in-Const : goal.returns-in-Const
returns-in-Const c = is_set keyword.Const c.args.keyword c.in-Const.is c.args.self _ c.args.value _ c.anything.ensures refl

pub returns-in-Enum : goal.returns-in-Enum
returns-in-Enum c = is_set keyword.Enum c.args.keyword c.in-Enum.is c.args.self _ c.args.value _ c.array.ensures refl

pub returns-in-ExclusiveMaximum : goal.returns-in-ExclusiveMaximum
returns-in-ExclusiveMaximum c = is_set keyword.ExclusiveMaximum c.args.keyword c.in-ExclusiveMaximum.is c.args.self _ c.args.value _ c.integer-self.ensures.integer refl

pub returns-in-ExclusiveMinimum : goal.returns-in-ExclusiveMinimum
returns-in-ExclusiveMinimum c = is_set keyword.ExclusiveMinimum c.args.keyword c.in-ExclusiveMinimum.is c.args.self _ c.args.value _ c.integer-self-in-ExclusiveMinimum.ensures.integer refl

pub returns-in-Items : goal.returns-in-Items
returns-in-Items c = is_set keyword.Items c.args.keyword c.in-Items.is c.args.self _ c.args.value _ c.schema-in-Items.ensures refl

pub returns-in-MaxItems : goal.returns-in-MaxItems
returns-in-MaxItems c = is_set keyword.MaxItems c.args.keyword c.in-MaxItems.is c.args.self _ c.args.value _ c.integer-self-in-MaxItems.ensures.count refl

pub returns-in-MaxLength : goal.returns-in-MaxLength
returns-in-MaxLength c = is_set keyword.MaxLength c.args.keyword c.in-MaxLength.is c.args.self _ c.args.value _ c.integer-self-in-MaxLength.ensures.count refl

pub returns-in-MaxProperties : goal.returns-in-MaxProperties
returns-in-MaxProperties c = is_set keyword.MaxProperties c.args.keyword c.in-MaxProperties.is c.args.self _ c.args.value _ c.integer-self-in-MaxProperties.ensures.count refl

pub returns-in-Maximum : goal.returns-in-Maximum
returns-in-Maximum c = is_set keyword.Maximum c.args.keyword c.in-Maximum.is c.args.self _ c.args.value _ c.integer-self-in-Maximum.ensures.integer refl

pub returns-in-MinItems : goal.returns-in-MinItems
returns-in-MinItems c = is_set keyword.MinItems c.args.keyword c.in-MinItems.is c.args.self _ c.args.value _ c.integer-self-in-MinItems.ensures.count refl

pub returns-in-MinLength : goal.returns-in-MinLength
returns-in-MinLength c = is_set keyword.MinLength c.args.keyword c.in-MinLength.is c.args.self _ c.args.value _ c.integer-self-in-MinLength.ensures.count refl

pub returns-in-MinProperties : goal.returns-in-MinProperties
returns-in-MinProperties c = is_set keyword.MinProperties c.args.keyword c.in-MinProperties.is c.args.self _ c.args.value _ c.integer-self-in-MinProperties.ensures.count refl

pub returns-in-Minimum : goal.returns-in-Minimum
returns-in-Minimum c = is_set keyword.Minimum c.args.keyword c.in-Minimum.is c.args.self _ c.args.value _ c.integer-self-in-Minimum.ensures.integer refl

pub returns-in-Not : goal.returns-in-Not
returns-in-Not c = is_set keyword.Not c.args.keyword c.in-Not.is c.args.self _ c.args.value _ c.schema-in-Not.ensures refl

pub returns-in-PrefixItems : goal.returns-in-PrefixItems
returns-in-PrefixItems c = is_set keyword.PrefixItems c.args.keyword c.in-PrefixItems.is c.args.self _ c.args.value _ c.schemas-in-PrefixItems.ensures refl

pub returns-in-Properties : goal.returns-in-Properties
returns-in-Properties c = is_set keyword.Properties c.args.keyword c.in-Properties.is c.args.self _ c.args.value _ c.named_schemas.ensures refl

pub returns-in-Required : goal.returns-in-Required
returns-in-Required c = is_set keyword.Required c.args.keyword c.in-Required.is c.args.self _ c.args.value _ c.texts.ensures refl

pub returns-in-Type : goal.returns-in-Type
returns-in-Type c = is_set keyword.Type c.args.keyword c.in-Type.is c.args.self _ c.args.value _ c.kind-self.ensures refl
