use Rattle.std.proofs.Common.{◌∙◌, ap, subst, string_bytes, nat_cmp}
use Rattle.std.specs.BTreeMap.{is_at}
use Rattle.std.specs.Cmp.Lexicographic.{slice_cmp}
use Rattle.std.specs.Map.{lookup}
use Rattle.cs_profile.specs.SchemaDocument.{IsWhole}
use Rattle.cs_profile.proofs.Definitions.{found_definition, defined_definition}
use Rattle.cs_profile.proofs.schema_doc.SchemaDoc.definition.Goals as goal

pub returns-clause-found : goal.returns-clause-found
returns-clause-found c =
    found_definition c.args.self.now c.args.name.now c.get.result
    (c.get.ensures.value ∙ ap (λ v. lookup (is_at (λ k. slice_cmp nat_cmp c.args.name.now (string_bytes k))) v.definitions) c.self.view_is)

pub returns-clause-defined : goal.returns-clause-defined
returns-clause-defined c = defined_definition c.args.self.now (subst IsWhole c.self.view_is c.self.invariant.whole) c.args.name.now
