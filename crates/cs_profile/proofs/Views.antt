-- A schema as its document, form by form.
use Rattle.std.proofs.Common.{◌≡◌, Bool, Box, Global, rules}
use Rattle.cs_document.specs.Document.{boolean, object}
use Rattle.cs_profile.specs.SchemaDocument.{present, slots_of, schema_view}
use Rattle.cs_profile.specs.declared.schema.Schema.{Always, Object, the_lemmas}
use Rattle.cs_profile.specs.declared.schema.Keywords.{Keywords}

pub view-Always : (b : Bool) → schema_view (Always b) ≡ boolean b
view-Always b = search (rules, the_lemmas)

pub view-Object : (k : Box Keywords Global) → schema_view (Object k) ≡ object (present (slots_of k.value))
view-Object k = search (rules, the_lemmas)
