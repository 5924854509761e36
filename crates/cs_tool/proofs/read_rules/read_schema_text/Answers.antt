use Rattle.std.proofs.Common.{sym, subst, ◌∙◌}
use Rattle.cs_document.specs.View.{doc_view}
use Rattle.cs_tool.specs.CallRefusals.{ValidateRefusal}
use Rattle.cs_tool.proofs.Texts.{unread_schema, schema_alone}
use Rattle.cs_tool.proofs.read_rules.read_schema_text.Goals as goal

pub returns-in_ok-read_schema-in-Ok-clause-found : goal.returns-in_ok-read_schema-in-Ok-clause-found
returns-in_ok-read_schema-in-Ok-clause-found c =
    let schema = c.in_ok-read_schema-in-Ok.ensures in
    record { text = record { document = doc_view c.in-Ok.doc; read = c.in-Ok.ensures.found; profile = schema.accepted }; trimmed = schema.found }

pub returns-in-Err-clause-refused : goal.returns-in-Err-clause-refused
returns-in-Err-clause-refused c = λ d.
    subst (ValidateRefusal c.args.vocabulary c.args.text.now d) (sym c.of_schema_text.ensures) (unread_schema c.args.vocabulary c.args.text.now d c.in-Err.fault c.in-Err.ensures.refused)

pub returns-in-Err-clause-only : goal.returns-in-Err-clause-only
returns-in-Err-clause-only c = λ is. c.of_schema_text.ensures ∙ schema_alone c.args.text.now is c.in-Err.fault c.in-Err.ensures.refused
