use Rattle.std.proofs.Common.{◌≡◌, Some, None, sym, ap, subst, ◌∙◌}
use Rattle.std.proofs.lemmas.Result.{IfOk-weaker}
use Rattle.cs_check.specs.declared.findings.Checked.TheVariants.{Faulty}
use Rattle.cs_check.specs.declared.findings.Findings.{Findings}
use Rattle.cs_grammar.specs.declared.profile.Profile.TheVariants as profiles
use Rattle.cs_profile.specs.declared.keyword.Vocabulary.TheVariants as vocabularies
use Rattle.cs_tool.specs.CallRefusals.{IsSchemaText}
use Rattle.cs_widen.specs.Schemas.{bytes_of, SchemaStandsForIn, SchemaMeans}
use Rattle.cs_check.proofs.findings.wide_schema_findings.Goals as goal

pub returns-in-Some-clause-accepted : goal.returns-in-Some-clause-accepted
returns-in-Some-clause-accepted c =
    let text = c.args.schema.text.now in
    let m = c.deref.result.now in
    let same : bytes_of c.in_ok-meant.field-0 ≡ Some m = ap bytes_of c.in-Some.is ∙ ap Some (sym c.deref.ensures.value) in
    let stands = subst (SchemaStandsForIn profiles.Wide text) same c.in_ok-meant.ensures.found in
    IfOk-weaker c.findings_of.result (λ (f : Findings). ¬ (f.checked ≡ Faulty) → IsSchemaText vocabularies.Wide m) (λ (f : Findings). ¬ (f.checked ≡ Faulty) → SchemaMeans profiles.Wide text (IsSchemaText vocabularies.Wide))
    (λ f h n. (Some m, stands, h n)) c.findings_of.ensures.accepted

pub returns-in-Some-clause-refused : goal.returns-in-Some-clause-refused
returns-in-Some-clause-refused c =
    let text = c.args.schema.text.now in
    let m = c.deref.result.now in
    let same : bytes_of c.in_ok-meant.field-0 ≡ Some m = ap bytes_of c.in-Some.is ∙ ap Some (sym c.deref.ensures.value) in
    let stands = subst (SchemaStandsForIn profiles.Wide text) same c.in_ok-meant.ensures.found in
    IfOk-weaker c.findings_of.result (λ (f : Findings). f.checked ≡ Faulty → ¬ (IsSchemaText vocabularies.Wide m)) (λ (f : Findings). f.checked ≡ Faulty → SchemaMeans profiles.Wide text (λ judged. ¬ (IsSchemaText vocabularies.Wide judged)))
    (λ f h e. (Some m, stands, h e)) c.findings_of.ensures.refused

pub returns-in-None-clause-accepted : goal.returns-in-None-clause-accepted
returns-in-None-clause-accepted c =
    let text = c.args.schema.text.now in
    let stands = subst (λ s. SchemaStandsForIn profiles.Wide text (bytes_of s)) c.in-None.is c.in_ok-meant.ensures.found in
    IfOk-weaker c.findings_of-in-None.result (λ (f : Findings). ¬ (f.checked ≡ Faulty) → IsSchemaText vocabularies.Wide text) (λ (f : Findings). ¬ (f.checked ≡ Faulty) → SchemaMeans profiles.Wide text (IsSchemaText vocabularies.Wide))
    (λ f h n. (None, stands, h n)) c.findings_of-in-None.ensures.accepted

pub returns-in-None-clause-refused : goal.returns-in-None-clause-refused
returns-in-None-clause-refused c =
    let text = c.args.schema.text.now in
    let stands = subst (λ s. SchemaStandsForIn profiles.Wide text (bytes_of s)) c.in-None.is c.in_ok-meant.ensures.found in
    IfOk-weaker c.findings_of-in-None.result (λ (f : Findings). f.checked ≡ Faulty → ¬ (IsSchemaText vocabularies.Wide text)) (λ (f : Findings). f.checked ≡ Faulty → SchemaMeans profiles.Wide text (λ judged. ¬ (IsSchemaText vocabularies.Wide judged)))
    (λ f h e. (None, stands, h e)) c.findings_of-in-None.ensures.refused
