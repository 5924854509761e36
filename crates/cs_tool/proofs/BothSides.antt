-- The headline's last step: on an exported text `validate` answers what `vet` answers.
use Rattle.std.proofs.Common.{◌≡◌, ℕ, Bool, List, sym, ap, ap₂, subst, ◌∙◌}
use Rattle.cs_grammar.specs.declared.profile.Profile.{Profile}
use Rattle.cs_document.specs.Document.{Document}
use Rattle.cs_package.specs.Environment.{Names}
use Rattle.cs_instance.specs.Instance.{Rule, definition, IsInstance}
use Rattle.cs_profile.specs.declared.keyword.Vocabulary.{Vocabulary}
use Rattle.cs_schema.specs.Validity.{IsValidity}
use Rattle.cs_tool.specs.Headline.{IsExport, IsVerdict, IsValidated}
use Rattle.cs_tool.proofs.Declared.{one_environment, one_name}
use Rattle.cs_tool.proofs.Texts.{one_document}

-- what is judged by an exported text is judged by the root's definition, whichever keywords are taken
pub validate-says-instance : {taken : Vocabulary} (p : Profile) (sources : List (List ℕ)) (root text doc : List ℕ) (b : Bool) (exported : IsExport p sources root text) (validated : IsValidated taken text doc b)
    → (I : Rule → Document → Bool) → IsInstance exported.environment I → b ≡ I (definition exported.name) validated.document
validate-says-instance p sources root text doc b exported validated I is_I =
    let V = exported.one_validity.some.0 in
    let is_V = exported.one_validity.some.1 in
    let x = validated.document in
    let same_schema = one_document text exported.schema validated.schema exported.read validated.read_schema in
    let judged : b ≡ V validated.schema x = validated.holds V (subst (λ s. IsValidity s V) same_schema is_V) in
    judged ∙ ap (λ s. V s x) (sym same_schema) ∙ exported.admits V I is_V is_I x validated.proper

-- what `export`, `vet` and `validate` answer agrees
pub vet-and-validate-agree : {taken : Vocabulary} (p : Profile) (sources : List (List ℕ)) (root text doc : List ℕ) (a b : Bool) → IsExport p sources root text → IsVerdict p sources root doc a → IsValidated taken text doc b → a ≡ b
vet-and-validate-agree p sources root text doc a b exported verdict validated =
    let I = exported.one_instance.some.0 in
    let is_I = exported.one_instance.some.1 in
    let E = verdict.environment in
    let same_environment = one_environment exported.declares.accepted verdict.declares.accepted in
    let named = subst (λ F. Names F root exported.name) same_environment exported.declares.named in
    let same_name = one_name E root exported.name verdict.name named verdict.declares.named in
    let same_document = one_document doc verdict.document validated.document verdict.read validated.read in
    let held : a ≡ I (definition verdict.name) verdict.document = verdict.holds I (subst (λ F. IsInstance F I) same_environment is_I) in
    held ∙ ap₂ (λ n x. I (definition n) x) (sym same_name) same_document ∙ sym (validate-says-instance p sources root text doc b exported validated I is_I)
