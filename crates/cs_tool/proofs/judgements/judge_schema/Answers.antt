use Rattle.std.proofs.Common.{◌≡◌, ℕ, true, false, List}
use Rattle.std.proofs.lemmas.Result.{err_from_is_err_and}
use Rattle.cs_json.specs.ReadAs.{read_as}
use Rattle.cs_profile.specs.declared.keyword.Vocabulary.{Vocabulary}
use Rattle.cs_tool.specs.Ready.{IsReadyToValidate}
use Rattle.cs_tool.specs.CallRefusals.{IsSchemaText, ValidateRefusal}
use Rattle.cs_tool.specs.Sides.{IsSchemaOf}
use Rattle.cs_tool.specs.declared.fault.Fault.{Fault}
use Rattle.cs_tool.specs.declared.fault.Fault.TheVariants.{OutOfMemory, NotJson, NotInteger, TooManyPairs}
use Rattle.cs_tool.proofs.Judging.{Refuses, ManyOfSchema, memory_alone, by_text, by_schema, few_of_validate, validated}
use Rattle.cs_tool.proofs.judgements.judge_schema.Goals as goal

module _ (v : Vocabulary) (s t : List ℕ) where
  refused : IsSchemaText v s → (e : Fault) → Refuses t (ManyOfSchema v s t) e → ValidateRefusal v s t e
  refused is OutOfMemory h = tt
  refused is (NotJson o c) h = (is, h)
  refused is (NotInteger o false) h = (is, h)
  refused is (TooManyPairs i r true) h = h
  refused is _ h = absurd h

  only : IsReadyToValidate v s t → (e : Fault) → Refuses t (ManyOfSchema v s t) e → e ≡ OutOfMemory
  only ready = memory_alone t _ ready.input.document ready.input.read (few_of_validate s t ready)

pub returns-in_err-doc : goal.returns-in_err-doc
returns-in_err-doc c =
    let t = c.args.text.now in
    let p = err_from_is_err_and c.from_residual.result c.from_residual.ensures.1 in
    let told = λ (v : Vocabulary) (s : List ℕ). by_text t (ManyOfSchema v s t) c.in_err-doc.field-0.0 c.in_err-doc.ensures.refused in
    rw (p.1, p.2) (record {
      found = λ v s is. tt;
      refused = λ v s is. refused v s t is.text _ (told v s);
      only = λ v s is ready. only v s t ready _ (told v s);
    })

pub returns-in_err-is_valid : goal.returns-in_err-is_valid
returns-in_err-is_valid c =
    let t = c.args.text.now in
    let p = err_from_is_err_and c.from_residual-in_err-is_valid.result c.from_residual-in_err-is_valid.ensures.1 in
    let told = λ (v : Vocabulary) (s : List ℕ) (is : IsSchemaOf v s c.args.rules.now).
    by_schema t (ManyOfSchema v s t) s _ is _ c.in_ok-doc.ensures.found (λ i k many. many) c.in_err-is_valid.field-0.0 c.in_err-is_valid.ensures.refused in
    rw (p.1, p.2) (record {
      found = λ v s is. tt;
      refused = λ v s is. refused v s t is.text _ (told v s is);
      only = λ v s is ready. only v s t ready _ (told v s is);
    })

pub returns-clause-found : goal.returns-clause-found
returns-clause-found c = λ v s is.
    let doc = c.in_ok-doc.ensures in
    let judged = c.in_ok-is_valid.ensures in
    validated s c.args.text.now _ (read_as c.in_ok-doc.doc) _ is doc.found doc.document judged.one_meaning judged.within judged.answer
