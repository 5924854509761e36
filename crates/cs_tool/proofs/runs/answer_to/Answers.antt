use Rattle.std.proofs.Common.{◌≡◌, ℕ, List, Bor, map, ap, subst, subst₂, ◌∙◌}
use Rattle.std.proofs.lemmas.Result.{err_from_is_err_and}
use Rattle.cs_grammar.specs.declared.profile.Profile.TheVariants as profiles
use Rattle.cs_profile.specs.declared.keyword.Vocabulary.TheVariants as vocabularies
use Rattle.cs_tool.specs.CallRefusals.{ValidateRefusal}
use Rattle.cs_tool.specs.Runs.{Call, vet, agree, sources_or, IsCallRefusal}
use Rattle.cs_tool.specs.declared.fault.Fault.{Fault}
use Rattle.cs_tool.proofs.runs.answer_to.Goals as goal

abbrev now : Bor (List ℕ) → List ℕ
now s = s.now

same : (call : List (List ℕ) → List ℕ → List ℕ → Call) (e : Fault) (ss ts : List (List ℕ)) (r s t u : List ℕ) → ss ≡ ts → r ≡ s → t ≡ u → IsCallRefusal (call ss r t) e → IsCallRefusal (call ts s u) e
same call e ss ts r s t u sources root doc h = let is : call ss r t ≡ call ts s u = cc in subst (λ c. IsCallRefusal c e) is h

pub returns-in_err-truth-in-Vet-clause-refused : goal.returns-in_err-truth-in-Vet-clause-refused
returns-in_err-truth-in-Vet-clause-refused c =
    let sources = ap (map now) c.deref-in-Vet-2.ensures.value ∙ c.in_ok-sources-in-Vet.ensures ∙ ap (λ fs. sources_or fs c.args.input.now) c.deref-in-Vet.ensures.value in
    let p = err_from_is_err_and c.from_residual-in_err-truth-in-Vet.result c.from_residual-in_err-truth-in-Vet.ensures.1 in
    rw (p.1, p.2, c.in-Vet.is) (same (vet profiles.Default) c.in_err-truth-in-Vet.field-0.0 _ _ _ _ _ _ sources c.deref-in-Vet-3.ensures c.deref-in-Vet-4.ensures.value c.in_err-truth-in-Vet.ensures.refused)

pub returns-in_err-truth-in-Validate-clause-refused : goal.returns-in_err-truth-in-Validate-clause-refused
returns-in_err-truth-in-Validate-clause-refused c =
    let p = err_from_is_err_and c.from_residual-in_err-truth-in-Validate.result c.from_residual-in_err-truth-in-Validate.ensures.1 in
    rw (p.1, p.2, c.in-Validate.is) (subst₂ (λ s t. ValidateRefusal vocabularies.Default s t c.in_err-truth-in-Validate.field-0.0) c.deref-in-Validate.ensures.value c.doc_or_input.ensures c.in_err-truth-in-Validate.ensures.refused)

pub returns-in_err-truth-in-Agree-clause-refused : goal.returns-in_err-truth-in-Agree-clause-refused
returns-in_err-truth-in-Agree-clause-refused c =
    let sources = ap (map now) c.deref-in-Agree-2.ensures.value ∙ c.in_ok-sources-in-Agree.ensures ∙ ap (λ fs. sources_or fs c.args.input.now) c.deref-in-Agree.ensures.value in
    let p = err_from_is_err_and c.from_residual-in_err-truth-in-Agree.result c.from_residual-in_err-truth-in-Agree.ensures.1 in
    rw (p.1, p.2, c.in-Agree.is) (same (agree profiles.Default) c.in_err-truth-in-Agree.field-0.0 _ _ _ _ _ _ sources c.deref-in-Agree-3.ensures c.deref-in-Agree-4.ensures.value c.in_err-truth-in-Agree.ensures.refused)
