use Rattle.std.proofs.Common.{◌≡◌, ℕ, List, Option, inl, inr, sym, subst, ◌∙◌}
use Rattle.std.proofs.lemmas.Result.{err_from_is_err_and}
use Rattle.std.specs.Io.KnownBytes.{Keeps}
use Rattle.std.proofs.KnownBytes.{Keeps-refl}
use Rattle.cs_grammar.specs.declared.profile.Profile.{Profile}
use Rattle.cs_tool.specs.First.{First}
use Rattle.cs_tool.specs.Runs.{Call, export, vet, validate, agree, call_of, IsReadyCall, IsCallRefusal, LineRefusal, Leaves}
use Rattle.cs_tool.specs.declared.fault.Fault.{Fault}
use Rattle.cs_tool.specs.declared.fault.Fault.TheVariants.{WriteFailed, UnknownRoot}
use Rattle.cs_tool.specs.declared.request.Request.{Request}
use Rattle.cs_tool.specs.declared.request.Request.TheVariants.{Export, Vet, Validate, Agree}
use Rattle.cs_tool.proofs.runs.run.Goals as goal

-- a call writes nothing
no_write_failed : {p : Profile} {sources : List (List ℕ)} {root : List ℕ} → First p sources root WriteFailed → ⊥
no_write_failed (inl h) = h
no_write_failed (inr h) = let is : WriteFailed ≡ UnknownRoot = h.0 in cc

no_call_writes : (c : Call) → IsCallRefusal c WriteFailed → ⊥
no_call_writes (export p sources root) h = no_write_failed h
no_call_writes (vet p sources root doc) h = no_write_failed h
no_call_writes (validate taken schema doc) h = h
no_call_writes (agree p sources root doc) h = no_write_failed h

no_line_writes : (request : Request) (remaining : Option (List ℕ)) → LineRefusal request remaining WriteFailed → ⊥
no_line_writes (Export files root) remaining (inl h) = h
no_line_writes (Vet files root doc) remaining (inl h) = h
no_line_writes (Validate schema doc) remaining (inl h) = h
no_line_writes (Agree files root doc) remaining (inl h) = h
no_line_writes request remaining (inr h) = no_call_writes _ h.2

-- a refusal of the line leaves the writer as it was
leaves : (request : Request) (remaining : Option (List ℕ)) (e : Fault) (old new : Option (List ℕ)) → LineRefusal request remaining e → Keeps old new → Leaves request remaining e old new
leaves request remaining WriteFailed old new h kept = absurd (no_line_writes request remaining h)
leaves request remaining _ old new h kept = (h, kept)

pub returns-in_err-answer-clause-refused : goal.returns-in_err-answer-clause-refused
returns-in_err-answer-clause-refused g c =
    let e = c.in_err-answer.field-0.0 in
    let refused = subst (λ bytes. IsCallRefusal (call_of c.args.request bytes) e) c.deref.ensures.value c.in_err-answer.ensures.refused in
    let p = err_from_is_err_and c.from_residual-in_err-answer.result c.from_residual-in_err-answer.ensures.1 in
    rw (p.1, p.2) (leaves c.args.request _ e _ _ (inr (c.in_ok-bytes.bytes.items, c.in_ok-bytes.ensures.found, refused)) (Keeps-refl _))

pub returns-in_err-answer-clause-only : goal.returns-in_err-answer-clause-only
returns-in_err-answer-clause-only g c = λ ready.
    let none = c.deref.ensures.value ∙ c.in_ok-bytes.ensures.none ready.0 in
    let p = err_from_is_err_and c.from_residual-in_err-answer.result c.from_residual-in_err-answer.ensures.1 in
    rw (p.1, p.2) (inl (c.in_err-answer.ensures.only (subst (λ bytes. IsReadyCall (call_of c.args.request bytes)) (sym none) ready.1)))
