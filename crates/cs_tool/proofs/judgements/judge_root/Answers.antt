use Rattle.std.proofs.Common.{◌≡◌, ℕ, false, List}
use Rattle.std.proofs.lemmas.Result.{err_from_is_err_and}
use Rattle.cs_grammar.specs.declared.profile.Profile.{Profile}
use Rattle.cs_json.specs.ReadAs.{read_as}
use Rattle.cs_tool.specs.Accepted.{DeclaresRoot}
use Rattle.cs_tool.specs.Ready.{IsReady, IsReadyToVet}
use Rattle.cs_tool.specs.CallRefusals.{VetRefusal}
use Rattle.cs_tool.specs.declared.fault.Fault.{Fault}
use Rattle.cs_tool.specs.declared.fault.Fault.TheVariants.{OutOfMemory, NotJson, NotInteger, TooManyPairs}
use Rattle.cs_tool.proofs.Judging.{Refuses, ManyOfRoot, memory_alone, by_text, by_root, few_of_vet, verdict}
use Rattle.cs_tool.proofs.judgements.judge_root.Goals as goal

module _ (p : Profile) (sources : List (List ℕ)) (root text : List ℕ) where
  refused : IsReady p sources root → (e : Fault) → Refuses text (ManyOfRoot p sources root text) e → VetRefusal p sources root text e
  refused ready OutOfMemory h = tt
  refused ready (NotJson o c) h = (ready, h)
  refused ready (NotInteger o false) h = (ready, h)
  refused ready (TooManyPairs i r false) h = h
  refused ready _ h = absurd h

  only : IsReadyToVet p sources root text → (e : Fault) → Refuses text (ManyOfRoot p sources root text) e → e ≡ OutOfMemory
  only ready = memory_alone text _ ready.input.document ready.input.read (few_of_vet p sources root text ready)

pub returns-in_err-doc : goal.returns-in_err-doc
returns-in_err-doc c =
    let t = c.args.text.now in
    let p = err_from_is_err_and c.from_residual.result c.from_residual.ensures.1 in
    let told = λ (p : Profile) (ss : List (List ℕ)) (r : List ℕ). by_text t (ManyOfRoot p ss r t) c.in_err-doc.field-0.0 c.in_err-doc.ensures.refused in
    rw (p.1, p.2) (record {
      found = λ p ss r declares. tt;
      refused = λ p ss r declares. refused p ss r t (_, _, declares) _ (told p ss r);
      only = λ p ss r declares ready. only p ss r t ready _ (told p ss r);
    })

pub returns-in_err-is_instance : goal.returns-in_err-is_instance
returns-in_err-is_instance c =
    let t = c.args.text.now in
    let judged = c.in_err-is_instance.ensures in
    let p = err_from_is_err_and c.from_residual-in_err-is_instance.result c.from_residual-in_err-is_instance.ensures.1 in
    let told = λ (p : Profile) (ss : List (List ℕ)) (r : List ℕ) (declares : DeclaresRoot p ss r c.args.rules.now.0 c.args.rules.now.1).
    by_root t (ManyOfRoot p ss r t) p ss r _ _ declares _ c.in_ok-doc.ensures.found (λ i k many. many) c.in_err-is_instance.field-0.0 judged.known judged.many in
    rw (p.1, p.2) (record {
      found = λ p ss r declares. tt;
      refused = λ p ss r declares. refused p ss r t (_, _, declares) _ (told p ss r declares);
      only = λ p ss r declares ready. only p ss r t ready _ (told p ss r declares);
    })

pub returns-clause-found : goal.returns-clause-found
returns-clause-found c = λ p ss r declares.
    let doc = c.in_ok-doc.ensures in
    let judged = c.in_ok-is_instance.ensures in
    verdict p ss r c.args.text.now _ _ (read_as c.in_ok-doc.doc) _ declares doc.found doc.document judged.one_meaning judged.answer judged.within
