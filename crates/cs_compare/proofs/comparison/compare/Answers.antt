use Rattle.std.proofs.Common.{◌≡◌, ◌⊎◌, ℕ, List, [], ◌∷◌, Bool, true, false, Option, Some, None, Result, Ok, Err, IfOk, IfErr, inl, inr, refl, sym, ap, subst}
use Rattle.std.specs.Option.{is_some}
use Rattle.cs_document.specs.Document.{Document}
use Rattle.cs_document.specs.View.{doc_view}
use Rattle.cs_grammar.specs.declared.profile.Profile.{Profile}
use Rattle.cs_package.specs.Environment.{Environment, Names}
use Rattle.cs_instance.specs.Instance.{Rule, definition, IsInstance}
use Rattle.cs_question.specs.Faults.{IsRefusal}
use Rattle.cs_question.specs.ReadAgain.{IsReadAgain}
use Rattle.cs_question.specs.Separates.{Separates}
use Rattle.cs_question.specs.declared.fault.QuestionFault.{QuestionFault}
use Rattle.cs_question.specs.declared.fault.QuestionFault.TheVariants as question
use Rattle.cs_tool.specs.Given.{bytes_in}
use Rattle.cs_tool.specs.Ready.{IsReady}
use Rattle.cs_tool.specs.declared.fault.Fault.{Fault}
use Rattle.cs_tool.specs.declared.fault.Fault.TheVariants.{OutOfMemory, TooManyCases}
use Rattle.cs_compare.specs.Compared.{Edition, Breaks, ShowsDocument, IsComparison}
use Rattle.cs_compare.specs.Refused.{fault_of_question, OfQuestion}
use Rattle.cs_compare.specs.Refused as refused
use Rattle.cs_compare.specs.declared.comparison.Comparison.{Comparison}
use Rattle.cs_compare.specs.declared.comparison.Comparison.TheVariants.{Compatible, Breaking}
use Rattle.cs_compare.specs.declared.refusal.CompareRefusal.{CompareRefusal}
use Rattle.cs_compare.proofs.comparison.compare.Goals as goal

is_true : (b : Bool) → (b ≡ false → ⊥) → b ≡ true
is_true true _ = refl
is_true false f = absurd (f refl)

-- the question is refused for its limits or for memory, where both roots are declared
module _ (E F : Environment) (r s n m : List ℕ) (named : Names E r n) (other : Names F s m) where
  of_question : (e : QuestionFault) → IsRefusal e E r ⊎ IsRefusal e F s → OfQuestion (fault_of_question e)
  of_question question.OutOfMemory h = tt
  of_question question.TooManyCases h = tt
  of_question question.UnknownRoot (inl f) = absurd (f n named)
  of_question question.UnknownRoot (inr f) = absurd (f m other)

  either : (e : QuestionFault) → IsRefusal e E r ⊎ IsRefusal e F s → (fault_of_question e ≡ OutOfMemory) ⊎ (fault_of_question e ≡ TooManyCases)
  either question.OutOfMemory h = inl refl
  either question.TooManyCases h = inr refl
  either question.UnknownRoot (inl f) = absurd (f n named)
  either question.UnknownRoot (inr f) = absurd (f m other)

-- what is answered of a document that breaks
module _ (p : Profile) (old : List (List ℕ)) (r : List ℕ) (new : List (List ℕ)) (s : List ℕ) where
  shows : (before : Edition p old r) (after : Edition p new s) (x : Document) (a : Comparison) → Breaks before after x → ShowsDocument x a → IsComparison p old r new s a
  shows before after x Compatible breaks shown = absurd shown
  shows before after x (Breaking t) breaks shown = record { before = before; after = after; answers = (x, shown, breaks) }

  answered : (before : Edition p old r) (after : Edition p new s) (x : Document) (o : Result Comparison CompareRefusal) → Breaks before after x → IfOk o (ShowsDocument x) → IfOk o (IsComparison p old r new s)
  answered before after x (Ok a) breaks shown = shows before after x a breaks shown
  answered before after x (Err e) breaks shown = tt

  of_two : (f : Fault) → (f ≡ OutOfMemory) ⊎ (f ≡ TooManyCases) → OfQuestion f
  of_two f (inl is) = subst OfQuestion (sym is) tt
  of_two f (inr is) = subst OfQuestion (sym is) tt

  alone : IsReady p old r → IsReady p new s → (o : Result Comparison CompareRefusal) → IfErr o (λ e. e.side ≡ None) → IfErr o (λ e. (e.fault ≡ OutOfMemory) ⊎ (e.fault ≡ TooManyCases))
      → IfErr o (λ e. refused.IsRefusal p old r new s e.side e.fault)
  alone ready ready' (Ok a) side fault = tt
  alone ready ready' (Err e) side fault = subst (λ o. refused.IsRefusal p old r new s o e.fault) (sym side) (ready, ready', of_two e.fault fault)

pub returns-in-Ok-None-clause-answered : goal.returns-in-Ok-None-clause-answered
returns-in-Ok-None-clause-answered c =
    let old = c.in_ok-before.ensures.found in
    let new = c.in_ok-after.ensures.found in
    record {
      before = record { environment = c.in_ok-before.before; name = old.0; declares = old.1; one_meaning = c.one_meaning.ensures };
      after = record { environment = c.in_ok-after.after; name = new.0; declares = new.1; one_meaning = c.one_meaning-2.ensures };
      answers = λ I J i j x d holds. is_true (J (definition new.0) x)
          (λ fails. c.in-Ok-None.ensures.none (ap is_some c.in-Ok-None.field-0-is) I J old.0 new.0 x i j old.1.named new.1.named d ((holds, tt), (fails, tt)));
    }

pub returns-in-Ok-Some-clause-answered : goal.returns-in-Ok-Some-clause-answered
returns-in-Ok-Some-clause-answered c =
    let old = c.in_ok-before.ensures.found in
    let new = c.in_ok-after.ensures.found in
    let E = c.in_ok-before.before in
    let F = c.in_ok-after.after in
    let x = doc_view c.in-Ok-Some.doc in
    let one : (I J : Rule → Document → Bool) (n m : List ℕ) → IsInstance E I → IsInstance F J → Names E c.args.old_root.now n → Names F c.args.new_root.now m
    → Separates (I (definition n) ∷ []) (J (definition m) ∷ []) x = rw c.in-Ok-Some.field-0-is at c.in-Ok-Some.ensures.one in
    let read : IsReadAgain x = rw c.in-Ok-Some.field-0-is at c.in-Ok-Some.ensures.read in
    let before : Edition c.args.profile (bytes_in c.args.old.now) c.args.old_root.now = record { environment = E; name = old.0; declares = old.1; one_meaning = c.one_meaning.ensures } in
    let after : Edition c.args.profile (bytes_in c.args.new.now) c.args.new_root.now = record { environment = F; name = new.0; declares = new.1; one_meaning = c.one_meaning-2.ensures } in
    answered _ _ _ _ _ before after x c.breaking.result (read, λ I J i j. let s = one I J old.0 new.0 i j old.1.named new.1.named in (s.0.0, s.1.0)) c.breaking.ensures.shown

pub returns-in-Ok-Some-clause-refused : goal.returns-in-Ok-Some-clause-refused
returns-in-Ok-Some-clause-refused c =
    let old = c.in_ok-before.ensures.found in
    let new = c.in_ok-after.ensures.found in
    alone _ _ _ _ _ (c.in_ok-before.before, old.0, old.1) (c.in_ok-after.after, new.0, new.1) c.breaking.result c.breaking.ensures.side c.breaking.ensures.fault

pub returns-clause-refused : goal.returns-clause-refused
returns-clause-refused c =
    let old = c.in_ok-before.ensures.found in
    let new = c.in_ok-after.ensures.found in
    let told = of_question c.in_ok-before.before c.in_ok-after.after c.args.old_root.now c.args.new_root.now old.0 new.0 old.1.named new.1.named c.in-Err.fault c.in-Err.ensures.refused in
    ((c.in_ok-before.before, old.0, old.1), (c.in_ok-after.after, new.0, new.1), subst OfQuestion (sym c.of_question.ensures) told)

pub returns-clause-only : goal.returns-clause-only
returns-clause-only c = λ ready ready'.
    let old = c.in_ok-before.ensures.found in
    let new = c.in_ok-after.ensures.found in
    let told = either c.in_ok-before.before c.in_ok-after.after c.args.old_root.now c.args.new_root.now old.0 new.0 old.1.named new.1.named c.in-Err.fault c.in-Err.ensures.refused in
    subst (λ f. (f ≡ OutOfMemory) ⊎ (f ≡ TooManyCases)) (sym c.of_question.ensures) told
