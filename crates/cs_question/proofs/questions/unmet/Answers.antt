use Rattle.std.proofs.Common.{◌≡◌, ℕ, ◌+◌, ◌<◌, ◌⊎◌, inl, inr, ◌++◌, [], ◌∷◌, true, Some, length, refl, sym, ap, ◌∙◌, subst, arith}
use Rattle.std.specs.Prelude.{slice_get, slice_index}
use Rattle.std.proofs.lemmas.List.{length-append}
use Rattle.cs_rules.proofs.Lists.{got_push}
use Rattle.cs_question.specs.Truth.{IsShut, IsMetByNone}
use Rattle.cs_question.proofs.questions.unmet.Goals as goal

pub loop-place-preserved : goal.loop-place-preserved
loop-place-preserved c =
    let l = c.loop-place in
    let rules = c.args.rules.now in
    let entries = c.args.table.now.entries.items in
    let b = c.is_shut_at.result in
    let put = c.in_ok-push.ensures.items in
    record {
      long = ap length put ∙ length-append l.all.items (b ∷ []) ∙ ap (λ n. n + 1) l.invariant.long;
      none = λ i e. elim (got_push l.all.items b true i (ap (λ bs. slice_get bs i) (sym put) ∙ e)) [
        | inl h ↦ l.invariant.none i h.1
        | inr h ↦ subst (λ n. IsMetByNone entries (slice_index rules n)) (sym (h.0 ∙ l.invariant.long)) (record { asked = c.in_ok-asked.asked.items; shut = subst (IsShut entries) c.deref.ensures.value (c.is_shut_at.ensures h.1); only = c.in_ok-asked.ensures })
      ];
    }
