use Rattle.std.proofs.Common.{◌≡◌, ◌<◌, not, true≢false, Some, length, sym, ap, ◌∙◌, subst, below_more, arith}
use Rattle.std.specs.Prelude.{IsNone, slice_get}
use Rattle.std.proofs.lemmas.Option.{same_Some, slice_get_within}
use Rattle.cs_question.specs.declared.table.Entry.{Entry}
use Rattle.cs_question.specs.Truth.{NoDocument}
use Rattle.cs_question.proofs.Loops.{got_some}
use Rattle.cs_question.proofs.table.settle.Goals as goal
use Rattle.cs_question.proofs.table.settle.Goals.{else-is_none-via-then-is_none+in_ok-found_for+else-is_some, else-is_none-via-else-is_none}

pub loop-entry-preserved : goal.loop-entry-preserved
loop-entry-preserved c =
    let ns = c.args.nodes.now in
    let table = c.args.table.now in
    let l = c.loop-entry in
    let entry = c.entry-item.result in
    let at : slice_get c.args.table.now.entries.items l.entry-index ≡ Some entry = subst (λ xs. slice_get xs l.entry-index ≡ Some entry) c.deref-entry-items.ensures.value (got_some c.deref-entry-items.result.now l.entry-index entry c.loop-entry-test.true c.entry-item.is) in
    λ i e h. below_more (λ k. (e : Entry) → slice_get table.entries.items k ≡ Some e → IsNone e.found → NoDocument ns table e.asked.items) l.entry-index
    (λ k b e. l.invariant k e b)
    (λ e g none. let same : entry ≡ e = same_Some entry e (sym at ∙ g) in
    let none' : IsNone entry.found = subst (λ (k : Entry). IsNone k.found) (sym same) none in
    elim c.else-is_none.branch [
      | else-is_none-via-then-is_none+in_ok-found_for+else-is_some w ↦ subst (NoDocument ns table) (w.deref.ensures.value ∙ ap (λ (k : Entry). k.asked.items) same) (w.in_ok-found_for.ensures (sym w.is_some.ensures ∙ w.if-is_some.false))
      | else-is_none-via-else-is_none w ↦ absurd (true≢false (ap not (sym w.if-is_none.false) ∙ sym c.is_none.ensures ∙ none'))
    ]) i h e

pub returns : goal.returns
returns c = λ asked s.
    let within : s.place < c.loop-entry.entry-index = let l = slice_get_within c.args.table.now.entries.items s.place s.entry s.at in omega (arith, l, c.loop-entry-test.false, ap length c.deref-entry-items.ensures.value) in
    subst (NoDocument c.args.nodes.now c.args.table.now) s.same (c.loop-entry.invariant s.place s.entry within s.at s.none)
