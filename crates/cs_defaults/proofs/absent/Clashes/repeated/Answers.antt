use Rattle.std.proofs.Common.{◌≡◌, List, ℕ, [], ◌∷◌, ◌++◌, cond, take, string_bytes, sym, ap, ◌∙◌}
use Rattle.std.specs.Borrow.{Bor}
use Rattle.std.specs.BTreeSet.{BTreeSet}
use Rattle.std.proofs.lemmas.List.{append-nil, take_all}
use Rattle.cs_grammar.specs.View.{expr_view, fields_view}
use Rattle.cs_defaults.specs.Absent.{absent_labels, is_repeated, may_exclude}
use Rattle.cs_defaults.specs.Checks.{TellsSeen}
use Rattle.cs_defaults.proofs.AbsentLabels.{absent_more}
use Rattle.cs_defaults.proofs.absent.Clashes.repeated.Goals as goal
use Rattle.cs_defaults.proofs.absent.Clashes.repeated.Goals.{then-may_exclude+in_ok-see, else-may_exclude}

same : (s r u v : BTreeSet (Bor (List ℕ))) (ls ms : List (List ℕ)) → s ≡ u → r ≡ v → ls ≡ ms → TellsSeen u v ms → TellsSeen s r ls
same s r u v ls ms p q e h = rw (p, q, e) h

pub loop-field-preserved : goal.loop-field-preserved
loop-field-preserved c has tells =
    let xs = c.args.fields.now in
    let i = c.loop-field.field-index in
    let x = c.field-item.result in
    let ls = absent_labels has (fields_view (take i xs)) in
    let more = absent_more has xs i x c.loop-field-test.true c.field-item.is in
    let held = c.loop-field.invariant has tells in
    let told : may_exclude has x.asked x.mark (expr_view x.value) ≡ c.may_exclude.result = sym (c.may_exclude.ensures has tells) in
    elim c.if-may_exclude.branch [
      | then-may_exclude+in_ok-see w ↦ same _ _ _ _ _ (ls ++ w.deref.result.now ∷ []) w.seen-is w.repeated-is (more ∙ ap (λ b. ls ++ cond b (string_bytes x.label ∷ []) []) (told ∙ w.if-may_exclude.true) ∙ ap (λ t. ls ++ t ∷ []) (sym w.deref.ensures)) (w.in_ok-see.ensures ls held)
      | else-may_exclude w ↦ same _ _ _ _ _ ls w.seen-is w.repeated-is (more ∙ ap (λ b. ls ++ cond b (string_bytes x.label ∷ []) []) (told ∙ w.if-may_exclude.false) ∙ append-nil ls) held
    ]

pub returns : goal.returns
returns c has tells s = (c.loop-field.invariant has tells).again s ∙ ap (λ ys. is_repeated s (absent_labels has (fields_view ys))) (take_all c.loop-field.field-index c.args.fields.now c.loop-field-test.false)
