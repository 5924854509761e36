use Rattle.std.proofs.Common.{◌≡◌, ℕ, List, [], ◌∷◌, ◌++◌, take, Bor, BTreeSet, string_bytes, sym, ◌∙◌, subst}
use Rattle.cs_package.specs.View.{expression_of, mark_of}
use Rattle.cs_compile.specs.Grouped.{declared, declarations_at, has_label, is_asked}
use Rattle.cs_compile.specs.Translation.{schema_of}
use Rattle.cs_compile.proofs.Parts.{declarations-more, asked_one, asked_none}
use Rattle.cs_compile.proofs.fields.asked_labels.Goals as goal
use Rattle.cs_compile.proofs.fields.asked_labels.Goals.{then-must_be_there+in_ok-insert, else-must_be_there}

pub loop-part-preserved : goal.loop-part-preserved
loop-part-preserved c = λ ns.
    let l = c.loop-part in
    let ps = c.args.parts.now in
    let p = c.part-item.result in
    let old = declarations_at ns (take l.part-index ps) in
    let d = declared (string_bytes p.label) (mark_of p.mark) (schema_of (expression_of ns p.value)) in
    let more = declarations-more ns ps l.part-index p c.loop-part-test.true c.part-item.is in
    let told = λ (s : BTreeSet (Bor (List ℕ))). (k : Bor (List ℕ)) → has_label s k ≡ is_asked (old ++ d ∷ []) k.now in
    subst (λ ds. (k : Bor (List ℕ)) → has_label c.if-must_be_there.asked k ≡ is_asked ds k.now) (sym more) (elim c.if-must_be_there.branch [
      | then-must_be_there+in_ok-insert w ↦ subst told (sym w.asked-is) (asked_one l.asked w.insert.new.self old d (l.invariant ns) w.as_str.result w.as_str.ensures.value (sym c.must_be_there.ensures ∙ w.if-must_be_there.true) w.in_ok-insert.ensures.updates)
      | else-must_be_there w ↦ subst told (sym w.asked-is) (asked_none l.asked l.asked old d (l.invariant ns) (sym c.must_be_there.ensures ∙ w.if-must_be_there.false))
    ])
