use Rattle.std.proofs.Common.{◌≡◌, ◌+◌, get_or, None, Some, Option, Bool, false, not, IsSome, is_some, refl, sym, subst, ap, ◌∙◌}
use Rattle.cs_rules.specs.Rows.{verdict_at, AreOpen}
use Rattle.cs_rules.proofs.Decided.{one_open, one_decided, verdict_there}
use Rattle.cs_rules.proofs.rows.open_rules.Goals as goal
use Rattle.cs_rules.proofs.rows.open_rules.Goals.{then-is_none+in_ok-push, else-is_none}

none_is : (o : Option Bool) → is_some o ≡ false → o ≡ None
none_is None h = refl
none_is (Some b) h = cc

pub loop-rule-preserved : goal.loop-rule-preserved
loop-rule-preserved c =
    let n = c.loop-rule.rule in
    let verdict = verdict_at c.args.known.now c.args.place in
    let there = verdict_there c.args.known.now c.args.place n _ c.row.result c.loop-rule-test.true c.row.ensures in
    elim c.if-is_none.branch [
      | then-is_none+in_ok-push w ↦
          let is = sym there ∙ none_is (get_or c.row.result c.args.place None) (c.is_none.ensures ∙ ap not w.if-is_none.true) in
          subst (AreOpen (n + 1) verdict) (sym (ap (λ v. v.items) w.rules-is ∙ w.in_ok-push.ensures.items)) (one_open n verdict c.loop-rule.rules.items c.loop-rule.invariant is)
      | else-is_none w ↦
          let is : IsSome (verdict n) = ap is_some (sym there) ∙ c.is_none.ensures ∙ ap not w.if-is_none.false in
          subst (λ (v : _). AreOpen (n + 1) verdict v.items) (sym w.rules-is) (one_decided n verdict c.loop-rule.rules.items c.loop-rule.invariant is)
    ]
