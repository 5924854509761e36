use Rattle.std.proofs.Common.{◌≡◌, ◌<◌, ⊎_elim, Some, Vec, Global, ℕ, length, sym, subst, ap, ◌∙◌, arith}
use Rattle.std.specs.Prelude.{slice_get}
use Rattle.std.proofs.lemmas.List.{length_push}
use Rattle.cs_rules.specs.Rows.{verdict_at, AreOpen}
use Rattle.cs_rules.proofs.Lists.{got_push}
use Rattle.cs_rules.proofs.rows.open_by_kind.Goals as goal

pub loop-place-preserved : goal.loop-place-preserved
loop-place-preserved c =
    let ks = c.args.known.now in
    let left = c.loop-place.left.items in
    let rules = c.in_ok-rules.rules in
    record {
      count = omega (arith, ap length c.in_ok-push.ensures.items, length_push left rules, c.loop-place.invariant.count);
      each = λ p v there.
          ⊎_elim (λ (a : (p < length left) × (slice_get left p ≡ Some v)). c.loop-place.invariant.each p v a.1)
          (λ (a : (p ≡ length left) × (rules ≡ v)).
          subst (λ (u : Vec ℕ Global). AreOpen (length ks) (verdict_at ks p) u.items) a.1
          (subst (λ q. AreOpen (length ks) (verdict_at ks q) rules.items) (sym (a.0 ∙ c.loop-place.invariant.count)) c.in_ok-rules.ensures))
          (got_push left rules v p (sym (ap (λ vs. slice_get vs p) c.in_ok-push.ensures.items) ∙ there));
    }
