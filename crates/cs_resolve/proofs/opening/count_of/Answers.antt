use Rattle.std.proofs.Common.{◌≡◌, unwrap_or, sym, ap, ◌∙◌, subst}
use Rattle.std.specs.BTreeMap.{get_by}
use Rattle.std.specs.Cmp.Lexicographic.{slice_cmp}
use Rattle.std.specs.Ordering.{nat_cmp}
use Rattle.cs_resolve.specs.Opening.{one}
use Rattle.cs_resolve.specs.declared.opening.Count.TheVariants as count
use Rattle.cs_resolve.specs.Checks.{CountsAs, unplain}
use Rattle.cs_resolve.proofs.opening.count_of.Goals as goal

pub returns : goal.returns
returns c ns told =
    let t = c.args.name.now in
    let found : c.copied.result ≡ get_by (λ k. slice_cmp nat_cmp t k.now) c.args.repeats.now = c.copied.ensures ∙ c.get.ensures.value in
    subst (λ n. CountsAs n (unplain (one t) ns)) (sym (c.unwrap_or.ensures ∙ ap (λ o. unwrap_or o count.None) found)) (told t)
