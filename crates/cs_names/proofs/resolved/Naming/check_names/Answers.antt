use Rattle.std.proofs.Common.{map, refl}
use Rattle.std.proofs.lemmas.Result.{err_from_is_err_and}
use Rattle.std.specs.List.{flat_map}
use Rattle.cs_grammar.specs.View.{name_view}
use Rattle.cs_names.specs.Flaws as Spec
use Rattle.cs_names.proofs.Found.{ends_here}
use Rattle.cs_plain.proofs.Walks.{nothing_more, nothing_at_all}
use Rattle.cs_names.proofs.resolved.Naming.check_names.Goals as goal

pub loop-name-init : goal.loop-name-init
loop-name-init c all ts every own tells told bound =
    refl

pub returns-in_err-check_top : goal.returns-in_err-check_top
returns-in_err-check_top c all ts every own tells told bound =
    let p = err_from_is_err_and c.from_residual.result c.from_residual.ensures.1 in
    rw (p.1, p.2) (ends_here (λ ys. flat_map (Spec.name_flaws ts c.args.self.now.file every own) (map name_view ys)) (λ n. Spec.name_flaws ts c.args.self.now.file every own (name_view n)) (λ n ns. refl) c.args.names.now c.loop-name.name-index c.name-item.result c.loop-name-test.true c.name-item.is (c.loop-name.invariant all ts every own tells told bound) _ (c.in_err-check_top.ensures all ts every own tells told bound))

pub loop-name-preserved : goal.loop-name-preserved
loop-name-preserved c all ts every own tells told bound =
    nothing_more (λ ys. flat_map (Spec.name_flaws ts c.args.self.now.file every own) (map name_view ys)) (λ n. Spec.name_flaws ts c.args.self.now.file every own (name_view n)) (λ n ns. refl) c.args.names.now c.loop-name.name-index c.name-item.result c.loop-name-test.true c.name-item.is (c.loop-name.invariant all ts every own tells told bound) (c.in_ok-check_top.ensures all ts every own tells told bound)

pub returns : goal.returns
returns c all ts every own tells told bound =
    nothing_at_all (λ ys. flat_map (Spec.name_flaws ts c.args.self.now.file every own) (map name_view ys)) c.args.names.now c.loop-name.name-index refl c.loop-name-test.false (c.loop-name.invariant all ts every own tells told bound)
