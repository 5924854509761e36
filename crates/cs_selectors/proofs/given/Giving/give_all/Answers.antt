use Rattle.std.proofs.Common.{rules, ◌≡◌, [], ◌∷◌, map, take, refl, sym, subst}
use Rattle.std.proofs.lemmas.List.{take_all}
use Rattle.std.specs.List.{flat_map}
use Rattle.cs_plain.proofs.Walks.{first_here, nothing_more, nothing_at_all}
use Rattle.cs_selectors.specs.Checks.{EndsAt, FailsAny, TellsGifts, use_view}
use Rattle.cs_selectors.specs.Given.{with_all}
use Rattle.cs_selectors.specs.Reached.{lack}
use Rattle.cs_selectors.specs.Selectors.{fault_of}
use Rattle.cs_selectors.specs.declared.lack.Stop.TheVariants.{Lacks}
use Rattle.cs_selectors.proofs.Found.{fails_first, lacking, lacking_nothing, given_more}
use Rattle.cs_selectors.proofs.given.Giving.give_all.Goals as goal

pub returns-in-Err-Lacks-clause-found : goal.returns-in-Err-Lacks-clause-found
returns-in-Err-Lacks-clause-found c all bs gs told =
    let xs = c.args.selectors.now in
    let i = c.loop-selector.selector-index in
    let x = c.selector-item.result in
    let inv = c.loop-selector.invariant all bs gs told in
    let before = with_all all bs gs (map use_view (take i xs)) in
    let same : c.in-Err-Lacks.field-0 ≡ Lacks c.in-Err-Lacks.lack = search rules in
    let here = subst (λ e. EndsAt e (lack bs (use_view x))) same (c.in-Err-Lacks.ensures.found all bs before inv.0) in
    fails_first _ (x.place, c.in-Err-Lacks.lack) (flat_map (fault_of bs) (map use_view xs))
    (subst (λ l. FailsAny c.fault_of.result ((x.place, l) ∷ [])) c.in-Err-Lacks.lack-is c.fault_of.ensures)
    (first_here (λ ys. flat_map (fault_of bs) (map use_view ys)) (λ u. fault_of bs (use_view u)) (λ u us. refl) xs i x c.loop-selector-test.true c.selector-item.is inv.1 _ (lacking bs (use_view x) c.in-Err-Lacks.lack here))

pub loop-selector-preserved : goal.loop-selector-preserved
loop-selector-preserved c all bs gs told =
    let xs = c.args.selectors.now in
    let i = c.loop-selector.selector-index in
    let x = c.selector-item.result in
    let inv = c.loop-selector.invariant all bs gs told in
    let before = with_all all bs gs (map use_view (take i xs)) in
    let none = lacking_nothing bs (use_view x) (c.in-Ok.ensures.found all bs before inv.0) in (
      subst (TellsGifts c.give.new.self all bs) (sym (given_more all bs gs xs i x c.loop-selector-test.true c.selector-item.is)) (c.in-Ok.ensures.given all bs before inv.0),
      nothing_more (λ ys. flat_map (fault_of bs) (map use_view ys)) (λ u. fault_of bs (use_view u)) (λ u us. refl) xs i x c.loop-selector-test.true c.selector-item.is inv.1 none,
    )

pub returns-clause-found : goal.returns-clause-found
returns-clause-found c all bs gs told =
    let inv = c.loop-selector.invariant all bs gs told in
    nothing_at_all (λ ys. flat_map (fault_of bs) (map use_view ys)) c.args.selectors.now c.loop-selector.selector-index refl c.loop-selector-test.false inv.1

pub returns-clause-given : goal.returns-clause-given
returns-clause-given c all bs gs told =
    let inv = c.loop-selector.invariant all bs gs told in
    subst (λ ys. TellsGifts c.loop-selector.self all bs (with_all all bs gs (map use_view ys))) (take_all c.loop-selector.selector-index c.args.selectors.now c.loop-selector-test.false) inv.0
