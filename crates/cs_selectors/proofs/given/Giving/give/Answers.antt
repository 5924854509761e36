use Rattle.std.proofs.Common.{is_some, map, sym, ap, subst, ◌∙◌}
use Rattle.cs_selectors.specs.Checks.{TellsGifts, use_view, lack_on, texts_at}
use Rattle.cs_selectors.specs.Given.{known, path}
use Rattle.cs_selectors.specs.Reached.{lack_in, texts, values_in}
use Rattle.cs_selectors.proofs.Found.{left_out, taken_in, known_well, given_there, given_new, unknown}
use Rattle.cs_selectors.proofs.Tables.{known_there}
use Rattle.cs_selectors.proofs.given.Giving.give.Goals as goal

pub returns-then-some_left_out-clause-found : goal.returns-then-some_left_out-clause-found
returns-then-some_left_out-clause-found c all bs gs told =
    let u = use_view c.args.selector.now in
    left_out bs u (sym c.some_left_out.ensures ∙ c.if-some_left_out.true)

pub returns-then-contains_key-clause-found : goal.returns-then-contains_key-clause-found
returns-then-contains_key-clause-found c all bs gs told =
    let u = use_view c.args.selector.now in
    let there = ap (λ p. is_some (known gs p)) (sym c.in_ok-path.ensures) ∙ ap (λ p. is_some (known gs (texts_at p))) (sym c.as_slice.ensures.value)
    ∙ known_there c.args.self.now all bs gs c.as_slice.result.now told c.contains_key.result c.contains_key.ensures ∙ c.if-contains_key.true in
    taken_in bs u (sym c.some_left_out.ensures ∙ c.if-some_left_out.false) ∙ known_well c.args.self.now all bs gs (path u) told there

pub returns-then-contains_key-clause-given : goal.returns-then-contains_key-clause-given
returns-then-contains_key-clause-given c all bs gs told =
    let u = use_view c.args.selector.now in
    let there = ap (λ p. is_some (known gs p)) (sym c.in_ok-path.ensures) ∙ ap (λ p. is_some (known gs (texts_at p))) (sym c.as_slice.ensures.value)
    ∙ known_there c.args.self.now all bs gs c.as_slice.result.now told c.contains_key.result c.contains_key.ensures ∙ c.if-contains_key.true in
    subst (TellsGifts c.args.self.now all bs) (sym (given_there all bs gs u there)) told

pub returns-clause-given : goal.returns-clause-given
returns-clause-given c all bs gs told =
    let u = use_view c.args.selector.now in
    let is = c.in_ok-path.ensures in
    let bodies = c.of_name-bodies.ensures bs told.bodies in
    let new = ap (λ q. is_some (known gs (texts_at q))) (sym c.as_slice.ensures.value)
    ∙ known_there c.args.self.now all bs gs c.as_slice.result.now told c.contains_key.result c.contains_key.ensures ∙ c.if-contains_key.false in
    let values = c.in_ok-values.ensures.1 ∙ ap (λ xs. values_in (map (λ b. b.value) xs) (texts u.labels)) bodies in
    let reached = ap (lack_on bs) is ∙ sym (ap (λ xs. lack_in (map (λ b. b.value) xs) (texts u.labels)) bodies) ∙ c.in_ok-values.ensures.0 in
    let there = c.in_ok-make.ensures all bs gs told is values (unknown (known gs (texts_at c.in_ok-path.path.items)) new) reached in
    subst (TellsGifts c.make.new.self all bs) (sym (given_new all bs gs u (ap (λ q. is_some (known gs q)) (sym is) ∙ new))) there
