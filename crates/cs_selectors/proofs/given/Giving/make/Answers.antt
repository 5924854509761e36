use Rattle.std.proofs.Common.{[], ◌∷◌, ◌++◌, refl, ap, subst, ◌∙◌}
use Rattle.cs_names.specs.Lifted.{free}
use Rattle.cs_selectors.specs.Checks.{TellsGifts, use_view}
use Rattle.cs_selectors.specs.Given.{is_given, is_taken, path}
use Rattle.cs_selectors.proofs.Found.{on_ok, same_given}
use Rattle.cs_selectors.proofs.Tables.{named_again}
use Rattle.cs_selectors.proofs.given.Giving.make.Goals as goal

pub returns : goal.returns
returns c = on_ok c.add.result c.add.ensures (λ added all bs gs told at values new reached.
    let u = use_view c.args.selector.now in
    let kept = c.in_ok-name.ensures.kept all (is_given gs) told.names in
    let free_now = c.in_ok-name.ensures.apart all (is_given gs) told.names in
    let named = c.in_ok-name.ensures.found all (is_given gs) told.names ∙ ap (free (is_taken all gs)) c.in_ok-wanted.ensures in
    let same = same_given _ (path u) _ _ u.place _ _ at named values in
    subst (λ g. TellsGifts c.add.new.self all bs (gs ++ g ∷ [])) same (added all bs gs (named_again c.args.self.now _ all bs gs told kept refl refl refl) new free_now reached))
