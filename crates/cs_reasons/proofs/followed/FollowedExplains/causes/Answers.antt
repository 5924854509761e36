use Rattle.std.proofs.Common.{◌≡◌, true, false, ◌++◌, ◌∷◌, [], filter, inl, inr, sym, subst, ap, ◌∙◌, rules}
use Rattle.std.proofs.lemmas.Fn.{filter_same}
use Rattle.cs_reasons.specs.Followed.{is_followed, HasAlternative}
use Rattle.cs_reasons.specs.Marked.{marked}
use Rattle.cs_reasons.specs.Reasons.{AreCauses, IsFollowed}
use Rattle.cs_reasons.proofs.Follows.{left_followed, none_told}
use Rattle.cs_reasons.proofs.followed.FollowedExplains.causes.Goals as goal
use Rattle.cs_reasons.proofs.followed.FollowedExplains.causes.Goals.{else-any-via-then-any+else-not-has_alternative, else-any-via-else-any}

pub returns-in_ok-push : goal.returns-in_ok-push
returns-in_ok-push g c =
    let graph = c.args.self.now.graph.now in
    let chosen = marked c.args.self.now.chosen.now in
    let L = g.G.Cause.Cause.leads_to in
    let A = g.G.Cause.Cause.is_alternative in
    let cs = c.causes.new.found.items in
    let same : c.retain.new.self.items ≡ filter (is_followed L A chosen) cs = filter_same _ (is_followed L A chosen) _ (λ x b f called. search rules) cs c.retain.new.self.items c.retain.ensures.filtered in
    let any = subst (λ xs. HasAlternative L A xs true) c.deref.ensures.value (subst (λ b. HasAlternative L A c.deref.result.now b) c.if-any.true c.has_alternative-any.ensures) in
    let gone = subst (λ xs. HasAlternative L A xs false) (c.deref-then-any.ensures.value ∙ same) (subst (λ b. HasAlternative L A c.deref-then-any.result.now b) c.if-not-has_alternative.true c.has_alternative.ensures) in
    subst (AreCauses (IsFollowed L (g.G.Explains.is_cause graph) A (g.G.Chooses.none graph) chosen c.args.item c.args.rule))
    (sym (c.in_ok-push.ensures.items ∙ ap (λ xs. xs ++ c.none.result ∷ []) same ∙ ap (λ n. filter (is_followed L A chosen) cs ++ n ∷ []) c.none.ensures))
    (none_told L A (g.G.Explains.is_cause graph) (g.G.Chooses.none graph) chosen c.args.item c.args.rule (g.met.G.Chooses.none_is_other graph c.args.item c.args.rule) cs c.in_ok-causes.ensures any gone)

pub returns-else-any : goal.returns-else-any
returns-else-any g c =
    let graph = c.args.self.now.graph.now in
    let chosen = marked c.args.self.now.chosen.now in
    let L = g.G.Cause.Cause.leads_to in
    let A = g.G.Cause.Cause.is_alternative in
    let cs = c.causes.new.found.items in
    let same : c.retain.new.self.items ≡ filter (is_followed L A chosen) cs = filter_same _ (is_followed L A chosen) _ (λ x b f called. search rules) cs c.retain.new.self.items c.retain.ensures.filtered in
    subst (AreCauses (IsFollowed L (g.G.Explains.is_cause graph) A (g.G.Chooses.none graph) chosen c.args.item c.args.rule)) (sym same)
    (left_followed L A (g.G.Explains.is_cause graph) (g.G.Chooses.none graph) chosen c.args.item c.args.rule (g.met.G.Chooses.none_is_other graph c.args.item c.args.rule) cs c.in_ok-causes.ensures
    (elim c.else-any.branch [
      | else-any-via-then-any+else-not-has_alternative w ↦ inr (subst (λ xs. HasAlternative L A xs true) (w.deref-then-any.ensures.value ∙ same) (subst (λ b. HasAlternative L A w.deref-then-any.result.now b) w.if-not-has_alternative.false w.has_alternative.ensures))
      | else-any-via-else-any w ↦ inl (subst (λ xs. HasAlternative L A xs false) c.deref.ensures.value (subst (λ b. HasAlternative L A c.deref.result.now b) w.if-any.false c.has_alternative-any.ensures))
    ]))
