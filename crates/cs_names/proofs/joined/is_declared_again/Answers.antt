use Rattle.std.proofs.Common.{◌≡◌, true, false, cond, [], ◌∷◌, ◌++◌, sym, subst, ◌∙◌, IfOk}
use Rattle.cs_plain.specs.References.{TellsTexts}
use Rattle.cs_names.specs.Joined as Spec
use Rattle.cs_names.proofs.joined.is_declared_again.Goals as goal

pub returns-then-is_inner-clause-seen : goal.returns-then-is_inner-clause-seen
returns-then-is_inner-clause-seen c ss told =
    let inner : Spec.is_inner c.args.lifted.now.origin ≡ true = sym c.is_inner.ensures ∙ c.if-is_inner.true in
    let text = c.args.lifted.now.text.now in
    subst (λ x. IfOk c.is_again.result (λ b. b ≡ false → TellsTexts c.is_again.new.seen (ss ++ cond x (text ∷ []) []))) (sym inner) (c.is_again.ensures.seen ss told)
