use Rattle.std.proofs.Common.{◌≡◌, Bool, true, false, refl, sym, ◌∙◌, subst, arith}
use Rattle.std.specs.Bool.{then_some}
use Rattle.std.specs.Option.{IfSome}
use Rattle.std.proofs.lemmas.Grind.{common_steps}
use Rattle.cs_document.specs.Document.{Document}
use Rattle.cs_question.specs.Asked.{meets, meets_all}
use Rattle.cs_question.specs.Nodes.{Judgement, IsMeaning}
use Rattle.cs_question.proofs.Some.{all_placed}
use Rattle.cs_question.proofs.Loops.{item_some}
use Rattle.cs_question.proofs.Said.{opposite}
use Rattle.cs_question.proofs.cases.alike.Goals as goal
use Rattle.cs_question.proofs.cases.alike.Goals.{then-other-literal, else-other-literal}

-- what is so where a value is given
where_given : {X : Type 0} (b : Bool) (x : X) (P : Type 0) → (b ≡ true → P) → IfSome (then_some b x) (λ _. P)
where_given true x P f = f refl
where_given false x P f = tt

pub returns : goal.returns
returns c =
    let node = c.in_ok-node.node.now in
    let other = c.in_ok-other.other.now in
    let rule = c.in_ok-rule.rule.now in
    let place = c.in_ok-place.place.now in
    let P : Type 0 = (J : Judgement) (x : Document) → IsMeaning c.args.nodes.now J → meets_all J x c.args.asked.now ≡ true → meets J x c.args.literal ≡ true → ⊥ in
    subst (λ o. IfSome o (λ _. P)) (sym c.then_some.ensures) (where_given c.if-other-literal.then_some other P (λ given. elim c.if-other-literal.branch [
      | then-other-literal w ↦ λ J x means met here.
          let differ = w.if-other-literal.true in
          opposite c.args.nodes.now J means x c.args.literal other node rule c.in_ok-node.ensures c.in_ok-rule.ensures (w.are_alike.ensures (sym w.then_some-is ∙ given)) (λ same. grind (arith, common_steps)) here
          (all_placed (meets J x) c.args.asked.now place other met (item_some c.args.asked.now place c.in_ok-other.other c.in_ok-other.ensures.lookup))
      | else-other-literal w ↦ absurd (let told = sym w.then_some-is ∙ given in let same = w.if-other-literal.false in grind (arith, common_steps))
    ]))
