use Rattle.std.proofs.Common.{◌≡◌, [], refl, sym, ap, ◌∙◌, subst, add-one, arith}
use Rattle.cs_embeddings.specs.Alternatives.{most_steps}
use Rattle.cs_embeddings.specs.Checks.{TellsBodies, TellsRounds}
use Rattle.cs_embeddings.proofs.Steps.{round_none, round_tells}
use Rattle.cs_embeddings.proofs.embedded.Embeddable.of.Goals as goal

pub loop-steps-init : goal.loop-steps-init
loop-steps-init c = record { same = refl; tells = λ ds told. round_none ds c.new.result c.new.ensures.empty }

pub loop-steps-preserved : goal.loop-steps-preserved
loop-steps-preserved c = record {
  same = ap (λ b. b.now) c.in_ok-add_all.ensures.same ∙ c.loop-steps.invariant.same;
  tells = λ ds told.
      let bodies = subst (λ b. TellsBodies b ds) (sym c.loop-steps.invariant.same) told in
      subst (λ n. TellsRounds c.add_all.new.self ds n []) (sym (add-one c.loop-steps.steps)) (c.in_ok-add_all.ensures.tells ds bodies (c.loop-steps.invariant.tells ds told));
}

pub returns-clause-tells : goal.returns-clause-tells
returns-clause-tells c ds told =
    let all : c.loop-steps.steps ≡ most_steps = omega arith in
    round_tells ds c.loop-steps.embeddable most_steps [] (subst (λ n. TellsRounds c.loop-steps.embeddable ds n []) all (c.loop-steps.invariant.tells ds told))
