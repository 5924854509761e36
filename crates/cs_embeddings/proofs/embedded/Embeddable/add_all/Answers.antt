use Rattle.std.proofs.Common.{take, refl, sym, ◌∙◌, subst}
use Rattle.std.proofs.lemmas.List.{take_all, take_more}
use Rattle.cs_embeddings.specs.Checks.{TellsBodies, TellsRounds}
use Rattle.cs_embeddings.proofs.Bodies.{named_declared, Named}
use Rattle.cs_embeddings.proofs.Steps.{round_done}
use Rattle.cs_embeddings.proofs.embedded.Embeddable.add_all.Goals as goal

pub loop-name-init : goal.loop-name-init
loop-name-init c = record { same = refl; tells = λ ds told rounds. rounds }

pub loop-name-preserved : goal.loop-name-preserved
loop-name-preserved c = record {
  same = c.in_ok-add.ensures.same ∙ c.loop-name.invariant.same;
  tells = λ ds told rounds.
      let xs = c.deref-name-items.result.now in
      let i = c.loop-name.name-index in
      let all = subst (λ ns. Named ns ds) (sym c.deref-name-items.ensures.value) told.named in
      let bodies = subst (λ b. TellsBodies b.now ds) (sym c.loop-name.invariant.same) told in
      let declared = named_declared xs ds i _ all c.loop-name-test.true in
      subst (λ ns. TellsRounds c.add.new.self ds c.args.steps ns) (sym (take_more xs i _ c.loop-name-test.true))
      (c.in_ok-add.ensures.tells ds (take i xs) bodies declared (c.loop-name.invariant.tells ds told rounds));
}

pub returns-in_err-add-clause-same : goal.returns-in_err-add-clause-same
returns-in_err-add-clause-same c = c.in_err-add.ensures.same ∙ c.loop-name.invariant.same

pub returns-clause-tells : goal.returns-clause-tells
returns-clause-tells c ds told rounds =
    let xs = c.deref-name-items.result.now in
    let i = c.loop-name.name-index in
    let names = c.args.self.now.bodies.now.names.items in
    let whole = take_all i xs c.loop-name-test.false ∙ c.deref-name-items.ensures.value in
    round_done ds c.loop-name.self.steps c.args.steps names told.named
    (subst (λ ns. TellsRounds c.loop-name.self ds c.args.steps ns) whole (c.loop-name.invariant.tells ds told rounds))
