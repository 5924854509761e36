use Rattle.std.proofs.Common.{subst}
use Rattle.cs_package.specs.Environment.{Environment}
use Rattle.cs_guard.specs.Ranks.{AreRanks}
use Rattle.cs_guard.proofs.Chains.{has-height, height-above}
use Rattle.cs_guard.proofs.guarded.Guarded.rank.Goals as goal

pub returns-clause-falls : goal.returns-clause-falls
returns-clause-falls c =
    let E = c.args.self.now in
    let ranks = c.self.inside.ranks.items in
    let P : Environment → Type 0 = λ F. AreRanks F ranks in
    let are = subst P c.self.view_is c.self.invariant in
    height-above E c.args.i c.index.result.now (has-height E c.args.i ranks are c.index.result.now c.requires c.index.ensures)
