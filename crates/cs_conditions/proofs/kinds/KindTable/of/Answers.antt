use Rattle.std.proofs.Common.{◌≡◌, map, sym, subst, add-one, arith}
use Rattle.std.specs.List.{flat_map}
use Rattle.cs_grammar.specs.Tree.{definitions}
use Rattle.cs_grammar.specs.View.{file_view}
use Rattle.cs_conditions.specs.Checks.{TellsKinds}
use Rattle.cs_conditions.specs.Kinds.{kinds_within}
use Rattle.cs_conditions.specs.Known.{most_passed}
use Rattle.cs_conditions.proofs.kinds.KindTable.of.Goals as goal

pub loop-passed-preserved : goal.loop-passed-preserved
loop-passed-preserved c =
    let ds = flat_map definitions (map file_view c.args.files.now) in
    subst (λ n. TellsKinds c.in_ok-known.known (kinds_within ds n)) (sym (add-one c.loop-passed.passed))
    (c.in_ok-known.ensures (kinds_within ds c.loop-passed.passed) c.loop-passed.invariant)

pub returns : goal.returns
returns c =
    let all : c.loop-passed.passed ≡ most_passed = omega arith in
    subst (λ n. TellsKinds c.loop-passed.known (kinds_within (flat_map definitions (map file_view c.args.files.now)) n)) all c.loop-passed.invariant
