use Rattle.std.proofs.Common.{◌≡◌, length, subst, arith}
use Rattle.std.specs.List.{AllByRecursion}
use Rattle.cs_package.proofs.Environments.{table-empty}
use Rattle.cs_package.specs.View.{names_of}
use Rattle.cs_variants.specs.Sound.{IsSound}
use Rattle.cs_variants.proofs.Sounds.{bodies_known, bodies_joined}
use Rattle.cs_variants.proofs.walks.Walk.guarded.Goals as goal

pub loop-definition-init : goal.loop-definition-init
loop-definition-init c = table-empty c.new-names.result.entries c.new-names.ensures.empty

pub package_of-requires : goal.package_of-requires
package_of-requires c =
    let es = c.loop-definition.names.entries in
    let vs = c.args.bodies.items in
    let sound = subst (AllByRecursion (λ v. AllByRecursion (IsSound c.len-count.result) v.items)) c.deref.ensures.value (c.are_all_sound.ensures c.if-not-are_all_sound.false) in
    let many : c.len-count.result ≡ length es = c.len-count.ensures.len in
    let each = subst (λ n. AllByRecursion (λ v. AllByRecursion (IsSound n) v.items) vs) many sound in
    record {
      long = let same = c.if-count-len.false in omega (arith, same, many);
      table = c.loop-definition.invariant;
      known = bodies_known (length es) vs each;
      joined = bodies_joined (length es) (names_of es) vs each;
    }
