use Rattle.std.proofs.Common.{take, take_all, sym, subst}
use Rattle.cs_instance.specs.Ranked.{ArePlacedBy, names_in}
use Rattle.cs_instance.proofs.Ordered.{back_here, names_more}
use Rattle.cs_instance.proofs.numbering.definitions.place_definitions.Goals as goal

pub loop-definition-preserved : goal.loop-definition-preserved
loop-definition-preserved c =
    let l = c.loop-definition in
    let E = c.args.«package».now in
    let ds = c.args.ranked.now in
    let at = l.definition-index in
    let within = c.loop-definition-test.true in
    subst (λ ms. ArePlacedBy E ms c.place_definition.new.placement) (sym (names_more E ds c.requires at within))
    (c.in_ok-place_definition.ensures (names_in E (take at ds)) l.invariant (back_here E ds c.requires at within))

pub returns : goal.returns
returns c =
    let l = c.loop-definition in
    let E = c.args.«package».now in
    subst (λ ds. ArePlacedBy E (names_in E ds) l.placement) (take_all l.definition-index c.args.ranked.now c.loop-definition-test.false) l.invariant
