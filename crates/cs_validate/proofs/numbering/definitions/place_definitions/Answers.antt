use Rattle.std.proofs.Common.{take, take_all, is_some, sym, ap, ◌∙◌, subst}
use Rattle.std.specs.Prelude.{IsSome}
use Rattle.cs_document.specs.Document.{under}
use Rattle.cs_profile.specs.Numbered.{numbered}
use Rattle.cs_profile.specs.SchemaDocument.{document_of}
use Rattle.cs_profile.proofs.Definitions.{defined_definition}
use Rattle.cs_profile.proofs.Ranked.{number_declared}
use Rattle.cs_validate.specs.Ranked.{name_of, ArePlacedBy}
use Rattle.cs_validate.proofs.Ordered.{placed_more, known_here, ranked_here, one_taken}
use Rattle.cs_validate.proofs.numbering.definitions.place_definitions.Goals as goal

pub place_definition-requires : goal.place_definition-requires
place_definition-requires c =
    let l = c.loop-definition in
    let v = c.args.document.now in
    let d = c.definition-item.result in
    let n = name_of d in
    let here = ranked_here (document_of v) c.args.ranked.now c.requires l.definition-index d c.loop-definition-test.true c.definition-item.is in
    subst (λ ns. IsSome (under n (numbered 0 ns))) (sym l.invariant.names)
    (number_declared v n ∙ ap is_some (sym (defined_definition v c.whole_law.ensures.whole n) ∙ here.found))

pub loop-definition-preserved : goal.loop-definition-preserved
loop-definition-preserved c =
    let l = c.loop-definition in
    let R = document_of c.args.document.now in
    let ds = c.args.ranked.now in
    let i = l.definition-index in
    let d = c.definition-item.result in
    let within = c.loop-definition-test.true in
    let is = c.definition-item.is in
    let old = l.placement in
    let new = c.place_definition.new.placement in
    let one = c.in_ok-place_definition.ensures in
    let known = known_here R ds c.requires i d within is old l.invariant.placed in
    record {
      names = one.names ∙ l.invariant.names;
      placed = subst (λ xs. ArePlacedBy R xs new) (sym (one_taken R ds c.requires i d within is)) (placed_more R (take i ds) d old new (ranked_here R ds c.requires i d within is) known l.invariant.placed one);
    }

pub returns : goal.returns
returns c =
    let l = c.loop-definition in
    subst (λ ds. ArePlacedBy (document_of c.args.document.now) ds l.placement) (take_all l.definition-index c.args.ranked.now c.loop-definition-test.false) l.invariant.placed
