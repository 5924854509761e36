use Rattle.std.proofs.Common.{refl, get_or, subst}
use Rattle.std.specs.List.{AllZip}
use Rattle.std.proofs.lemmas.List.{take_all}
use Rattle.cs_reasons.specs.declared.reasons.Reason.{Reason}
use Rattle.cs_validity_reasons.specs.PlacedTold.{IsNamed}
use Rattle.cs_validity_reasons.specs.Renamed.{IsReasonRenamed}
use Rattle.cs_validity_reasons.specs.Led.{PlacedCause}
use Rattle.cs_validity_reasons.specs.declared.cause.KeyedCause.TheVariants.{Reference}
use Rattle.cs_validity_reasons.proofs.Tells.{zip_more}
use Rattle.cs_validity_reasons.proofs.naming.Named.told.Goals as goal

pub loop-reason-preserved : goal.loop-reason-preserved
loop-reason-preserved c =
    let s = c.args.self.now in
    let says = IsNamed s.flat.now s.book.now.numbering.rules.items s.book.now.numbering.children.items in
    let none : Reason PlacedCause = record { link = 0; cause = Reference 0 0 } in
    let told = get_or c.args.told.now c.loop-reason.reason-index none in
    zip_more (IsReasonRenamed says c.args.links.now) c.args.told.now c.loop-reason.named.items c.push.new.self.items c.loop-reason.reason-index none _ c.loop-reason-test.true c.in_ok-push.ensures.items c.loop-reason.invariant
    record { link = refl; cause = subst (λ p. says p told.cause c.cause-cause.result) c.pair_of.ensures c.cause-cause.ensures }

pub returns : goal.returns
returns c =
    let s = c.args.self.now in
    let says = IsNamed s.flat.now s.book.now.numbering.rules.items s.book.now.numbering.children.items in
    subst (λ ts. AllZip (IsReasonRenamed says c.args.links.now) ts c.loop-reason.named.items) (take_all c.loop-reason.reason-index c.args.told.now c.loop-reason-test.false) c.loop-reason.invariant
