use Rattle.std.proofs.Common.{sym, ◌∙◌}
use Rattle.cs_syntax.proofs.Declared.{in_all, one_more, none_more}
use Rattle.cs_syntax.proofs.parser.literal.fields_among.Goals as goal

pub loop-declaration-preserved : goal.loop-declaration-preserved
loop-declaration-preserved c = none_more c.loop-declaration.fields.items c.in-Some.declaration c.next.new.self.rest.items c.loop-declaration.declaration-iterator.rest.items c.in-Some.ensures.steps.0 (rw c.in_default.is at c.into_field.ensures) c.loop-declaration.invariant

pub loop-declaration-preserved-in-Continue-1 : goal.loop-declaration-preserved-in-Continue-1
loop-declaration-preserved-in-Continue-1 c = rw c.in_ok-push.ensures.items (one_more c.loop-declaration.fields.items c.in-Some-into_field.field c.in-Some.declaration c.next.new.self.rest.items c.loop-declaration.declaration-iterator.rest.items c.in-Some.ensures.steps.0 (rw c.in-Some-into_field.is at c.into_field.ensures) c.loop-declaration.invariant)

pub returns : goal.returns
returns c fs = in_all c.loop-declaration.fields.items c.loop-declaration.declaration-iterator.rest.items c.args.declarations.items fs (sym c.in-None.ensures.steps.0 ∙ c.loop-declaration.declaration-iterator.rest.ok.0) c.loop-declaration.invariant
