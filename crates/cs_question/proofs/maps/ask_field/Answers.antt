use Rattle.std.proofs.Common.{ℕ, Bool, [], Some, sym, ◌∙◌}
use Rattle.std.proofs.lemmas.Result.{on_ok_weaker}
use Rattle.cs_document.specs.Document.{Document, under}
use Rattle.cs_instance.specs.Steps.{field_of}
use Rattle.cs_question.specs.Spread.{IsSuch, spread_map}
use Rattle.cs_question.proofs.Declared.{every_told, plain_told}
use Rattle.cs_question.proofs.Taken.{met_all, some_and}
use Rattle.cs_question.proofs.maps.ask_field.Goals as goal

pub loop-label-preserved : goal.loop-label-preserved
loop-label-preserved c = λ J n ms f h. c.in_ok-take.ensures J n (spread_map [] ms) (c.loop-label.invariant J n ms f h) (f _)

pub returns-then-is_for_every_key : goal.returns-then-is_for_every_key
returns-then-is_for_every_key c = λ J n ms holds held.
    let l = c.args.literal in
    let field = c.args.field.now in
    c.loop-label.invariant J n ms (λ k. met_all J l field.value c.part_of-value.result (under k ms) c.requires c.part_of-value.ensures (every_told (λ y p. J l.side p y) ms (field_of field) k (sym c.is_for_every_key.ensures ∙ c.if-is_for_every_key.true) holds)) held

pub returns-then-may_be_absent : goal.returns-then-may_be_absent
returns-then-may_be_absent c =
    let l = c.args.literal in
    let field = c.args.field.now in
    on_ok_weaker c.take-then-may_be_absent.result (λ f J n ms holds held.
    let told = plain_told (λ y p. J l.side p y) ms (field_of field) (sym c.is_for_every_key.ensures ∙ c.if-is_for_every_key.false) holds in
    f J n (spread_map [] ms) held (met_all J l field.value c.part_of-value.result (under field.label.now ms) c.requires c.part_of-value.ensures told.0))
    c.take-then-may_be_absent.ensures

pub returns : goal.returns
returns c =
    let l = c.args.literal in
    let field = c.args.field.now in
    on_ok_weaker c.take-2.result (λ f J n ms holds held.
    let o = under field.label.now ms in
    let told = plain_told (λ y p. J l.side p y) ms (field_of field) (sym c.is_for_every_key.ensures ∙ c.if-is_for_every_key.false) holds in
    f J n (spread_map [] ms) held
    (some_and (IsSuch J (Some c.part_of-value.result)) o (told.1 (sym c.may_be_absent.ensures ∙ c.if-may_be_absent.false)) (met_all J l field.value c.part_of-value.result o c.requires c.part_of-value.ensures told.0)))
    c.take-2.ensures
