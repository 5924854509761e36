use Rattle.std.proofs.Common.{◌≡◌, ℕ, [], Bool, true, map, sym, ap, ◌∙◌, subst, take_all}
use Rattle.std.specs.List.{list_all}
use Rattle.cs_package.specs.Expression.{Declaration}
use Rattle.cs_instance.specs.Constraint.{declaration_holds}
use Rattle.cs_instance.specs.Steps.{field_of}
use Rattle.cs_question.specs.Asked.{meets}
use Rattle.cs_question.specs.declared.places.Demands.{Demands}
use Rattle.cs_question.specs.Spread.{HoldsPlaces, IsFurther, spread_map}
use Rattle.cs_question.proofs.Declared.{every_met}
use Rattle.cs_question.proofs.Loops.{all_front, all_last}
use Rattle.cs_question.proofs.maps.ask_fields.Goals as goal
use Rattle.cs_question.proofs.maps.ask_fields.Goals.{then-is_for_every_key+in_ok-add, else-is_for_every_key}

pub loop-field-preserved : goal.loop-field-preserved
loop-field-preserved c = record {
  rules = elim c.if-is_for_every_key.branch [
    | then-is_for_every_key+in_ok-add w ↦ ap (λ (d : Demands). d.rules) w.demands-is ∙ c.loop-field.invariant.rules
    | else-is_for_every_key w ↦ ap (λ (d : Demands). d.rules) w.demands-is ∙ c.loop-field.invariant.rules
  ];
  places = λ J n ms h held.
      let f : Declaration ℕ → Bool = λ d. declaration_holds (λ y p. J c.args.literal.side p y) d ms in
      let put = c.in_ok-ask_field.ensures J n ms (all_last field_of c.args.fields.now c.loop-field.field-index f _ c.loop-field-test.true h)
      (c.loop-field.invariant.places J n ms (all_front field_of c.args.fields.now c.loop-field.field-index f h) held) in
      elim c.if-is_for_every_key.branch [
        | then-is_for_every_key+in_ok-add w ↦ subst (λ (d : Demands). HoldsPlaces J n (spread_map [] ms) d.places.items) (sym w.demands-is) put
        | else-is_for_every_key w ↦ subst (λ (d : Demands). HoldsPlaces J n (spread_map [] ms) d.places.items) (sym w.demands-is) put
      ];
  further = λ J n ms m h there held.
      let f : Declaration ℕ → Bool = λ d. declaration_holds (λ y p. J c.args.literal.side p y) d ms in
      let old = c.loop-field.invariant.further J n ms m (all_front field_of c.args.fields.now c.loop-field.field-index f h) there held in
      elim c.if-is_for_every_key.branch [
        | then-is_for_every_key+in_ok-add w ↦ subst (λ (d : Demands). IsFurther J n d.further m.1) (sym w.demands-is) (old.0, old.1, w.in_ok-add.ensures (meets J m.1) old.2 (every_met J c.args.literal w.part_of.result _ ms m c.requires w.part_of.ensures (sym c.is_for_every_key.ensures ∙ w.if-is_for_every_key.true) (all_last field_of c.args.fields.now c.loop-field.field-index f _ c.loop-field-test.true h) there))
        | else-is_for_every_key w ↦ subst (λ (d : Demands). IsFurther J n d.further m.1) (sym w.demands-is) old
      ];
}

pub returns-clause-places : goal.returns-clause-places
returns-clause-places c = λ J n ms h held.
    c.loop-field.invariant.places J n ms (ap (λ fs. list_all (λ d. declaration_holds (λ y p. J c.args.literal.side p y) d ms) (map field_of fs)) (take_all c.loop-field.field-index c.args.fields.now c.loop-field-test.false) ∙ h) held

pub returns-clause-further : goal.returns-clause-further
returns-clause-further c = λ J n ms m h there held.
    c.loop-field.invariant.further J n ms m (ap (λ fs. list_all (λ d. declaration_holds (λ y p. J c.args.literal.side p y) d ms) (map field_of fs)) (take_all c.loop-field.field-index c.args.fields.now c.loop-field-test.false) ∙ h) there held
