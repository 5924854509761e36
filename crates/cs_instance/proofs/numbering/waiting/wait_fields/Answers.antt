use Rattle.std.proofs.Common.{◌≡◌, ℕ, ◌+◌, ◌<◌, List, [], ◌∷◌, ◌++◌, map, length, take, refl, sym, ap, ◌∙◌, subst, append-nil, take_all}
use Rattle.std.specs.List.{AllByRecursion as Each}
use Rattle.std.proofs.lemmas.List.{map-append}
use Rattle.cs_package.specs.Expression.{Expression, Declaration}
use Rattle.cs_package.specs.View.{mark_of, part_of}
use Rattle.cs_instance.specs.Numbering.{map_declaration}
use Rattle.cs_instance.specs.Steps.{field_of}
use Rattle.cs_instance.specs.Placing.{waiting, values_of, expression_at, FieldsWait}
use Rattle.cs_instance.proofs.Views.{label_is, mark_is, value_is}
use Rattle.cs_instance.proofs.Places.{waits_push, fields_push, below_push, take_at, longer_one, declaration_is}
use Rattle.cs_instance.proofs.numbering.waiting.wait_fields.Goals as goal

pub loop-part-init : goal.loop-part-init
loop-part-init c =
    let n = c.args.numberer.now in
    let none : FieldsWait [] n n [] = record { rules = refl; waits = λ names. sym (append-nil (waiting names n)); are = λ names. refl; below = tt } in
    subst (FieldsWait [] n n) (sym c.in_ok-fields.ensures.items) none

pub loop-part-preserved : goal.loop-part-preserved
loop-part-preserved c =
    let l = c.loop-part in
    let old = l.numberer in
    let new = c.wait.new.self in
    let ps = take l.part-index c.args.parts.now in
    let p = c.part-item.result in
    let wait = c.in_ok-value.ensures in
    let grown = wait.place.1 in
    let more : take (l.part-index + 1) c.args.parts.now ≡ ps ++ p ∷ [] = take_at c.args.parts.now l.part-index p c.loop-part-test.true c.part-item.is in
    let parts = λ (names : List (List ℕ)). ap (map (part_of names)) more ∙ map-append (part_of names) ps (p ∷ []) in
    let value = λ (names : List (List ℕ)). value_is names p in
    let all = λ (names : List (List ℕ)). let qs = map (part_of names) ps in ap values_of (parts names) ∙ map-append (λ (d : Declaration Expression). d.value) qs (part_of names p ∷ []) ∙ ap (λ v. values_of qs ++ v ∷ []) (value names) in
    let fs = map field_of l.fields.items in
    let d : Declaration ℕ = record { label = c.as_str.result.now; mark = mark_of p.mark; value = c.in_ok-value.value } in
    let put : map field_of c.push.new.self.items ≡ fs ++ d ∷ [] = ap (map field_of) c.in_ok-push.ensures.items ∙ map-append field_of l.fields.items (_ ∷ []) in record {
      rules = wait.rules ∙ l.invariant.rules;
      waits = λ names. let first = waiting names c.args.numberer.now in waits_push names old new _ grown first (values_of (map (part_of names) ps)) (l.invariant.waits names) ∙ ap (λ es. first ++ es) (sym (all names));
      are = λ names.
          ap (map (map_declaration (expression_at (waiting names new)))) put
          ∙ fields_push names old new _ grown fs (map (part_of names) ps) d (part_of names p) l.invariant.below (l.invariant.are names) wait.place.0
          (declaration_is _ _ _ _ _ _ (c.as_str.ensures.value ∙ sym (label_is names p)) (sym (mark_is names p)) (sym (value names)))
          ∙ sym (parts names);
      below =
          let n = length new.pending.items in
          subst (Each (λ (q : Declaration ℕ). q.value < n)) (sym put) (below_push (λ (q : Declaration ℕ). q.value) (length old.pending.items) n fs d (longer_one old.pending.items new.pending.items _ grown) l.invariant.below wait.place.0);
    }

pub returns : goal.returns
returns c = subst (λ xs. FieldsWait xs c.args.numberer.now c.loop-part.numberer c.loop-part.fields.items) (take_all c.loop-part.part-index c.args.parts.now c.loop-part-test.false) c.loop-part.invariant
