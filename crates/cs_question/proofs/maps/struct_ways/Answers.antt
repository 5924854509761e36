use Rattle.std.proofs.Common.{◌≡◌, ℕ, Bool, false, true, ◌||◌, inl, inr, map, sym, ap, ◌∙◌, subst, true≢false, take_all, arith}
use Rattle.std.specs.List.{list_all, list_any}
use Rattle.std.proofs.lemmas.Bool.{and_cases}
use Rattle.cs_document.specs.Document.{Document, Entry, entries}
use Rattle.cs_package.specs.Expression.{Declaration}
use Rattle.cs_instance.specs.Constraint.{declaration_holds, allows}
use Rattle.cs_instance.specs.Steps.{field_of}
use Rattle.cs_question.specs.Spread.{SomeOf, AreTaken, spread_map}
use Rattle.cs_question.proofs.Some.{some_false, or_none}
use Rattle.cs_question.proofs.Loops.{some_then}
use Rattle.cs_question.proofs.maps.struct_ways.Goals as goal
use Rattle.cs_question.proofs.maps.struct_ways.Goals.{then-not-opened+in_ok-extra_ways, else-not-opened}

pub loop-field-preserved : goal.loop-field-preserved
loop-field-preserved c = λ J ms are h.
    let s = spread_map c.args.labels.now (entries ms) in
    some_then field_of c.deref-field-items.result.now c.loop-field.field-index (λ d. declaration_holds (λ y p. J c.args.literal.side p y) d (entries ms) ≡ false) _ c.loop-field-test.true (AreTaken J s c.field_ways.new.ways.items)
    (λ k. c.in_ok-field_ways.ensures.kept J s (c.loop-field.invariant J ms are k))
    (λ k. c.in_ok-field_ways.ensures.all J ms are k) h

pub returns : goal.returns
returns c = λ J ms are h.
    let s = spread_map c.args.labels.now (entries ms) in
    let ds = map field_of c.args.fields.now.all.items in
    let P : Declaration ℕ → Bool = λ d. declaration_holds (λ y p. J c.args.literal.side p y) d (entries ms) in
    let allowed = list_all (λ (m : Entry Document). list_any (λ d. allows d m.0) ds) (entries ms) in
    elim (and_cases (list_all P ds) (c.args.opened || allowed) h) [
      | inl k ↦
          let old = c.loop-field.invariant J ms are (subst (λ fs. SomeOf (λ d. P d ≡ false) (map field_of fs)) (sym (take_all c.loop-field.field-index c.deref-field-items.result.now (let e = c.loop-field-test.false in omega (arith, e)) ∙ c.deref-field-items.ensures.value)) (some_false P ds k)) in
          elim c.if-not-opened.branch [
            | then-not-opened+in_ok-extra_ways w ↦ subst (λ v. AreTaken J s v.items) (sym w.ways-is) (w.in_ok-extra_ways.ensures.kept J s old)
            | else-not-opened w ↦ subst (λ v. AreTaken J s v.items) (sym w.ways-is) old
          ]
      | inr k ↦
          let parts = or_none c.args.opened allowed k in
          elim c.if-not-opened.branch [
            | then-not-opened+in_ok-extra_ways w ↦ subst (λ v. AreTaken J s v.items) (sym w.ways-is) (w.in_ok-extra_ways.ensures.all J ms are parts.1)
            | else-not-opened w ↦ absurd (true≢false (sym w.if-not-opened.false ∙ parts.0))
          ]
    ]
