use Rattle.std.proofs.Common.{◌≡◌, ◌≤◌, ◌<◌, true, length, [], ◌∷◌, None, is_some, inl, sym, ap, ◌∙◌, subst, arith}
use Rattle.std.specs.List.{AllByRecursion as Each}
use Rattle.cs_document.specs.Document.{list, elements}
use Rattle.cs_document.proofs.Each.{each_append}
use Rattle.cs_question.specs.declared.places.Demands.{Demands}
use Rattle.cs_question.specs.Elements.{IsOfLength}
use Rattle.cs_question.specs.Spread.{HoldsPlaces, HoldsFurther, IsFurther, IsSuch, AreTaken, spread_list}
use Rattle.cs_question.specs.Truth.{IsInner}
use Rattle.cs_question.proofs.Listed.{inner_elements, dropped_all, each_dropped, each_got, some_dropped, there}
use Rattle.cs_question.proofs.lists.list_of_length.Goals as goal
use Rattle.cs_question.proofs.lists.list_of_length.Goals.{then-is_longer+in_ok-ways+in_ok-push, else-is_longer}

pub returns : goal.returns
returns c = λ e ended t m ds are l size h.
    let s = spread_list c.args.count (elements ds) in
    let inner = inner_elements t.n ds are l in
    let none = c.in_ok-chosen.ensures (sym c.map.ensures.variant ∙ e) ended t s in
    elim c.if-is_longer.branch [
      | then-is_longer+in_ok-ways+in_ok-push w ↦
          let more : c.args.count < length (elements ds) = subst (λ b. IsOfLength b c.args.count (length (elements ds))) w.if-is_longer.true size in
          let long : c.args.count ≤ length (elements ds) = omega (arith, more) in
          let last = there (elements ds) c.args.count more in
          let behind : AreTaken t.J s w.in_ok-ways.ways.items = subst (AreTaken t.J s) (sym w.in_ok-ways.ensures.items) (inl (some_dropped (IsSuch t.J None) (elements ds) c.args.count c.args.count last.0 (omega arith) last.1 tt)) in
          none
          (subst (λ (d : Demands). HoldsPlaces t.J t.n s d.places.items) (sym w.demands-is) (c.in_ok-places_of.ensures t.J t.n ds m h inner long))
          (subst (λ (d : Demands). HoldsFurther t.J t.n s d.further) (sym w.demands-is) (each_dropped (IsFurther t.J t.n c.in_ok-asked_at.field-0) (elements ds) c.args.count (λ i y k got. c.in_ok-asked_at.ensures t.J t.n i ds y m h k got (each_got (IsInner t.n) (elements ds) i y inner got))))
          (subst (λ (d : Demands). Each (λ v. AreTaken t.J s v.items) d.rules.items) (sym w.demands-is) (subst (Each (λ v. AreTaken t.J s v.items)) (sym w.in_ok-push.ensures.items) (each_append (λ v. AreTaken t.J s v.items) c.in_ok-rules_of.field-0.items (w.in_ok-ways.ways ∷ []) (c.in_ok-rules_of.ensures t.J ds m h long) (behind, tt))))
      | else-is_longer w ↦
          let exact : length (elements ds) ≡ c.args.count = subst (λ b. IsOfLength b c.args.count (length (elements ds))) w.if-is_longer.false size in
          let long : c.args.count ≤ length (elements ds) = omega (arith, exact) in
          none
          (subst (λ (d : Demands). HoldsPlaces t.J t.n s d.places.items) (sym w.demands-is) (c.in_ok-places_of.ensures t.J t.n ds m h inner long))
          (subst (λ (d : Demands). HoldsFurther t.J t.n s d.further) (sym w.demands-is) (subst (Each _) (sym (dropped_all (elements ds) c.args.count exact)) tt))
          (subst (λ (d : Demands). Each (λ v. AreTaken t.J s v.items) d.rules.items) (sym w.demands-is) (c.in_ok-rules_of.ensures t.J ds m h long))
    ]
