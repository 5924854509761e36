use Rattle.std.proofs.Common.{◌≡◌, ℕ, Bool, false, true, true≢false, ◌||◌, Some, [], ◌∷◌, map, sym, ap, ◌∙◌, subst}
use Rattle.std.specs.List.{list_all, list_any, AllByRecursion as Each}
use Rattle.std.proofs.lemmas.Bool.{and_parts}
use Rattle.std.proofs.lemmas.Result.{on_ok_weaker}
use Rattle.cs_document.specs.Document.{Document, Entry, entries}
use Rattle.cs_document.proofs.Each.{each_append}
use Rattle.cs_package.specs.Expression.{Declaration}
use Rattle.cs_instance.specs.Constraint.{declaration_holds, allows}
use Rattle.cs_instance.specs.Steps.{field_of}
use Rattle.cs_question.specs.declared.places.Demands.{Demands}
use Rattle.cs_question.specs.Spread.{HoldsPlaces, IsFurther, AreTaken, spread_map}
use Rattle.cs_question.proofs.Some.{or_false, all_contained}
use Rattle.cs_question.proofs.Unfolded.{struct_is}
use Rattle.cs_question.proofs.maps.ask_rule.Goals as goal
use Rattle.cs_question.proofs.maps.ask_rule.Goals.{then-not-opened+in_ok-bar_others+then-are_all_among, then-not-opened+in_ok-bar_others+else-are_all_among, else-not-opened}

pub returns-then-not-literal-clause-rules : goal.returns-then-not-literal-clause-rules
returns-then-not-literal-clause-rules c = λ J ms m are met before.
    let f = c.in-Some-Struct in
    let s = spread_map c.args.labels.now (entries ms) in
    let h = struct_is c.args.nodes.now J m c.args.literal false c.if-not-literal.true f.fields f.opened ms (f.ensures ∙ ap Some f.field-0-is) met in
    let one = c.in_ok-ways.ensures J ms are h in
    subst (Each (λ w. AreTaken J s w.items)) (sym c.in_ok-push.ensures.items) (each_append (λ w. AreTaken J s w.items) c.args.demands.now.rules.items (c.in_ok-ways.ways ∷ []) before (one, tt))

pub returns-clause-places : goal.returns-clause-places
returns-clause-places c =
    let s = c.in-Some-Struct in
    on_ok_weaker c.ask_fields.result (λ f J n ms m met held.
    let ds = map field_of s.fields.all.items in
    let P : Declaration ℕ → Bool = λ d. declaration_holds (λ y p. J c.args.literal.side p y) d (entries ms) in
    let allowed = list_all (λ (e : Entry Document). list_any (λ d. allows d e.0) ds) (entries ms) in
    let parts = and_parts (list_all P ds) (s.opened || allowed) (struct_is c.args.nodes.now J m c.args.literal true c.if-not-literal.false s.fields s.opened ms (s.ensures ∙ ap Some s.field-0-is) met) in
    f J n (entries ms) (ap (λ fs. list_all P (map field_of fs)) c.deref-2.ensures.value ∙ parts.0)
    (elim c.if-not-opened.branch [
      | then-not-opened+in_ok-bar_others+then-are_all_among w ↦ subst (λ (d : Demands). HoldsPlaces J n (spread_map [] (entries ms)) d.places.items) (sym w.demands-is) (w.in_ok-bar_others.ensures J n (entries ms) (or_false s.opened allowed w.if-not-opened.true parts.1) held)
      | then-not-opened+in_ok-bar_others+else-are_all_among w ↦ subst (λ (d : Demands). HoldsPlaces J n (spread_map [] (entries ms)) d.places.items) (sym w.demands-is) (w.in_ok-bar_others.ensures J n (entries ms) (or_false s.opened allowed w.if-not-opened.true parts.1) held)
      | else-not-opened w ↦ subst (λ (d : Demands). HoldsPlaces J n (spread_map [] (entries ms)) d.places.items) (sym w.demands-is) held
    ]))
    c.ask_fields.ensures.places

pub returns-clause-further : goal.returns-clause-further
returns-clause-further c =
    let s = c.in-Some-Struct in
    on_ok_weaker c.ask_fields.result (λ f J n ms e m met there other held.
    let ds = map field_of s.fields.all.items in
    let P : Declaration ℕ → Bool = λ d. declaration_holds (λ y p. J c.args.literal.side p y) d (entries ms) in
    let A : Entry Document → Bool = λ (k : Entry Document). list_any (λ d. allows d k.0) ds in
    let parts = and_parts (list_all P ds) (s.opened || list_all A (entries ms)) (struct_is c.args.nodes.now J m c.args.literal true c.if-not-literal.false s.fields s.opened ms (s.ensures ∙ ap Some s.field-0-is) met) in
    f J n (entries ms) e (ap (λ fs. list_all P (map field_of fs)) c.deref-2.ensures.value ∙ parts.0) there
    (elim c.if-not-opened.branch [
      | then-not-opened+in_ok-bar_others+then-are_all_among w ↦ absurd (true≢false (sym (w.are_all_among.ensures w.if-are_all_among.true e.0 (ap (λ fs. list_any (λ d. allows d e.0) (map field_of fs)) w.deref.ensures.value ∙ all_contained A (entries ms) e (or_false s.opened (list_all A (entries ms)) w.if-not-opened.true parts.1) there)) ∙ other))
      | then-not-opened+in_ok-bar_others+else-are_all_among w ↦ subst (λ (d : Demands). IsFurther J n d.further e.1) (sym w.demands-is) held
      | else-not-opened w ↦ subst (λ (d : Demands). IsFurther J n d.further e.1) (sym w.demands-is) held
    ]))
    c.ask_fields.ensures.further
