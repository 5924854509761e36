use Rattle.std.proofs.Common.{◌≡◌, ◌<◌, ◌≤◌, ℕ, List, [], ◌∷◌, ◌++◌, length, sym, refl, ap, ◌∙◌, subst, arith}
use Rattle.std.proofs.Math.Logic.{∥∥₁_elim}
use Rattle.std.specs.List.{AllByRecursion as Each}
use Rattle.std.proofs.lemmas.Option.{slice_get_read}
use Rattle.std.specs.Prelude.{Result, Ok, Err}
use Rattle.std.specs.Result.{OnOk}
use Rattle.cs_flat.specs.Listed.{values}
use Rattle.cs_flat.specs.Nodes.{node_at}
use Rattle.cs_flat.specs.View.{item_view}
use Rattle.cs_reasons.specs.Reasons.{AreCauses}
use Rattle.cs_rules.specs.Props.{below_prop}
use Rattle.cs_rules.proofs.Judged.{inside_weaker}
use Rattle.cs_table.specs.Judged.{verdicts}
use Rattle.cs_validity_reasons.specs.CauseLists.{rule_told, object_told}
use Rattle.cs_validate.specs.Numbering.{PartsBelow}
use Rattle.cs_validity_reasons.specs.PlacedCauses.{IsPlacedCause}
use Rattle.cs_validate.specs.Props.{parts_prop, parts_weaker}
use Rattle.cs_validate.specs.Steps.{asked_of}
use Rattle.cs_validity_reasons.specs.declared.cause.KeyedCause.TheVariants.{Never}
use Rattle.cs_validate.proofs.Asked.{tells_of, below_here, below_inside}
use Rattle.cs_validity_reasons.proofs.ToldCauses.{told_causes}
use Rattle.cs_validity_reasons.proofs.graph.ValidGraphExplains.causes.Goals as goal

pub invariant_of-known : goal.invariant_of-known
invariant_of-known c =
    let s = c.args.self.now in
    let children = s.book.now.numbering.children.items in
    let within = λ (n : _) (e : _). subst (Each (λ q. q < n)) (sym c.deref.ensures.value) (subst (λ k. Each (λ q. q < k) children) e (∥∥₁_elim s.book.now.numbering.placed (below_prop _ children) (λ placed. placed.inside))) in
    record { here = omega (arith, c.requires.refused.0, s.items); within = within s.table.now.rules (sym s.rules) }

pub object_causes-requires-clause-here : goal.object_causes-requires-clause-here
object_causes-requires-clause-here c =
    let s = c.args.self.now in
    let rules = s.book.now.numbering.rules.items in
    let children = s.book.now.numbering.children.items in
    let rule = c.index.result.now in
    let n = s.table.now.rules in
    let m = length c.deref.result.now in
    let there = slice_get_read rules (length rules) c.args.rule rule refl c.requires.refused.1 c.index.ensures in
    let l : c.args.rule ≤ n = omega (arith, c.requires.refused.1, s.rules) in
    let k : length children ≤ m = omega (arith, ap length c.deref.ensures.value) in
    let parts = ∥∥₁_elim s.book.now.numbering.placed (parts_prop c.args.rule (length children) (asked_of rule)) (λ placed. placed.parts c.args.rule rule there) in
    below_here n m c.in-Object.conjunction (subst (λ x. PartsBelow n m (asked_of x)) c.in-Object.is (parts_weaker c.args.rule (length children) n m l k (asked_of rule) parts))

pub object_causes-requires-clause-inside : goal.object_causes-requires-clause-inside
object_causes-requires-clause-inside c =
    let s = c.args.self.now in
    let rules = s.book.now.numbering.rules.items in
    let children = s.book.now.numbering.children.items in
    let rule = c.index.result.now in
    let n = s.table.now.rules in
    let m = length c.deref.result.now in
    let there = slice_get_read rules (length rules) c.args.rule rule refl c.requires.refused.1 c.index.ensures in
    let l : c.args.rule ≤ n = omega (arith, c.requires.refused.1, s.rules) in
    let k : length children ≤ m = omega (arith, ap length c.deref.ensures.value) in
    let parts = ∥∥₁_elim s.book.now.numbering.placed (parts_prop c.args.rule (length children) (asked_of rule)) (λ placed. placed.parts c.args.rule rule there) in
    below_inside n m c.in-Object.conjunction (subst (λ x. PartsBelow n m (asked_of x)) c.in-Object.is (parts_weaker c.args.rule (length children) n m l k (asked_of rule) parts))

pub object_causes-requires-clause-length : goal.object_causes-requires-clause-length
object_causes-requires-clause-length c =
    let s = c.args.self.now in
    let found = c.item-value.ensures.found in
    let counted = s.counted in
    search (tells_of, found, counted)

pub object_causes-requires-clause-children : goal.object_causes-requires-clause-children
object_causes-requires-clause-children c =
    let s = c.args.self.now in
    let x = item_view c.item-value.result in
    let l : c.args.item ≤ s.table.now.items = omega (arith, c.requires.refused.0, s.items) in
    inside_weaker c.args.item s.table.now.items l x (s.lower c.args.item x c.item-value.ensures.found)

on_more : {T E A B : Type 0} (r : Result T E) → (A → B) → OnOk r A → OnOk r B
on_more (Ok x) g h = g h
on_more (Err e) g h = h

pub returns-in-Truth : goal.returns-in-Truth
returns-in-Truth c =
    let s = c.args.self.now in
    let rules = s.book.now.numbering.rules.items in
    let inner = s.book.now.numbering.children.items in
    let f = verdicts s.table.now in
    let xs = s.flat.now in
    let d = node_at (values xs) c.args.item in
    let rule = c.index.result.now in
    let x = item_view c.item-value.result in
    let there = slice_get_read rules (length rules) c.args.rule rule refl c.requires.refused.1 c.index.ensures in
    let all = told_causes f xs rules inner c.args.item c.args.rule x c.item-value.ensures.found rule there (s.judged c.args.item c.args.rule c.requires.refused.0 c.requires.refused.1) c.requires.refused.2 in
    on_more c.tell_unless.result
    (λ (e : c.tell_unless.new.found.items ≡ c.args.found.now.items ++ Never ∷ []). subst (AreCauses (IsPlacedCause f xs rules inner c.args.item c.args.rule))
    (ap (rule_told f inner c.args.item d x) c.in-Truth.is ∙ sym (e ∙ ap (λ cs. cs ++ Never ∷ []) c.requires.none)) all)
    c.tell_unless.ensures

pub returns-in-Object : goal.returns-in-Object
returns-in-Object c =
    let s = c.args.self.now in
    let rules = s.book.now.numbering.rules.items in
    let inner = s.book.now.numbering.children.items in
    let f = verdicts s.table.now in
    let xs = s.flat.now in
    let d = node_at (values xs) c.args.item in
    let rule = c.index.result.now in
    let x = item_view c.item-value.result in
    let there = slice_get_read rules (length rules) c.args.rule rule refl c.requires.refused.1 c.index.ensures in
    let all = told_causes f xs rules inner c.args.item c.args.rule x c.item-value.ensures.found rule there (s.judged c.args.item c.args.rule c.requires.refused.0 c.requires.refused.1) c.requires.refused.2 in
    let told = λ (ks : List ℕ). object_told f ks c.args.item d x c.in-Object.conjunction in
    on_more c.object_causes.result
    (λ (e : c.object_causes.new.found.items ≡ c.args.found.now.items ++ told c.deref.result.now). subst (AreCauses (IsPlacedCause f xs rules inner c.args.item c.args.rule))
    (ap (rule_told f inner c.args.item d x) c.in-Object.is ∙ sym (e ∙ ap (λ cs. cs ++ told c.deref.result.now) c.requires.none ∙ ap told c.deref.ensures.value)) all)
    c.object_causes.ensures
