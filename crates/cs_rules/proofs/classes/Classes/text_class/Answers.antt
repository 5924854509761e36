use Rattle.std.proofs.Common.{map, string_bytes, sym, ap, ◌∙◌, subst, rules}
use Rattle.std.specs.List.Sorted.{IsSorted}
use Rattle.std.specs.Ordering.{nat_cmp}
use Rattle.std.specs.Cmp.Lexicographic.{slice_cmp}
use Rattle.std.specs.String.{string_cmp}
use Rattle.std.proofs.lemmas.Fn.{always_returns_same}
use Rattle.cs_rules.proofs.Placed.{text_at, text_behind}
use Rattle.cs_rules.proofs.classes.Classes.text_class.Goals as goal

pub returns-in-Ok : goal.returns-in-Ok
returns-in-Ok c =
    let t = c.args.text.now in
    let zs = c.deref-integers.result.now in
    let ts = c.deref-marks.result.now in
    text_at c.args.self.now t zs (c.deref-integers.ensures.value ∙ ap (λ m. m.integers) c.self.view_is) ts (ap (map string_bytes) c.deref-marks.ensures.value ∙ ap (λ m. m.texts) c.self.view_is) c.in-Ok.at
    c.in-Ok.ensures.bound (c.in-Ok.ensures.position (λ s. slice_cmp nat_cmp (string_bytes s) t) (always_returns_same _ _ _ (λ a r g called. search rules)))

pub returns-in-Err : goal.returns-in-Err
returns-in-Err c =
    let t = c.args.text.now in
    let zs = c.deref-integers.result.now in
    let ts = c.deref-marks.result.now in
    text_behind c.args.self.now t zs (c.deref-integers.ensures.value ∙ ap (λ m. m.integers) c.self.view_is) ts (ap (map string_bytes) c.deref-marks.ensures.value ∙ ap (λ m. m.texts) c.self.view_is) c.in-Err.field-0 c.reached.result
    (subst (IsSorted string_cmp) (sym c.deref-marks.ensures.value) c.self.invariant.0) (c.in-Err.ensures.position (λ s. slice_cmp nat_cmp (string_bytes s) t) (always_returns_same _ _ _ (λ a r g called. search rules))) c.reached.ensures.reached
