use Rattle.std.proofs.Common.{◌≡◌, ◌<◌, false, length, sym, ap, ◌∙◌, subst, take_all}
use Rattle.std.specs.List.{AllByRecursion as Each, All}
use Rattle.std.specs.Prelude.{string_bytes}
use Rattle.cs_document.specs.Opened.{a_text}
use Rattle.cs_question.specs.Outlines.{may_all}
use Rattle.cs_question.proofs.OtherTexts.{no_text, each_of_all}
use Rattle.cs_question.proofs.scalars.text_of.Goals as goal

pub returns : goal.returns
returns c = λ e t.
    no_text c.args.nodes.now c.args.asked.now c.in_ok-marks.marks.items c.in_ok-marks.ensures (string_bytes c.in_ok-other.other)
    (each_of_all c.in_ok-marks.marks.items (string_bytes c.in_ok-other.other) (subst (λ ms. All (λ m. length m.now < length (string_bytes c.in_ok-other.other)) ms) c.deref.ensures.value c.in_ok-other.ensures))
    (subst (Each (λ m. may_all c.args.nodes.now (a_text m.now) c.args.asked.now ≡ false)) (take_all c.loop-mark.mark-index c.deref-mark-items.result.now c.loop-mark-test.false ∙ c.deref-mark-items.ensures.value) c.loop-mark.invariant)
    (ap (λ u. may_all c.args.nodes.now (a_text u) c.args.asked.now) (sym c.as_str.ensures.value) ∙ sym c.may_meet_all-2.ensures ∙ c.if-may_meet_all-2.false) t
