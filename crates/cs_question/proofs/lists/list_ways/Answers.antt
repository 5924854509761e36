use Rattle.std.proofs.Common.{◌≡◌, ◌<◌, ◌≤◌, ℕ, Bool, false, length, inl, inr, sym, ◌∙◌, subst, arith}
use Rattle.std.specs.Prelude.{slice_get, Some}
use Rattle.cs_document.specs.Document.{Document}
use Rattle.std.proofs.lemmas.Bool.{cases_lt}
use Rattle.cs_question.specs.Elements.{fits, element_at}
use Rattle.cs_question.specs.Nodes.{end_of}
use Rattle.cs_question.specs.Spread.{AreTaken, spread_list}
use Rattle.cs_question.proofs.Listed.{fails, behind_is}
use Rattle.cs_question.proofs.lists.list_ways.Goals as goal

pub loop-place-preserved : goal.loop-place-preserved
loop-place-preserved c = λ J ys i y l got f.
    let e = c.in_ok-add_way.ensures in
    let p = c.loop-place.place in
    elim (cases_lt i p) [
      | inl k ↦ e.kept J (spread_list c.args.count ys) (c.loop-place.invariant J ys i y k got f)
      | inr k ↦
          let same : i ≡ p = omega (arith, l, k) in
          e.all J ys i y (omega (arith, k)) (λ _. same) got
          (subst (λ x. fits (λ z q. J c.args.literal.side q z) x y ≡ false) (sym c.element_in-element.ensures) (subst (λ j. fits (λ z q. J c.args.literal.side q z) (element_at c.args.front.now (end_of c.args.end) j) y ≡ false) same f))
    ]

pub returns : goal.returns
returns c = λ J ys l h.
    let front = c.requires.front in
    let inside : Document → ℕ → Bool = λ z q. J c.args.literal.side q z in
    let r = fails inside c.args.front.now (end_of c.args.end) ys (omega (arith, front, l)) h in
    let e = c.in_ok-add_way-2.ensures in
    elim (cases_lt r.0 c.args.count) [
      | inl k ↦ e.kept J (spread_list c.args.count ys) (c.loop-place.invariant J ys r.0 r.1 (let t = c.loop-place-test.false in omega (arith, k, t)) r.2 r.3)
      | inr k ↦ e.all J ys r.0 r.1 k (λ l. absurd (omega (arith, l))) r.2 (subst (λ x. fits inside x r.1 ≡ false) (behind_is c.args.front.now (end_of c.args.end) r.0 (omega (arith, front, k))) r.3)
    ]
