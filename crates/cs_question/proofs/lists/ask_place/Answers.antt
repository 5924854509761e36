use Rattle.std.proofs.Common.{◌≡◌, ◌≤◌, ℕ, Bool, true, true≢false, Some, Vec, Global, length, sym, ap, ◌∙◌, subst, arith}
use Rattle.std.specs.Prelude.{slice_get}
use Rattle.std.proofs.lemmas.Bool.{leb-true}
use Rattle.std.proofs.lemmas.Result.{on_ok_weaker}
use Rattle.cs_document.specs.Document.{Document, Documents, list, elements}
use Rattle.cs_question.specs.declared.nodes.Literal.{Literal}
use Rattle.cs_question.specs.declared.nodes.Node.TheVariants as node
use Rattle.cs_question.specs.declared.nodes.NodeEnd.{NodeEnd}
use Rattle.cs_question.specs.declared.nodes.Nodes.{Nodes}
use Rattle.cs_question.specs.Asked.{meets}
use Rattle.cs_question.specs.Nodes.{Judgement, IsMeaning, nodes_on, end_of}
use Rattle.cs_question.specs.Elements.{fits, element_at, IsFrom}
use Rattle.cs_question.proofs.Listed.{element_fits, element_from}
use Rattle.cs_question.proofs.Some.{beq_same}
use Rattle.cs_question.proofs.Unfolded.{list_is}
use Rattle.cs_question.proofs.lists.ask_place.Goals as goal
use Rattle.cs_question.proofs.lists.ask_place.Goals.{then-not-is_behind, else-not-is_behind}

-- the element at a place from which on the front asks the same is as it asks there
asked_here : (ns : Nodes) (J : Judgement) → IsMeaning ns J → (l : Literal) → l.holds ≡ true → (front : Vec ℕ Global) (end : NodeEnd) → slice_get (nodes_on ns l.side) l.rule ≡ Some (node.List front end)
    → (place i : ℕ) (b : Bool) → IsFrom place b i → (b ≡ true → length front.items ≤ place) → (ds : Documents) (y : Document) → meets J (list ds) l ≡ true → slice_get (elements ds) i ≡ Some y
    → fits (λ z p. J l.side p z) (element_at front.items (end_of end) place) y ≡ true
asked_here ns J m l holds front end at place i b from short ds y met got =
    let inside : Document → ℕ → Bool = λ z p. J l.side p z in
    subst (λ e. fits inside e y ≡ true) (element_from front.items (end_of end) place i b from short)
    (element_fits inside front.items (end_of end) (elements ds) i y (list_is ns J m l true holds front end ds at met) got)

pub returns-in-Closed : goal.returns-in-Closed
returns-in-Closed c = λ J n i ds y m met from got further.
    let f = c.in-Some-List in
    let inside : Document → ℕ → Bool = λ z p. J c.args.literal.side p z in
    let short : c.args.is_behind ≡ true → length f.front.items ≤ c.args.place = elim c.if-not-is_behind.branch [
      | then-not-is_behind w ↦ λ b. absurd (true≢false (sym b ∙ w.if-not-is_behind.true))
      | else-not-is_behind w ↦ λ b. let v = f.front.ok.0 in let k = w.len.ensures in let l = leb-true w.len.result c.args.place (sym w.value-is ∙ c.if-len-place.true) in omega (arith, v, k, l)
    ] in
    let is = sym (c.element_in.ensures ∙ ap (λ es. element_at es (end_of f.end) c.args.place) c.deref.ensures.value) ∙ ap end_of c.in-Closed.is in
    absurd (true≢false (sym (subst (λ e. fits inside e y ≡ true) is (asked_here c.args.nodes.now J m c.args.literal c.if-literal.true f.front f.end (f.ensures ∙ ap Some f.field-0-is) c.args.place i c.args.is_behind from short ds y met got))))

pub returns-in-Each : goal.returns-in-Each
returns-in-Each c =
    let f = c.in-Some-List in
    let l = c.args.literal in
    let r = c.in-Each.rule in
    let short : c.args.is_behind ≡ true → length f.front.items ≤ c.args.place = elim c.if-not-is_behind.branch [
      | then-not-is_behind w ↦ λ b. absurd (true≢false (sym b ∙ w.if-not-is_behind.true))
      | else-not-is_behind w ↦ λ b. let v = f.front.ok.0 in let k = w.len.ensures in let l = leb-true w.len.result c.args.place (sym w.value-is ∙ c.if-len-place.true) in omega (arith, v, k, l)
    ] in
    let is = sym (c.element_in.ensures ∙ ap (λ es. element_at es (end_of f.end) c.args.place) c.deref.ensures.value) ∙ ap end_of c.in-Each.is in
    on_ok_weaker c.add.result (λ g J n i ds y m met from got further.
    let inside : Document → ℕ → Bool = λ z p. J l.side p z in
    let here : J l.side r y ≡ true = subst (λ e. fits inside e y ≡ true) is (asked_here c.args.nodes.now J m l c.if-literal.true f.front f.end (f.ensures ∙ ap Some f.field-0-is) c.args.place i c.args.is_behind from short ds y met got) in
    (further.0, further.1, g (meets J y) further.2 (subst (λ k. meets J y k ≡ true) (sym c.part_of.ensures) (beq_same (J l.side r y) l.holds (here ∙ sym c.if-literal.true)))))
    c.add.ensures
