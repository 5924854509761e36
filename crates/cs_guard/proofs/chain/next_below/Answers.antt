use Rattle.std.proofs.Common.{◌≡◌, ◌⊎◌, ℕ, zero, suc, ◌+◌, ◌<◌, inl, inr, length, Some, slice_get, get_or, refl, sym, ap, ◌∙◌, subst, arith}
use Rattle.std.specs.Prelude.{◌≢◌}
use Rattle.std.proofs.lemmas.List.{get_or_default}
use Rattle.std.proofs.lemmas.Option.{same_Some}
use Rattle.cs_graph.specs.Chains.{On}
use Rattle.cs_graph.specs.Graph.{graph_of, Refers}
use Rattle.cs_graph.proofs.Marks.{graph_long, row_at}
use Rattle.cs_graph.proofs.Places.{on_get, all_on}
use Rattle.cs_guard.proofs.chain.next_below.Goals as goal

before_or_at : (k n : ℕ) → k < n + 1 → (k < n) ⊎ (k ≡ n)
before_or_at zero zero l = inr refl
before_or_at zero (suc n) l = inl (omega arith)
before_or_at (suc k) zero l = absurd (omega (arith, l))
before_or_at (suc k) (suc n) l = elim (before_or_at k n (omega (arith, l))) [ inl a ↦ inl (omega (arith, a)) | inr e ↦ inr (ap suc e) ]

-- a reference at a place of the row is one of the number
pub index-requires-in-loop-place : goal.index-requires-in-loop-place
index-requires-in-loop-place c =
    let vs = c.args.graph.now.items in
    let xs = c.as_slice-references.result.now in
    let row : slice_get (graph_of vs) c.args.number ≡ Some xs = row_at vs c.args.number c.args.number c.index-2.result.now xs refl (omega (arith, c.requires.inside, c.requires.long)) c.index-2.ensures c.as_slice-references.ensures.value in
    let refers : Refers (graph_of vs) c.args.number (get_or xs c.loop-place.place 0) = record { row = xs; found = row; on = on_get xs c.loop-place.place 0 (omega (arith, c.loop-place-test.true, c.as_slice-references.ensures.len)) } in
    omega (arith, c.requires.within c.args.number (get_or xs c.loop-place.place 0) refers, graph_long vs, c.requires.long)

pub returns-then-index-below : goal.returns-then-index-below
returns-then-index-below c =
    let vs = c.args.graph.now.items in
    let xs = c.as_slice-references.result.now in
    let hs = c.args.heights.now.items in
    let next = get_or xs c.loop-place.place 0 in
    let row : slice_get (graph_of vs) c.args.number ≡ Some xs = row_at vs c.args.number c.args.number c.index-2.result.now xs refl (omega (arith, c.requires.inside, c.requires.long)) c.index-2.ensures c.as_slice-references.ensures.value in
    let refers : Refers (graph_of vs) c.args.number next = record { row = xs; found = row; on = on_get xs c.loop-place.place 0 (omega (arith, c.loop-place-test.true, c.as_slice-references.ensures.len)) } in
    let inside : next < length hs = omega (arith, c.requires.within c.args.number next refers, graph_long vs, c.requires.long) in
    let high : c.index.result.now ≡ get_or hs c.args.number 0 = c.index.ensures ∙ get_or_default hs c.args.number c.index.result.now 0 c.requires.inside in
    let low : c.index-in-loop-place.result.now ≡ get_or hs next 0 = c.index-in-loop-place.ensures ∙ get_or_default hs next c.index-in-loop-place.result.now 0 inside in
    (refers, omega (arith, c.in_ok-below.ensures, high, low, c.if-index-below.true))

pub loop-place-preserved : goal.loop-place-preserved
loop-place-preserved c = λ k d l e.
    let vs = c.args.graph.now.items in
    let xs = c.as_slice-references.result.now in
    let hs = c.args.heights.now.items in
    let next = get_or xs c.loop-place.place 0 in
    let here : c.loop-place.place < length xs = omega (arith, c.loop-place-test.true, c.as_slice-references.ensures.len) in
    let row : slice_get (graph_of vs) c.args.number ≡ Some xs = row_at vs c.args.number c.args.number c.index-2.result.now xs refl (omega (arith, c.requires.inside, c.requires.long)) c.index-2.ensures c.as_slice-references.ensures.value in
    let refers : Refers (graph_of vs) c.args.number next = record { row = xs; found = row; on = on_get xs c.loop-place.place 0 here } in
    let inside : next < length hs = omega (arith, c.requires.within c.args.number next refers, graph_long vs, c.requires.long) in
    let high : c.index.result.now ≡ get_or hs c.args.number 0 = c.index.ensures ∙ get_or_default hs c.args.number c.index.result.now 0 c.requires.inside in
    let low : c.index-in-loop-place.result.now ≡ get_or hs next 0 = c.index-in-loop-place.ensures ∙ get_or_default hs next c.index-in-loop-place.result.now 0 inside in
    elim (before_or_at k c.loop-place.place l) [
      | inl before ↦ c.loop-place.invariant k d before e
      | inr at ↦
          let same : get_or xs k d ≡ next = ap (λ i. get_or xs i d) at ∙ get_or_default xs c.loop-place.place d 0 here in
          let told : suc (get_or hs next 0) ≡ get_or hs c.args.number 0 = sym (ap (λ m. suc (get_or hs m 0)) same) ∙ e in
          c.if-index-below.false (omega (arith, c.in_ok-below.ensures, high, low, told))
    ]

pub returns : goal.returns
returns c = λ m r e.
    let vs = c.args.graph.now.items in
    let xs = c.as_slice-references.result.now in
    let hs = c.args.heights.now.items in
    let row : slice_get (graph_of vs) c.args.number ≡ Some xs = row_at vs c.args.number c.args.number c.index-2.result.now xs refl (omega (arith, c.requires.inside, c.requires.long)) c.index-2.ensures c.as_slice-references.ensures.value in
    let on : On m xs = subst (On m) (same_Some r.row xs (sym r.found ∙ row)) r.on in
    all_on (λ i. suc (get_or hs i 0) ≢ get_or hs c.args.number 0) xs m (λ k d l. c.loop-place.invariant k d (omega (arith, l, c.loop-place-test.false, c.as_slice-references.ensures.len))) on e
