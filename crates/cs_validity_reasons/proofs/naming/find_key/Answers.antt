use Rattle.std.proofs.Common.{◌≡◌, ◌≢◌, ℕ, ◌+◌, ◌≤◌, inl, inr, List, Bor, Some, map, get_or, refl, ap, ◌∙◌, arith}
use Rattle.std.specs.Prelude.{slice_get}
use Rattle.std.proofs.lemmas.Bool.{cases_order}
use Rattle.std.proofs.lemmas.List.{length-map}
use Rattle.std.proofs.lemmas.Option.{slice_get_within, get_or_from_slice_get}
use Rattle.cs_document.specs.Document.{Entry}
use Rattle.cs_flat.specs.View.{entry_of}
use Rattle.cs_validity_reasons.proofs.Contained.{place_of, got_map_back}
use Rattle.cs_validity_reasons.proofs.naming.find_key.Goals as goal

-- a place from i on is behind i, where the value isn't at i
behind : (ms : List (Bor (List ℕ) × ℕ)) (i v : ℕ) (d : Bor (List ℕ) × ℕ) → (get_or ms i d).1 ≢ v → (j : ℕ) (m : Entry ℕ) → slice_get (map entry_of ms) j ≡ Some m → m.1 ≡ v → i ≤ j → i + 1 ≤ j
behind ms i v d other j m e is l =
    elim (cases_order i j) [
      | inl h ↦
          let x = got_map_back entry_of ms j m e in
          let at : get_or ms i d ≡ x.0 = ap (λ k. get_or ms k d) h ∙ get_or_from_slice_get ms j x.0 d x.1 in
          absurd (other (ap (λ (z : Bor (List ℕ) × ℕ). z.1) at ∙ ap (λ (z : Entry ℕ). z.1) x.2 ∙ is))
      | inr h ↦ elim h [ inl h ↦ omega (arith, h) | inr h ↦ absurd (omega (arith, h, l)) ]
    ]

pub loop-member-preserved : goal.loop-member-preserved
loop-member-preserved c = λ j m e is. behind c.args.members.now c.loop-member.member-index c.args.value _ c.if-member-value.false j m e is (c.loop-member.invariant j m e is)

pub returns : goal.returns
returns c = λ k m.
    let p = place_of (map entry_of c.args.members.now) (k, c.args.value) m in
    let l = c.loop-member.invariant p.0 (k, c.args.value) p.1 refl in
    let w = slice_get_within (map entry_of c.args.members.now) p.0 (k, c.args.value) p.1 in
    let n = length-map c.args.members.now entry_of in
    absurd (omega (arith, l, w, n))
