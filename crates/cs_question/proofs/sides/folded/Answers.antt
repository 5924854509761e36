use Rattle.std.proofs.Common.{map, sym, subst}
use Rattle.cs_question.specs.Nodes.{asked_of, IsSide}
use Rattle.cs_question.proofs.Said.{said_set}
use Rattle.cs_question.proofs.sides.folded.Goals as goal
use Rattle.cs_question.proofs.sides.folded.Goals.{in-Some+in-All-1, in-Some+in-Any-1, in-Some+in-List-1, in-Some+in-Simple-1, in-Some+in-Struct-1, in_default}

pub loop-place-preserved : goal.loop-place-preserved
loop-place-preserved c = λ J side.
    let old = c.loop-place.invariant J side in
    elim c.match-range_at.branch [
      | in-Some+in-All-1 w ↦ subst (λ v. IsSide (map asked_of v.items) J) (sym w.nodes-is) (said_set c.loop-place.nodes.items c.loop-place.place w.in-Some.range (λ K same. w.in-Some.ensures K (subst (λ ns. IsSide (map asked_of ns) K) (sym c.deref.ensures.value) same)) J old)
      | in-Some+in-Any-1 w ↦ subst (λ v. IsSide (map asked_of v.items) J) (sym w.nodes-is) (said_set c.loop-place.nodes.items c.loop-place.place w.in-Some.range (λ K same. w.in-Some.ensures K (subst (λ ns. IsSide (map asked_of ns) K) (sym c.deref.ensures.value) same)) J old)
      | in-Some+in-List-1 w ↦ subst (λ v. IsSide (map asked_of v.items) J) (sym w.nodes-is) (said_set c.loop-place.nodes.items c.loop-place.place w.in-Some.range (λ K same. w.in-Some.ensures K (subst (λ ns. IsSide (map asked_of ns) K) (sym c.deref.ensures.value) same)) J old)
      | in-Some+in-Simple-1 w ↦ subst (λ v. IsSide (map asked_of v.items) J) (sym w.nodes-is) (said_set c.loop-place.nodes.items c.loop-place.place w.in-Some.range (λ K same. w.in-Some.ensures K (subst (λ ns. IsSide (map asked_of ns) K) (sym c.deref.ensures.value) same)) J old)
      | in-Some+in-Struct-1 w ↦ subst (λ v. IsSide (map asked_of v.items) J) (sym w.nodes-is) (said_set c.loop-place.nodes.items c.loop-place.place w.in-Some.range (λ K same. w.in-Some.ensures K (subst (λ ns. IsSide (map asked_of ns) K) (sym c.deref.ensures.value) same)) J old)
      | in_default w ↦ subst (λ v. IsSide (map asked_of v.items) J) (sym w.nodes-is) old
    ]
