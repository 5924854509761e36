use Rattle.std.proofs.Common.{◌≡◌, ℕ, ◌+◌, ◌-◌, ◌≤◌, List, ◌++◌, take, drop, length, length-drop, sym, ap, subst, ◌∙◌, arith}
use Rattle.std.proofs.KnownBytes.{Appends-trans}
use Rattle.std.proofs.Math.Seq.{take-add}
use Rattle.std.proofs.lemmas.List.{take_all, length-take}
use Rattle.std.specs.Io.KnownBytes.{Appends}
use Rattle.cs_tool.proofs.writes.write_part.Goals as goal

-- what was taken of the rest follows what was taken before
taken_more : (text : List ℕ) (at n : ℕ) → take at text ++ take n (take (length text - at) (drop at text)) ≡ take (at + n) text
taken_more text at n =
    let short : length (drop at text) ≤ length text - at = omega (arith, length-drop at text) in
    ap (λ rest. take at text ++ take n rest) (take_all (length text - at) (drop at text) short) ∙ sym (take-add at n text)

pub loop-at-preserved : goal.loop-at-preserved
loop-at-preserved g c =
    let l = c.loop-at in
    let contents = g.W.Write.contents in
    let text = c.args.text.now in
    let taken = Appends-trans (contents c.args.output.now) (contents l.output) (contents c.write.new.self) (take l.at text) _ l.invariant.taken c.in-Ok.ensures.bytes in record {
      within = omega (arith, c.in-Ok.ensures.bound, simp (length-take, length-drop) at c.in-Ok.ensures.bound);
      taken = subst (Appends (contents c.args.output.now) (contents c.write.new.self)) (taken_more text l.at c.in-Ok.count) taken;
    }
