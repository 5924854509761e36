use Rattle.std.proofs.Common.{◌≡◌, ℕ, ◌<◌, List, Some, length, map, get_or, sym, ap, ◌∙◌, below_more, arith}
use Rattle.std.specs.Prelude.{slice_get}
use Rattle.std.proofs.lemmas.List.{length-map, get_or_default}
use Rattle.cs_instance.specs.Steps.{field_of}
use Rattle.cs_question.proofs.Loops.{got_some}
use Rattle.cs_question.proofs.Said.{got_mapped}
use Rattle.cs_question.proofs.Some.{lists_same}
use Rattle.cs_question.proofs.sides.are_same_fields.Goals as goal

-- elements that are the same, as they are read
same_read : {X Y : Type 0} (f : X → Y) (xs ys : List X) (i : ℕ) (d e : X) → i < length xs → i < length ys → f (get_or xs i d) ≡ f (get_or ys i e) → slice_get (map f xs) i ≡ slice_get (map f ys) i
same_read f xs ys i d e l m h =
    got_mapped f xs i (get_or xs i d) (got_some xs i (get_or xs i d) l (get_or_default xs i d (get_or xs i d) l))
    ∙ ap Some h
    ∙ sym (got_mapped f ys i (get_or ys i e) (got_some ys i (get_or ys i e) m (get_or_default ys i e (get_or ys i e) m)))

pub loop-i-preserved : goal.loop-i-preserved
loop-i-preserved c =
    let i = c.loop-i.i in
    let l = c.loop-i-test.true in
    let size : length c.args.first.now ≡ length c.args.second.now = c.if-first-second.false in
    below_more (λ k. slice_get (map field_of c.args.first.now) k ≡ slice_get (map field_of c.args.second.now) k) i c.loop-i.invariant
    (same_read field_of c.args.first.now c.args.second.now i _ _ l (omega (arith, l, size)) (c.is_same_field.ensures c.if-not-is_same_field.false))

pub returns : goal.returns
returns c = λ e.
    let size : length c.args.first.now ≡ length c.args.second.now = c.if-first-second.false in
    let a = length-map c.args.first.now field_of in
    let b = length-map c.args.second.now field_of in
    lists_same (map field_of c.args.first.now) (map field_of c.args.second.now) (a ∙ size ∙ sym b) (λ k l. c.loop-i.invariant k (let t = c.loop-i-test.false in omega (arith, t, l, a)))
