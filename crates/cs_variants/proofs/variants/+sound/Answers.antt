use Rattle.std.proofs.Common.{◌≤◌, length, rules, subst, arith}
use Rattle.std.specs.List.{AllByRecursion}
use Rattle.std.proofs.lemmas.List.{take_all}
use Rattle.cs_package.specs.declared.shape.Shape as Shapes
use Rattle.cs_variants.specs.Sound.{IsSound, IsSoundEnd, IsSoundPart}
use Rattle.cs_variants.proofs.Sounds.{each_more, sound_Simple, sound_And, sound_Or, sound_Struct, sound_List, sound_Each, sound_Part}
use Rattle.cs_variants.proofs.variants.+sound.Goals as goal
use Rattle.cs_variants.proofs.variants.+sound.Goals.{is_sound-in-And, is_sound-in-And-2}

pub are_sound-loop-shape-preserved : goal.are_sound-loop-shape-preserved
are_sound-loop-shape-preserved t c =
    each_more (IsSound c.args.count) c.args.shapes.now c.loop-shape.shape-index c.shape-item.result c.loop-shape-test.true c.shape-item.is c.loop-shape.invariant (c.is_sound.ensures c.if-not-is_sound.false)

pub are_sound-returns : goal.are_sound-returns
are_sound-returns t c = λ e. subst (AllByRecursion (IsSound c.args.count)) (take_all c.loop-shape.shape-index c.args.shapes.now (omega arith)) c.loop-shape.invariant

pub is_sound-loop-part-preserved : goal.is_sound-loop-part-preserved
is_sound-loop-part-preserved t c =
    each_more (IsSoundPart c.args.count) c.in-Struct.parts.now c.loop-part.part-index c.part-item.result c.loop-part-test.true c.part-item.is c.loop-part.invariant (sound_Part c.args.count c.part-item.result (c.is_sound.ensures c.if-not-is_sound.false))

pub is_sound-returns-in-Simple : goal.is_sound-returns-in-Simple
is_sound-returns-in-Simple t c = λ e.
    sound_Simple c.args.count c.in-Simple.field-0 c.args.shape.now (c.in-Simple.ensures.made c.args.count) c.in-Simple.ensures.means

pub is_sound-returns-then-shapes-ge2 : goal.is_sound-returns-then-shapes-ge2
is_sound-returns-then-shapes-ge2 t c = λ e.
    let n = c.args.count in
    let all = c.are_sound-then-shapes-ge2.ensures e in
    elim c.in-And-1.branch [
      | is_sound-in-And w ↦
          let m = w.in-And.ensures.made in
          let two = subst (λ xs. 2 ≤ length xs) m.2 (rw w.shapes-is at c.if-shapes-ge2.true) in
          sound_And n c.args.shape.now m.0 m.1 two (subst (AllByRecursion (IsSound n)) m.2 (rw w.shapes-is at all))
      | is_sound-in-And-2 w ↦
          let m = w.in-And.ensures.made in
          let two = subst (λ xs. 2 ≤ length xs) m.2 (rw w.shapes-is at c.if-shapes-ge2.true) in
          sound_Or n c.args.shape.now m.0 m.1 two (subst (AllByRecursion (IsSound n)) m.2 (rw w.shapes-is at all))
    ]

pub is_sound-returns-after-loop-part : goal.is_sound-returns-after-loop-part
is_sound-returns-after-loop-part t c = λ e.
    let m = c.in-Struct.ensures.made in
    let sound = subst (AllByRecursion (IsSoundPart c.args.count)) (take_all c.loop-part.part-index c.in-Struct.parts.now (omega arith)) c.loop-part.invariant in
    sound_Struct c.args.count c.args.shape.now m.0 c.in-Struct.opened m.1 (subst (AllByRecursion (IsSoundPart c.args.count)) m.2 sound)

pub is_sound-returns-in-Closed : goal.is_sound-returns-in-Closed
is_sound-returns-in-Closed t c = λ e.
    let m = c.in-List.ensures.made in
    let last : IsSoundEnd c.args.count c.in-List.end.now = search (rules, Shapes.the_lemmas) in
    sound_List c.args.count c.args.shape.now m.0 c.in-List.end.now m.1 (subst (AllByRecursion (IsSound c.args.count)) m.2 (c.are_sound-in-Closed.ensures e)) last

pub is_sound-returns-then-are_sound : goal.is_sound-returns-then-are_sound
is_sound-returns-then-are_sound t c = λ e.
    let m = c.in-List.ensures.made in
    let each = sound_Each c.args.count c.in-List.end.now c.in-Each.shape c.in-Each.is (subst (IsSound c.args.count) c.deref.ensures (c.is_sound-then-are_sound.ensures e)) in
    sound_List c.args.count c.args.shape.now m.0 c.in-List.end.now m.1 (subst (AllByRecursion (IsSound c.args.count)) m.2 (c.are_sound.ensures c.if-are_sound.true)) each
