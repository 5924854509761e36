use Rattle.std.proofs.Common.{◌≡◌, List, ◌++◌, [], ◌∷◌, Some, length, slice_get, refl, sym, ap, ◌∙◌, subst, arith}
use Rattle.std.proofs.Math.ListN.{set}
use Rattle.cs_graph.specs.Graph.{graph_of}
use Rattle.cs_graph.specs.Walk.{Walking, Keeps, frame_of}
use Rattle.cs_graph.specs.declared.walk.VisitState.TheVariants.{New, Open}
use Rattle.std.proofs.lemmas.Option.{slice_get_within}
use Rattle.cs_graph.proofs.Marks.{at_set, keeps_set, new_done}
use Rattle.cs_graph.proofs.Frames.{starting, done_of, open_new}
use Rattle.cs_graph.proofs.walk.walk_from.Goals as goal

none_left : {X : Type 0} (xs : List X) → length xs ≡ 0 → xs ≡ []
none_left [] e = refl
none_left (x ∷ xs) e = absurd (omega (arith, e))

pub loop-last-init : goal.loop-last-init
loop-last-init c =
    let G = graph_of c.args.graph.now in
    let M = c.args.walk.now.marks.items in
    let n = c.args.number in
    let N = set M n Open in
    let marks : c.enter.new.walk.marks.items ≡ N = c.enter.ensures.marks in
    let path : c.enter.new.walk.path.items ≡ frame_of n ∷ [] = c.in_ok-enter.ensures.path ∙ ap (λ s. s ++ frame_of n ∷ []) c.requires.path in
    let written = at_set M n Open (slice_get_within M n New c.requires.new) in record {
      walking = subst (λ S. Walking G c.enter.new.walk.marks.items S) (sym path) (subst (λ K. Walking G K (frame_of n ∷ [])) (sym marks) (starting G M n c.requires.state c.requires.new));
      kept = subst (Keeps M) (sym marks) (keeps_set M n New Open c.requires.new new_done open_new);
      entered = λ e. let f : Some Open ≡ Some New = sym written ∙ sym (ap (λ K. slice_get K n) marks) ∙ e in cc;
    }

pub returns-clause-path : goal.returns-clause-path
returns-clause-path c = none_left c.pop.new.self.items (omega (arith, c.in_default.ensures.cases.1))

pub returns-clause-walked : goal.returns-clause-walked
returns-clause-walked c =
    let G = graph_of c.args.graph.now in
    let N = c.loop-last.walk.marks.items in
    let inv = c.loop-last.invariant in
    let none = none_left c.loop-last.walk.path.items (omega (arith, c.in_default.ensures.cases.0)) in
    let w = subst (Walking G N) none inv.walking in
    let s = w.state in
    let first = slice_get_within c.args.walk.now.marks.items c.args.number New c.requires.new in record {
      state = s;
      kept = inv.kept;
      done = done_of G N c.args.number s inv.entered (omega (arith, first, s.marked.long, c.requires.state.marked.long));
    }
