use Rattle.std.proofs.Common.{◌≡◌, ap, sym, ◌∙◌, ◌+◌, take, ◌++◌, [], ◌∷◌, get_or}
use Rattle.std.proofs.lemmas.List.{take_all, take_more}
use Rattle.cs_graph.specs.Paths.{tail_from, told}
use Rattle.cs_graph.specs.Walk.{numbers_of}
use Rattle.cs_graph.specs.declared.walk.Frame.{Frame}
use Rattle.cs_graph.proofs.Frames.{numbers_end}
use Rattle.cs_graph.proofs.Tails.{tail_told}
use Rattle.cs_graph.proofs.cycle.path_from.Goals as goal

pub loop-frame-preserved : goal.loop-frame-preserved
loop-frame-preserved c =
    let i = c.loop-frame.frame-index in
    let before = take i c.args.path.now in
    let last : Frame = get_or c.args.path.now i record { number = 0; passed = 0; height = 0 } in
    let longer : take (i + 1) c.args.path.now ≡ before ++ last ∷ [] = take_more c.args.path.now i record { number = 0; passed = 0; height = 0 } c.loop-frame-test.true in
    let tail : tail_from c.args.number (numbers_of (take (i + 1) c.args.path.now)) ≡ told c.args.number (tail_from c.args.number (numbers_of before)) last.number =
    ap (λ fs. tail_from c.args.number (numbers_of fs)) longer ∙ ap (tail_from c.args.number) (numbers_end before last) ∙ tail_told c.args.number last.number (numbers_of before) in
    c.in_ok-tell.ensures ∙ ap (λ ns. told c.args.number ns last.number) c.loop-frame.invariant ∙ sym tail

pub returns : goal.returns
returns c = c.loop-frame.invariant ∙ ap (λ fs. tail_from c.args.number (numbers_of fs)) (take_all c.loop-frame.frame-index c.args.path.now c.loop-frame-test.false)
