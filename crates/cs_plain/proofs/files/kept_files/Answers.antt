use Rattle.std.proofs.Common.{◌≡◌, ◌∷◌, ◌++◌, [], length, map, arith, sym, ap, ◌∙◌, append_assoc}
use Rattle.std.proofs.lemmas.List.{map-append, append-nil}
use Rattle.std.specs.Vec.Iter.{into_iter_items}
use Rattle.cs_grammar.specs.View.{file_view}
use Rattle.cs_plain.specs.Placed.{without_gone}
use Rattle.cs_plain.proofs.Gone.{nothing_left}
use Rattle.cs_plain.proofs.files.kept_files.Goals as goal

pub loop-file-preserved : goal.loop-file-preserved
loop-file-preserved c =
    let l = c.loop-file in
    let x = c.in-Some.file in
    let steps : into_iter_items l.file-iterator ≡ x ∷ into_iter_items c.next.new.self = c.in-Some.ensures.steps.0 in
    let was = l.invariant.long in
    let gone = c.in-Some.ensures.steps.1 in
    let short = ap length steps in record {
      long = omega arith;
      whole = λ ss told.
          let before = map file_view l.kept.items in
          let left = map (without_gone ss) (map file_view (into_iter_items c.next.new.self)) in
          ap (λ ds. map file_view ds ++ left) c.in_ok-push.ensures.items
          ∙ ap (λ ds. ds ++ left) (map-append file_view l.kept.items _)
          ∙ ap (λ d. (before ++ d ∷ []) ++ left) (c.in_ok-kept_file.ensures ss told)
          ∙ append_assoc before (without_gone ss (file_view x) ∷ []) left
          ∙ sym (ap (λ xs. before ++ map (without_gone ss) (map file_view xs)) steps)
          ∙ l.invariant.whole ss told;
    }

pub returns : goal.returns
returns c ss told =
    let l = c.loop-file in
    let empty : into_iter_items l.file-iterator ≡ [] = nothing_left (into_iter_items l.file-iterator) (sym l.invariant.long ∙ c.in-None.ensures.steps.0) in
    sym (append-nil (map file_view l.kept.items)) ∙ sym (ap (λ xs. map file_view l.kept.items ++ map (without_gone ss) (map file_view xs)) empty) ∙ l.invariant.whole ss told
