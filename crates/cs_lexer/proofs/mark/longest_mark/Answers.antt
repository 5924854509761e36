use Rattle.std.proofs.Common.{◌≡◌, ◌≤◌, length, Some, None, sym, ◌∙◌, arith}
use Rattle.std.proofs.lemmas.Grind.{common_steps}
use Rattle.cs_lexer.specs.Pieces.{mark_of}
use Rattle.cs_lexer.proofs.Marks.{tried, short, longest_3, longest_2, longest_1}
use Rattle.cs_lexer.proofs.mark.longest_mark.Goals.{then-bytes-ge3+in_default, else-bytes-ge3, then-bytes-ge2+in_default-mark_sort, else-bytes-ge2}
use Rattle.cs_lexer.proofs.mark.longest_mark.Goals as goal

pub returns-in-Some : goal.returns-in-Some
returns-in-Some c =
    let bs = c.args.bytes.now in
    sym (longest_3 bs (c.in-Some.sort, 3) (tried 3 bs (Some c.in-Some.sort) c.if-bytes-ge3.true (sym c.mark_sort.ensures ∙ c.in-Some.is)))

pub returns-in-Some-mark_sort : goal.returns-in-Some-mark_sort
returns-in-Some-mark_sort c =
    let bs = c.args.bytes.now in
    let no3 : mark_of 3 bs ≡ None = elim c.if-bytes-ge3.branch [ then-bytes-ge3+in_default w ↦ tried 3 bs None w.if-bytes-ge3.true (sym w.mark_sort.ensures ∙ w.in_default.is) | else-bytes-ge3 w ↦ short 3 bs w.if-bytes-ge3.false ] in
    sym (longest_2 bs (c.in-Some-mark_sort.sort, 2) no3 (tried 2 bs (Some c.in-Some-mark_sort.sort) c.if-bytes-ge2.true (sym c.mark_sort-then-bytes-ge2.ensures ∙ c.in-Some-mark_sort.is)))

pub returns-in_err-sort : goal.returns-in_err-sort
returns-in_err-sort c =
    let bs = c.args.bytes.now in
    let no3 : mark_of 3 bs ≡ None = elim c.if-bytes-ge3.branch [ then-bytes-ge3+in_default w ↦ tried 3 bs None w.if-bytes-ge3.true (sym w.mark_sort.ensures ∙ w.in_default.is) | else-bytes-ge3 w ↦ short 3 bs w.if-bytes-ge3.false ] in
    let no2 : mark_of 2 bs ≡ None = elim c.if-bytes-ge2.branch [ then-bytes-ge2+in_default-mark_sort w ↦ tried 2 bs None w.if-bytes-ge2.true (sym w.mark_sort-then-bytes-ge2.ensures ∙ w.in_default-mark_sort.is) | else-bytes-ge2 w ↦ short 2 bs w.if-bytes-ge2.false ] in
    let some : 1 ≤ length bs = grind (arith, common_steps) in
    c.from_residual.ensures ∙ sym (longest_1 bs None no3 no2 (tried 1 bs None some (sym c.mark_sort-2.ensures ∙ c.in_err-sort.was)))

pub returns : goal.returns
returns c =
    let bs = c.args.bytes.now in
    let no3 : mark_of 3 bs ≡ None = elim c.if-bytes-ge3.branch [ then-bytes-ge3+in_default w ↦ tried 3 bs None w.if-bytes-ge3.true (sym w.mark_sort.ensures ∙ w.in_default.is) | else-bytes-ge3 w ↦ short 3 bs w.if-bytes-ge3.false ] in
    let no2 : mark_of 2 bs ≡ None = elim c.if-bytes-ge2.branch [ then-bytes-ge2+in_default-mark_sort w ↦ tried 2 bs None w.if-bytes-ge2.true (sym w.mark_sort-then-bytes-ge2.ensures ∙ w.in_default-mark_sort.is) | else-bytes-ge2 w ↦ short 2 bs w.if-bytes-ge2.false ] in
    let some : 1 ≤ length bs = grind (arith, common_steps) in
    sym (longest_1 bs (Some (c.in_ok-sort.sort, 1)) no3 no2 (tried 1 bs (Some c.in_ok-sort.sort) some (sym c.mark_sort-2.ensures ∙ c.in_ok-sort.was)))
