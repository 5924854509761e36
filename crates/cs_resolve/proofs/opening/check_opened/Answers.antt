use Rattle.std.proofs.Common.{◌≡◌, ℕ, ◌+◌, ◌<◌, List, ◌++◌, map, drop, length, get_or, sym, ap, ◌∙◌, subst, add-one}
use Rattle.std.proofs.lemmas.List.{drop_all}
use Rattle.std.proofs.lemmas.Result.{err_from_is_err_and}
use Rattle.std.specs.List.{flat_map}
use Rattle.cs_grammar.specs.Tree.{definitions}
use Rattle.cs_grammar.specs.View.{definition_view, file_view}
use Rattle.cs_grammar.specs.declared.ast.File.{File}
use Rattle.cs_resolve.specs.Opening.{Named, named_bodies}
use Rattle.cs_resolve.specs.Unopened.{unopened_definitions, unopened_from}
use Rattle.cs_resolve.specs.Refinement.{Refinements}
use Rattle.cs_resolve.specs.Checks.{Repeats}
use Rattle.cs_resolve.specs.declared.fault.ResolveFault.TheVariants.{NotOpened}
use Rattle.cs_resolve.proofs.Refusals.{at_place, first_left, same_first, first_numbered}
use Rattle.cs_resolve.proofs.opening.check_opened.Goals as goal

abbrev bodies : List File → List Named
bodies fs = named_bodies (flat_map definitions (map file_view fs))

abbrev faults : Refinements → ℕ → List Named → File → List (ℕ × ℕ)
faults rs i all f = map (λ o. (i, o)) (unopened_definitions rs all (map definition_view f.definitions.items))

-- the faults from a file on
cut : (rs : Refinements) (all : List Named) (fs : List File) (i : ℕ) (f : File) → i < length fs → f ≡ get_or fs i f → unopened_from rs i all (map file_view (drop i fs)) ≡ faults rs i all f ++ unopened_from rs (i + 1) all (map file_view (drop (i + 1) fs))
cut rs all fs i f l is = ap (λ gs. unopened_from rs i all (map file_view gs)) (at_place fs i f l is) ∙ ap (λ j. faults rs i all f ++ unopened_from rs j all (map file_view (drop (i + 1) fs))) (sym (add-one i))

pub returns-in_err-check_definitions : goal.returns-in_err-check_definitions
returns-in_err-check_definitions c rs tells =
    let fs = c.deref-file-items.result.now in
    let i = c.loop-number.number in
    let f = c.file-item.result in
    let same = c.deref-file-items.ensures.value in
    let p = err_from_is_err_and c.from_residual-in_err-check_definitions.result c.from_residual-in_err-check_definitions.ensures.1 in
    let told = subst (λ gs. Repeats c.in_ok-repeats.repeats (bodies gs)) (sym same) c.in_ok-repeats.ensures in
    let here = first_numbered NotOpened _ i _ (c.in_err-check_definitions.ensures (bodies fs) told rs tells) in
    let rest = unopened_from rs (i + 1) (bodies fs) (map file_view (drop (i + 1) fs)) in
    let whole = same_first (λ (p : ℕ × ℕ). NotOpened p.0 p.1) _ _ _ (sym (c.loop-number.invariant rs tells ∙ cut rs (bodies fs) fs i f c.loop-number-test.true c.file-item.is)) (first_left (λ (p : ℕ × ℕ). NotOpened p.0 p.1) _ (faults rs i (bodies fs) f) rest here) in
    rw (p.1, p.2) (same_first (λ (p : ℕ × ℕ). NotOpened p.0 p.1) _ _ _ (ap (λ gs. unopened_from rs 0 (bodies gs) (map file_view gs)) same) whole)

pub loop-number-preserved : goal.loop-number-preserved
loop-number-preserved c rs tells =
    let fs = c.deref-file-items.result.now in
    let i = c.loop-number.number in
    let told = subst (λ gs. Repeats c.in_ok-repeats.repeats (bodies gs)) (sym c.deref-file-items.ensures.value) c.in_ok-repeats.ensures in
    let none = c.in_ok-check_definitions.ensures (bodies fs) told rs tells in
    c.loop-number.invariant rs tells ∙ cut rs (bodies fs) fs i c.file-item.result c.loop-number-test.true c.file-item.is ∙ ap (λ os. map (λ o. (i, o)) os ++ unopened_from rs (i + 1) (bodies fs) (map file_view (drop (i + 1) fs))) none

pub returns : goal.returns
returns c rs tells =
    let fs = c.deref-file-items.result.now in
    let i = c.loop-number.number in
    ap (λ gs. unopened_from rs 0 (bodies gs) (map file_view gs)) (sym c.deref-file-items.ensures.value)
    ∙ c.loop-number.invariant rs tells
    ∙ ap (λ gs. unopened_from rs i (bodies fs) (map file_view gs)) (drop_all i fs c.loop-number-test.false)
