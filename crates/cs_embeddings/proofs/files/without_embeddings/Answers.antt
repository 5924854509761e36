use Rattle.std.proofs.Common.{map, sym, ap, ◌∙◌, subst}
use Rattle.std.proofs.lemmas.Result.{err_from_is_err_and}
use Rattle.cs_grammar.specs.View.{file_view}
use Rattle.cs_embeddings.proofs.FileAnswers.{refused_flaw, no_flaw, found_of, within_of, refused_of, only_of}
use Rattle.cs_embeddings.proofs.LeftParts.{left_well}
use Rattle.cs_embeddings.proofs.Flawless.{flawless_files}
use Rattle.std.specs.List.{AllByRecursion}
use Rattle.cs_embeddings.specs.Checks.{TellsBodies, TellsTables}
use Rattle.cs_embeddings.specs.GatheredTable.{AreSound, left_view}
use Rattle.cs_embeddings.specs.Made.{AreLeftWell, MakesFiles}
use Rattle.cs_embeddings.specs.Without.{all_definitions}
use Rattle.cs_embeddings.proofs.files.without_embeddings.Goals as goal

pub returns : goal.returns
returns c =
    let fs = map file_view c.args.files.now in let ds = all_definitions fs in
    let tells = c.in_ok-bodies.ensures in
    let steps = c.in_ok-embeddable.ensures.tells ds tells in
    let same = subst (λ b. TellsBodies b ds) (sym c.in_ok-embeddable.ensures.same) tells in
    let tables : TellsTables c.in_ok-embeddable.embeddable ds = record { bodies = same; steps = steps } in
    let flawless = c.in_ok-check_files.ensures ds (record { bodies = tells; steps = steps; same = same; narrowing = c.in_ok-narrowing.ensures ds tables }) in
    let well = flawless_files fs flawless in
    let lent = c.deref.ensures.value in
    let left = ap (map left_view) lent ∙ c.in_ok-kept.ensures.found tables in
    let sound = subst (AllByRecursion (AreSound ds)) (sym lent) (c.in_ok-kept.ensures.sound tables) in
    let made =
    subst (MakesFiles c.joined_files.result ds) left
    (c.joined_files.ensures ds tables well sound (subst (AllByRecursion (AreLeftWell ds)) (sym left) (left_well fs well))) in
    let r = c.joined_files.result in
    record {
      found = found_of fs flawless r made;
      within = within_of fs flawless r made;
      refused = refused_of fs flawless r made;
      only = λ none apart within. only_of fs none apart within r made;
    }

pub returns-in_err-check_files-clause-refused : goal.returns-in_err-check_files-clause-refused
returns-in_err-check_files-clause-refused c =
    let fs = map file_view c.args.files.now in let ds = all_definitions fs in
    let tells = c.in_ok-bodies.ensures in
    let steps = c.in_ok-embeddable.ensures.tells ds tells in
    let same = subst (λ b. TellsBodies b ds) (sym c.in_ok-embeddable.ensures.same) tells in
    let tables : TellsTables c.in_ok-embeddable.embeddable ds = record { bodies = same; steps = steps } in
    let narrowing = c.in_ok-narrowing.ensures ds tables in
    let p = err_from_is_err_and c.from_residual-in_err-check_files.result c.from_residual-in_err-check_files.ensures.1 in
    let flaw = c.in_err-check_files.ensures ds (record { bodies = tells; steps = steps; same = same; narrowing = narrowing }) in
    rw (p.1, p.2) (refused_flaw fs _ flaw)

pub returns-in_err-check_files-clause-only : goal.returns-in_err-check_files-clause-only
returns-in_err-check_files-clause-only c none apart within =
    let fs = map file_view c.args.files.now in let ds = all_definitions fs in
    let tells = c.in_ok-bodies.ensures in
    let steps = c.in_ok-embeddable.ensures.tells ds tells in
    let same = subst (λ b. TellsBodies b ds) (sym c.in_ok-embeddable.ensures.same) tells in
    let tables : TellsTables c.in_ok-embeddable.embeddable ds = record { bodies = same; steps = steps } in
    let narrowing = c.in_ok-narrowing.ensures ds tables in
    let p = err_from_is_err_and c.from_residual-in_err-check_files.result c.from_residual-in_err-check_files.ensures.1 in
    let flaw = c.in_err-check_files.ensures ds (record { bodies = tells; steps = steps; same = same; narrowing = narrowing }) in
    rw (p.1, p.2) (no_flaw fs none _ flaw)
