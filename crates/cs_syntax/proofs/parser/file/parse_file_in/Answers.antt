use Rattle.std.proofs.lemmas.Result.{err_from_is_err_and}
use Rattle.cs_grammar.specs.View.{file_view}
use Rattle.cs_syntax.proofs.Places.{stuck_refused}
use Rattle.cs_syntax.proofs.QuotedTexts.{cut_quoted, taken_quoted}
use Rattle.cs_syntax.proofs.FileAnswers.{spelled_found, spelled_only, stuck_only, file_refused}
use Rattle.cs_syntax.proofs.parser.file.parse_file_in.Goals as goal

pub returns-in_err-tokens-clause-only : goal.returns-in_err-tokens-clause-only
returns-in_err-tokens-clause-only c f s =
    let p = err_from_is_err_and c.from_residual.result c.from_residual.ensures.1 in
    rw (p.1, p.2) (stuck_only c.args.profile file_view c.args.source.now c.in_err-tokens.field-0.0 c.in_err-tokens.ensures.refused f s)

pub returns-clause-found : goal.returns-clause-found
returns-clause-found c = spelled_found c.args.profile file_view c.args.source.now c.file_within.result _ c.in_ok-tokens.ensures.found (rw (c.deref.ensures.value, c.taken.ensures) at c.file_within.ensures)

pub returns-clause-only : goal.returns-clause-only
returns-clause-only c f s = spelled_only c.args.profile file_view c.args.source.now c.file_within.result _ c.in_ok-tokens.ensures.found (rw (c.deref.ensures.value, c.taken.ensures) at c.file_within.ensures) f s

pub returns-in_err-tokens-clause-refused : goal.returns-in_err-tokens-clause-refused
returns-in_err-tokens-clause-refused c =
    let p = err_from_is_err_and c.from_residual.result c.from_residual.ensures.1 in
    rw (p.1, p.2) (stuck_refused c.args.profile c.args.source.now c.in_err-tokens.field-0.0 c.in_err-tokens.ensures.refused)

pub returns-clause-refused : goal.returns-clause-refused
returns-clause-refused c = file_refused c.args.profile file_view c.args.source.now c.file_within.result _ c.in_ok-tokens.ensures.found (rw (c.deref.ensures.value, c.taken.ensures) at c.file_within.ensures)

pub file_within-requires : goal.file_within-requires
file_within-requires c = rw (c.deref.ensures.value, c.taken.ensures) (taken_quoted c.args.profile _ (cut_quoted c.in_ok-tokens.ensures.found))
