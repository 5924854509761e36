use Rattle.std.proofs.Common.{◌≡◌, true, [], ◌++◌, map, ap, ◌∙◌, subst}
use Rattle.std.proofs.lemmas.Result.{err_from_is_err_and}
use Rattle.cs_grammar.specs.View.{file_view}
use Rattle.cs_plain.specs.Placed.{in_places}
use Rattle.cs_plain.specs.References.{references_in}
use Rattle.cs_names.specs.Checks.{FailsAny}
use Rattle.cs_names.specs.Flaws.{flaws_in}
use Rattle.cs_names.specs.Joined.{unused, joined}
use Rattle.cs_names.specs.Lifted.{all_definitions, lifts, shared}
use Rattle.cs_names.specs.Named.{named_files, value_names}
use Rattle.cs_names.specs.Names.{name_faults}
use Rattle.cs_names.proofs.Found.{fails_left, fails_right, refusal, no_fault}
use Rattle.cs_plain.proofs.Walks.{none_left}
use Rattle.cs_names.proofs.files.lifted_files.Goals as goal

pub returns-in_err-check_files-clause-refused : goal.returns-in_err-check_files-clause-refused
returns-in_err-check_files-clause-refused c tells told =
    let fs = map file_view c.args.files.now in
    let gs = named_files fs in
    let ts = lifts fs in
    let e = c.in_err-check_files.field-0.0 in
    let p = err_from_is_err_and c.from_residual.result c.from_residual.ensures.1 in
    let here = c.in_err-check_files.ensures (all_definitions fs) ts (shared fs) tells told in
    rw (p.1, p.2) (refusal e fs (fails_left e (flaws_in fs) (unused (references_in true gs) ts ++ joined gs ts) here))

pub returns-in_err-check_files-clause-only : goal.returns-in_err-check_files-clause-only
returns-in_err-check_files-clause-only c tells told none =
    let fs = map file_view c.args.files.now in
    let gs = named_files fs in
    let ts = lifts fs in
    let e = c.in_err-check_files.field-0.0 in
    let p = err_from_is_err_and c.from_residual.result c.from_residual.ensures.1 in
    let here = c.in_err-check_files.ensures (all_definitions fs) ts (shared fs) tells told in
    rw (p.1, p.2) (no_fault e (name_faults fs) none (fails_left e (flaws_in fs) (unused (references_in true gs) ts ++ joined gs ts) here))

pub returns-in_err-check_named-clause-refused : goal.returns-in_err-check_named-clause-refused
returns-in_err-check_named-clause-refused c tells told =
    let fs = map file_view c.args.files.now in
    let gs = named_files fs in
    let all = all_definitions fs in
    let ts = lifts fs in
    let e = c.in_err-check_named.field-0.0 in
    let p = err_from_is_err_and c.from_residual-in_err-check_named.result c.from_residual-in_err-check_named.ensures.1 in
    let is : map file_view c.deref.result.now ≡ gs = ap (map file_view) c.deref.ensures.value ∙ c.in_ok-named.ensures all ts (shared fs) tells told in
    let here = subst (λ xs. FailsAny e (unused (references_in true xs) ts ++ joined xs ts)) is (c.in_err-check_named.ensures all ts tells) in
    rw (p.1, p.2) (refusal e fs (fails_right e (flaws_in fs) (unused (references_in true gs) ts ++ joined gs ts) (c.in_ok-check_files.ensures all ts (shared fs) tells told) here))

pub returns-in_err-check_named-clause-only : goal.returns-in_err-check_named-clause-only
returns-in_err-check_named-clause-only c tells told none =
    let fs = map file_view c.args.files.now in
    let gs = named_files fs in
    let all = all_definitions fs in
    let ts = lifts fs in
    let e = c.in_err-check_named.field-0.0 in
    let p = err_from_is_err_and c.from_residual-in_err-check_named.result c.from_residual-in_err-check_named.ensures.1 in
    let is : map file_view c.deref.result.now ≡ gs = ap (map file_view) c.deref.ensures.value ∙ c.in_ok-named.ensures all ts (shared fs) tells told in
    let here = subst (λ xs. FailsAny e (unused (references_in true xs) ts ++ joined xs ts)) is (c.in_err-check_named.ensures all ts tells) in
    rw (p.1, p.2) (no_fault e (name_faults fs) none (fails_right e (flaws_in fs) (unused (references_in true gs) ts ++ joined gs ts) (c.in_ok-check_files.ensures all ts (shared fs) tells told) here))

pub returns-clause-found : goal.returns-clause-found
returns-clause-found c tells told =
    let fs = map file_view c.args.files.now in
    let gs = named_files fs in
    let all = all_definitions fs in
    let ts = lifts fs in
    let named = c.in_ok-named.ensures all ts (shared fs) tells told in
    let is : map file_view c.deref.result.now ≡ gs = ap (map file_view) c.deref.ensures.value ∙ named in
    let before : map file_view c.deref-2.result.now ≡ gs = ap (map file_view) c.deref-2.ensures.value ∙ named in
    let placed = c.in_ok-in_places.ensures (value_names ts) (c.in_ok-names.ensures all ts tells) in
    let rest = subst (λ xs. unused (references_in true xs) ts ++ joined xs ts ≡ []) is (c.in_ok-check_named.ensures all ts tells) in record {
      faultless = none_left (flaws_in fs) (unused (references_in true gs) ts ++ joined gs ts) (c.in_ok-check_files.ensures all ts (shared fs) tells told) ∙ rest;
      apart = tells.apart;
      named = placed ∙ ap (in_places (value_names ts)) before;
    }
