use Rattle.std.proofs.Common.{◌≡◌, ℕ, List, map, sym, ap, subst}
use Rattle.std.proofs.lemmas.Result.{err_from_is_err_and}
use Rattle.cs_grammar.specs.Tree.{FileTree}
use Rattle.cs_grammar.specs.View.{file_view}
use Rattle.cs_grammar.specs.declared.profile.Profile.{Profile}
use Rattle.cs_package.specs.Environment.{Environment}
use Rattle.cs_resolve.specs.Resolved.{IsPackage}
use Rattle.cs_guard.specs.Guarded.{IsGuarded}
use Rattle.cs_tool.specs.Accepted.{IsAccepted}
use Rattle.cs_tool.specs.Conversions.{of_resolve, of_guard}
use Rattle.cs_tool.specs.Given.{bytes_in}
use Rattle.cs_tool.specs.Stands.{AreMeantBy}
use Rattle.cs_tool.proofs.Declared.{are_package, is_guarded}
use Rattle.cs_tool.proofs.Refused.{by_resolve, by_guard}
use Rattle.cs_tool.proofs.packages.accepted_package.Goals as goal

-- the package is guarded as it was made of what the sources stand for
accepted : (p : Profile) (sources : List (List ℕ)) (gs : List FileTree) → AreMeantBy p sources gs → (P : Environment) → IsPackage gs P → (E : Environment) → E ≡ P → IsGuarded P
    → IsAccepted p sources E
accepted p sources gs m P one_package E same guarded = record {
  texts = m.texts;
  files = m.files;
  spelled = m.spelled;
  meant = gs;
  stand_for = m.stand_for;
  one_package = subst (IsPackage gs) (sym same) one_package;
  guarded = subst IsGuarded (sym same) guarded;
}

pub returns-in_err-meant-clause-only : goal.returns-in_err-meant-clause-only
returns-in_err-meant-clause-only c = λ E accepted.
    let r = err_from_is_err_and c.from_residual.result c.from_residual.ensures.1 in
    rw (r.1, r.2) (c.in_err-meant.ensures.only E accepted)

pub returns-in_err-resolve_written-clause-refused : goal.returns-in_err-resolve_written-clause-refused
returns-in_err-resolve_written-clause-refused c =
    let gs = map file_view c.in_ok-meant.meant.items in
    let r = err_from_is_err_and c.from_residual-in_err-resolve_written.result c.from_residual-in_err-resolve_written.ensures.1 in
    let why = by_resolve c.args.profile (bytes_in c.args.sources.now) gs c.in_ok-meant.ensures.found in
    rw (r.1, r.2) (why c.in_err-resolve_written.field-0.0 c.in_err-resolve_written.ensures.refused)

pub returns-in_err-resolve_written-clause-only : goal.returns-in_err-resolve_written-clause-only
returns-in_err-resolve_written-clause-only c = λ E accepted.
    let gs = map file_view c.in_ok-meant.meant.items in
    let m = c.in_ok-meant.ensures.found in
    let one_package = are_package c.args.profile (bytes_in c.args.sources.now) m.files m.spelled E accepted gs m.stand_for in
    let r = err_from_is_err_and c.from_residual-in_err-resolve_written.result c.from_residual-in_err-resolve_written.ensures.1 in
    rw (r.1, r.2) (ap of_resolve (c.in_err-resolve_written.ensures.only E one_package))

pub returns-in_err-package-clause-refused : goal.returns-in_err-package-clause-refused
returns-in_err-package-clause-refused c =
    let gs = map file_view c.in_ok-meant.meant.items in
    let r = err_from_is_err_and c.from_residual-in_err-package.result c.from_residual-in_err-package.ensures.1 in
    let why = by_guard c.args.profile (bytes_in c.args.sources.now) gs c.in_ok-meant.ensures.found in
    rw (r.1, r.2) (why _ c.in_ok-resolve_written.ensures.found c.in_err-package.field-0.0 c.in_err-package.ensures.refused)

pub returns-in_err-package-clause-only : goal.returns-in_err-package-clause-only
returns-in_err-package-clause-only c = λ E accepted.
    let gs = map file_view c.in_ok-meant.meant.items in
    let m = c.in_ok-meant.ensures.found in
    let guarded = is_guarded c.args.profile (bytes_in c.args.sources.now) m.files m.spelled E accepted gs m.stand_for _ c.in_ok-resolve_written.ensures.found in
    let r = err_from_is_err_and c.from_residual-in_err-package.result c.from_residual-in_err-package.ensures.1 in
    rw (r.1, r.2) (ap of_guard (c.in_err-package.ensures.only guarded))

pub returns-clause-accepted : goal.returns-clause-accepted
returns-clause-accepted c =
    let gs = map file_view c.in_ok-meant.meant.items in
    let m = c.in_ok-meant.ensures.found in
    accepted c.args.profile (bytes_in c.args.sources.now) gs m _ c.in_ok-resolve_written.ensures.found _ c.in_ok-package.ensures.found c.in_ok-package.ensures.guarded
