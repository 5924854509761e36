use Rattle.std.proofs.Common.{◌≡◌, true, List, map, sym, ap, ◌∙◌, subst}
use Rattle.std.specs.List.{AllByRecursion, flat_map, list_all}
use Rattle.std.proofs.lemmas.Result.{err_from_is_err_and}
use Rattle.cs_grammar.specs.Tree.{definitions}
use Rattle.cs_grammar.specs.View.{file_view}
use Rattle.cs_grammar.specs.declared.ast.File.{File}
use Rattle.cs_resolve.specs.Declarations.{faults_from}
use Rattle.cs_package.specs.Joined.{IsJoined}
use Rattle.cs_resolve.specs.Unopened.{unopened_files}
use Rattle.cs_resolve.specs.Refinement.{Refinements, AreRefinements}
use Rattle.cs_resolve.specs.ClosedBases.{bases, is_refinement}
use Rattle.cs_resolve.specs.Narrowed.{HoldBases, TellsRefinements}
use Rattle.cs_resolve.specs.declared.refinement.Bases as table
use Rattle.cs_package.specs.View.{bodies_of, is_known, names_of}
use Rattle.cs_resolve.proofs.BaseLaw.{found_refinements, one_refinements}
use Rattle.cs_resolve.proofs.Faults.{name-refusal, opening-refusal, opening-none, refusal-none, refusal-same}
use Rattle.cs_resolve.proofs.Gathered.{environment-gathered, length-bodies, length-names}
use Rattle.cs_resolve.proofs.JoinedTrees.{joined-gathered}
use Rattle.cs_resolve.proofs.OpeningRule.{opened_law}
use Rattle.cs_resolve.proofs.resolving.small_package.Goals as goal

-- the plain refinements of files, by their closed bases
abbrev refinements : List File → Refinements
refinements fs = is_refinement (bases (flat_map definitions (map file_view fs)))

are_refinements : (fs : List File) → AreRefinements (flat_map definitions (map file_view fs)) (refinements fs)
are_refinements fs = found_refinements (flat_map definitions (map file_view fs))

-- the table of the closed bases tells them
tells : (b : table.Bases) (fs : List File) → HoldBases b (bases (flat_map definitions (map file_view fs))) → (rs : Refinements) → AreRefinements (flat_map definitions (map file_view fs)) rs → TellsRefinements b rs
tells b fs held rs are =
    let ds = flat_map definitions (map file_view fs) in
    record { labels = bases ds; held = held; same = one_refinements ds (refinements fs) rs (are_refinements fs) are }

pub returns-in_err-bodies-clause-refused : goal.returns-in_err-bodies-clause-refused
returns-in_err-bodies-clause-refused c =
    let fs = map file_view c.args.files.now.items in
    let found = c.in_ok-names.ensures.found in
    let e = c.in_err-bodies.field-0.0 in
    let p = err_from_is_err_and c.from_residual-in_err-bodies.result c.from_residual-in_err-bodies.ensures.1 in
    rw (p.1, p.2) (name-refusal e fs c.requires.agree c.requires.small (refusal-same e _ _ (ap (λ ns. faults_from 0 ns fs) found) (c.in_err-bodies.ensures (refinements c.args.files.now.items) (tells c.args.bases.now c.args.files.now.items c.requires.held (refinements c.args.files.now.items) (are_refinements c.args.files.now.items)))))

pub returns-in_err-bodies-clause-only : goal.returns-in_err-bodies-clause-only
returns-in_err-bodies-clause-only c E h =
    let fs = map file_view c.args.files.now.items in
    let found = c.in_ok-names.ensures.found in
    let p = err_from_is_err_and c.from_residual-in_err-bodies.result c.from_residual-in_err-bodies.ensures.1 in
    rw (p.1, p.2) (refusal-none c.in_err-bodies.field-0.0 _ (ap (λ ns. faults_from 0 ns fs) found ∙ h.resolved) (c.in_err-bodies.ensures (refinements c.args.files.now.items) (tells c.args.bases.now c.args.files.now.items c.requires.held (refinements c.args.files.now.items) (are_refinements c.args.files.now.items))))

pub returns-in_err-check_opened-clause-refused : goal.returns-in_err-check_opened-clause-refused
returns-in_err-check_opened-clause-refused c =
    let fs = map file_view c.args.files.now.items in
    let rs = refinements c.args.files.now.items in
    let are = are_refinements c.args.files.now.items in
    let found = c.in_ok-names.ensures.found in
    let p = err_from_is_err_and c.from_residual-in_err-check_opened.result c.from_residual-in_err-check_opened.ensures.1 in
    let resolved = sym (ap (λ ns. faults_from 0 ns fs) found) ∙ (c.in_ok-bodies.ensures (refinements c.args.files.now.items) (tells c.args.bases.now c.args.files.now.items c.requires.held (refinements c.args.files.now.items) (are_refinements c.args.files.now.items))).1 in
    rw (p.1, p.2) (opening-refusal c.in_err-check_opened.field-0.0 fs rs are c.requires.agree c.requires.small resolved (c.in_err-check_opened.ensures rs (tells c.args.bases.now c.args.files.now.items c.requires.held rs are)))

pub returns-in_err-check_opened-clause-only : goal.returns-in_err-check_opened-clause-only
returns-in_err-check_opened-clause-only c E h =
    let fs = map file_view c.args.files.now.items in
    let p = err_from_is_err_and c.from_residual-in_err-check_opened.result c.from_residual-in_err-check_opened.ensures.1 in
    rw (p.1, p.2) (opening-none c.in_err-check_opened.field-0.0 (unopened_files h.refinements fs) ((opened_law h.refinements fs).1 h.opened) (c.in_err-check_opened.ensures h.refinements (tells c.args.bases.now c.args.files.now.items c.requires.held h.refinements h.are_refinements)))

pub package_of-requires : goal.package_of-requires
package_of-requires c =
    let es = c.in_ok-names.names.entries in
    let vs = c.in_ok-bodies.bodies.items in
    let there = (c.in_ok-bodies.ensures (refinements c.args.files.now.items) (tells c.args.bases.now c.args.files.now.items c.requires.held (refinements c.args.files.now.items) (are_refinements c.args.files.now.items))).0 in
    record {
      long = sym (length-names es) ∙ length-bodies (refinements c.args.files.now.items) (names_of es) vs _ there;
      table = c.in_ok-names.ensures.table;
      known = subst (λ n. AllByRecursion (λ v. list_all (is_known n) v.items ≡ true) vs) (length-names es) there.known;
      joined = subst (AllByRecursion (AllByRecursion IsJoined)) (sym there.same) (joined-gathered (refinements c.args.files.now.items) (names_of es) (map file_view c.args.files.now.items) c.requires.formed);
    }

pub returns-clause-found : goal.returns-clause-found
returns-clause-found c =
    let fs = map file_view c.args.files.now.items in
    let rs = refinements c.args.files.now.items in
    let are = are_refinements c.args.files.now.items in
    let told = tells c.args.bases.now c.args.files.now.items c.requires.held rs are in
    let es = c.in_ok-names.names.entries in
    let found = c.in_ok-names.ensures.found in
    let shaped = c.in_ok-bodies.ensures rs told in
    record {
      agree = c.requires.agree;
      small = c.requires.small;
      resolved = sym (ap (λ ns. faults_from 0 ns fs) found) ∙ shaped.1;
      refinements = rs;
      are_refinements = are;
      opened = (opened_law rs fs).0 (c.in_ok-check_opened.ensures rs told);
      declares = c.package_of.ensures ∙ environment-gathered rs fs (names_of es) (bodies_of (names_of es) c.in_ok-bodies.bodies.items) found shaped.0.same;
    }
