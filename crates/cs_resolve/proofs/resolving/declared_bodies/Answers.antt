use Rattle.std.proofs.Common.{◌≡◌, ◌+◌, ◌++◌, map, take, drop, length, refl, sym, ap, ◌∙◌, subst, arith}
use Rattle.std.specs.List.{flat_map}
use Rattle.std.proofs.lemmas.List.{drop_all, take_all}
use Rattle.std.proofs.lemmas.Result.{err_from_is_err_and}
use Rattle.cs_grammar.specs.Tree.{definitions}
use Rattle.cs_grammar.specs.View.{definition_view, file_view}
use Rattle.cs_resolve.specs.Declarations.{faults_from, places_of}
use Rattle.cs_resolve.specs.Steps.{faults_in, AreBodiesOf}
use Rattle.cs_package.specs.View.{names_of}
use Rattle.cs_resolve.proofs.Faults.{faults-cut, refusal-first, refusal-same}
use Rattle.cs_resolve.proofs.Gathered.{bodies-none, length-names}
use Rattle.cs_resolve.proofs.Trees.{definitions_more}
use Rattle.cs_resolve.proofs.resolving.declared_bodies.Goals as goal

pub loop-number-init : goal.loop-number-init
loop-number-init c =
    let es = c.args.names.now.entries in
    let vs = c.in_ok-bodies.bodies.items in
    let long : length vs ≡ length es = omega (arith, c.len.ensures.len, c.in_ok-bodies.ensures.long) in
    record {
      long = sym long;
      bodies = λ rs held. bodies-none rs (names_of es) vs (long ∙ sym (length-names es)) c.in_ok-bodies.ensures.empty;
      faults = λ rs held. refl;
    }

pub returns-in_err-add_bodies : goal.returns-in_err-add_bodies
returns-in_err-add_bodies c rs held =
    let fs = c.deref-file-items.result.now in
    let f = c.file-item.result in
    let l = c.loop-number in
    let i = l.number in
    let within = c.loop-number-test.true in
    let e = c.in_err-add_bodies.field-0.0 in
    let p = err_from_is_err_and c.from_residual-in_err-add_bodies.result c.from_residual-in_err-add_bodies.ensures.1 in
    let ns = names_of c.args.names.now.entries in
    let found = faults_in i ns (places_of (map definition_view f.definitions.items)) in
    let rest = faults_from (i + 1) ns (map file_view (drop (i + 1) fs)) in
    let first = refusal-first e found rest (c.in_err-add_bodies.ensures.faults rs held) in
    let all = ap (λ gs. faults_from 0 ns (map file_view gs)) (sym c.deref-file-items.ensures.value) ∙ l.invariant.faults rs held ∙ faults-cut ns fs i f within c.file-item.is in
    rw (p.1, p.2) (refusal-same e (found ++ rest) (faults_from 0 ns (map file_view c.args.files.now.items)) (sym all) first)

pub loop-number-preserved : goal.loop-number-preserved
loop-number-preserved c =
    let fs = c.deref-file-items.result.now in
    let f = c.file-item.result in
    let l = c.loop-number in
    let i = l.number in
    let within = c.loop-number-test.true in
    let ns = names_of c.args.names.now.entries in
    let before = flat_map definitions (map file_view (take i fs)) in
    record {
      long = omega (arith, l.invariant.long, c.in_ok-add_bodies.ensures.long);
      bodies = λ rs held. subst (λ ds. AreBodiesOf rs ns c.add_bodies.new.bodies.items ds) (sym (definitions_more fs i f within c.file-item.is)) (c.in_ok-add_bodies.ensures.added rs before held (l.invariant.bodies rs held));
      faults = λ rs held. l.invariant.faults rs held ∙ faults-cut ns fs i f within c.file-item.is ∙ ap (λ xs. xs ++ faults_from (i + 1) ns (map file_view (drop (i + 1) fs))) (c.in_ok-add_bodies.ensures.faults rs held).1;
    }

pub returns : goal.returns
returns c rs held =
    let fs = c.deref-file-items.result.now in
    let l = c.loop-number in
    let ns = names_of c.args.names.now.entries in
    let same = c.deref-file-items.ensures.value in
    let all = c.loop-number-test.false in (
      subst (λ gs. AreBodiesOf rs ns l.bodies.items (flat_map definitions (map file_view gs))) (take_all l.number fs all ∙ same) (l.invariant.bodies rs held),
      ap (λ gs. faults_from 0 ns (map file_view gs)) (sym same) ∙ l.invariant.faults rs held ∙ ap (λ gs. faults_from l.number ns (map file_view gs)) (drop_all l.number fs all),
    )
