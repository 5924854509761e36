use Rattle.std.proofs.Common.{map, take, refl, sym, subst}
use Rattle.std.proofs.lemmas.List.{take_all}
use Rattle.cs_grammar.specs.View.{file_view}
use Rattle.cs_plain.proofs.Folds.{numbered_more}
use Rattle.cs_names.specs.Checks.{TellsScope}
use Rattle.cs_names.specs.Scopes.{open_scope, shared_from}
use Rattle.cs_grammar.specs.Tree.{names}
use Rattle.cs_names.proofs.scopes.Scope.open.Goals as goal

pub loop-file-preserved : goal.loop-file-preserved
loop-file-preserved c =
    let xs = c.args.files.now in
    let i = c.loop-file.file in
    let more = numbered_more (λ k ys. shared_from k (map file_view ys)) (λ k y. open_scope k (names (file_view y))) (λ k. refl) (λ k f fs. refl) xs i c.index-files-file.result c.loop-file-test.true c.index-files-file.is in
    subst (TellsScope c.add_open.new.self) (sym more) (c.in_ok-add_open.ensures (shared_from 0 (map file_view (take i xs))) c.loop-file.invariant)

pub returns : goal.returns
returns c =
    subst (λ ys. TellsScope c.loop-file.scope (shared_from 0 (map file_view ys))) (take_all c.loop-file.file (c.args.files.now) c.loop-file-test.false) c.loop-file.invariant
