use Rattle.std.proofs.Common.{◌++◌, map, sym, ap₂, ◌∙◌}
use Rattle.cs_grammar.specs.View.{definition_view}
use Rattle.cs_embeddings.specs.Bodies.{as_declared}
use Rattle.cs_embeddings.proofs.Keeping.{one_file_behind, all_declared_before}
use Rattle.cs_embeddings.proofs.kept.declared_in_files.Goals as goal

pub loop-file-preserved : goal.loop-file-preserved
loop-file-preserved c =
    let fs = c.args.files.now in let i = c.loop-file.file-index in let f = c.file-item.result in
    c.in_ok-add_declared.ensures
    ∙ ap₂ (λ bs es. bs ++ map as_declared (map definition_view es)) c.loop-file.invariant c.deref.ensures.value
    ∙ sym (one_file_behind fs i f c.loop-file-test.true c.file-item.is)

pub returns : goal.returns
returns c = c.loop-file.invariant ∙ all_declared_before c.args.files.now c.loop-file.file-index c.loop-file-test.false
