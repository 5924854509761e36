use Rattle.std.proofs.lemmas.Result.{err_from_is_err_and}
use Rattle.cs_grammar.specs.Limits.{most_height, most_nodes}
use Rattle.cs_grammar.specs.View.{file_view}
use Rattle.cs_embeddings.proofs.FileParts.{own_file, file_clashes, files_made, files_unmade}
use Rattle.cs_embeddings.proofs.JoinedParts.{of_map}
use Rattle.cs_embeddings.proofs.Parts.{all_at, one_made, all_made}
use Rattle.cs_embeddings.specs.GatheredTable.{AreSound, left_view}
use Rattle.cs_embeddings.specs.Made.{AreLeftWell}
use Rattle.cs_embeddings.proofs.files.joined_files.Goals as goal

pub returns-in_err-joined_file : goal.returns-in_err-joined_file
returns-in_err-joined_file c ds tells well sounds wells =
    let p = err_from_is_err_and c.from_residual-in_err-joined_file.result c.from_residual-in_err-joined_file.ensures.1 in
    let xs = c.args.files.now in let i = c.loop-file.file in let x = c.index-files-file.result in
    let sound = all_at (AreSound ds) xs i x c.loop-file-test.true c.index-files-file.is sounds in
    let one = all_at (λ f. AreLeftWell ds (left_view f)) xs i x c.loop-file-test.true c.index-files-file.is
    (of_map (AreLeftWell ds) left_view xs wells) in
    rw (p.1, p.2)
    (files_unmade ds xs i x c.loop-file-test.true c.index-files-file.is c.loop-file.nodes c.loop-file.joined.items
    (c.loop-file.invariant ds tells well sounds wells) c.in_err-joined_file.field-0.0
    (c.in_err-joined_file.ensures ds tells well sound one))

pub loop-file-preserved : goal.loop-file-preserved
loop-file-preserved c ds tells well sounds wells =
    let xs = c.args.files.now in let i = c.loop-file.file in let x = c.index-files-file.result in
    let sound = all_at (AreSound ds) xs i x c.loop-file-test.true c.index-files-file.is sounds in
    let one = all_at (λ f. AreLeftWell ds (left_view f)) xs i x c.loop-file-test.true c.index-files-file.is
    (of_map (AreLeftWell ds) left_view xs wells) in
    one_made file_view (own_file ds) _ _ (file_clashes ds) most_height most_nodes xs i x c.loop-file-test.true c.index-files-file.is
    c.loop-file.nodes c.joined_file.new.nodes c.loop-file.joined.items _ c.in_ok-joined_file.field-0 c.in_ok-push.ensures.items
    (c.loop-file.invariant ds tells well sounds wells) (c.in_ok-joined_file.ensures ds tells well sound one)

pub returns : goal.returns
returns c ds tells well sounds wells =
    let xs = c.args.files.now in
    files_made ds xs c.loop-file.joined.items c.loop-file.nodes
    (all_made file_view (own_file ds) _ _ (file_clashes ds) most_height most_nodes xs c.loop-file.file c.loop-file-test.false
    c.loop-file.nodes c.loop-file.joined.items (c.loop-file.invariant ds tells well sounds wells))
