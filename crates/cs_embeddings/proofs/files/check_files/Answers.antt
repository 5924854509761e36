use Rattle.std.proofs.Common.{◌≡◌, [], Some, map, sym, ap, ◌∙◌, subst}
use Rattle.std.specs.List.{flat_map}
use Rattle.cs_grammar.specs.Tree.{body}
use Rattle.cs_grammar.specs.View.{definition_view}
use Rattle.cs_embeddings.proofs.FoundFiles.{first_in, none_in, none_at_all}
use Rattle.cs_embeddings.specs.Checks.{IsFirst, flaw_view}
use Rattle.cs_embeddings.specs.Flaws.{flaws, unknown, no_struct}
use Rattle.cs_embeddings.proofs.files.check_files.Goals as goal

pub returns-in-Err-Unknown : goal.returns-in-Err-Unknown
returns-in-Err-Unknown c ds tells =
    let here =
    subst (λ xs. IsFirst (flaw_view c.in-Err-Unknown.field-0) (flat_map (λ d. flaws ds (body d)) (map definition_view xs))) c.deref.ensures.value
    (c.in-Err-Unknown.ensures ds tells) in
    let same = ap flaw_view c.in-Err-Unknown.field-0-is ∙ ap (λ o. Some (unknown o)) (sym c.in-Err-Unknown.at-is) in
    first_in (flaws ds) c.args.files.now c.loop-file.file
    (c.loop-file.invariant ds tells) c.index-files-file.result c.loop-file-test.true c.index-files-file.is _
    (subst (λ f. IsFirst f (flat_map (λ d. flaws ds (body d)) (map definition_view c.index-files-file.result.definitions.items))) same here)

pub returns-in-Err-NoStruct : goal.returns-in-Err-NoStruct
returns-in-Err-NoStruct c ds tells =
    let here =
    subst (λ xs. IsFirst (flaw_view c.in-Err-NoStruct.field-0) (flat_map (λ d. flaws ds (body d)) (map definition_view xs))) c.deref.ensures.value
    (c.in-Err-NoStruct.ensures ds tells) in
    let same = ap flaw_view c.in-Err-NoStruct.field-0-is ∙ ap (λ o. Some (no_struct o)) (sym c.in-Err-NoStruct.at-is) in
    first_in (flaws ds) c.args.files.now c.loop-file.file
    (c.loop-file.invariant ds tells) c.index-files-file.result c.loop-file-test.true c.index-files-file.is _
    (subst (λ f. IsFirst f (flat_map (λ d. flaws ds (body d)) (map definition_view c.index-files-file.result.definitions.items))) same here)

pub loop-file-preserved : goal.loop-file-preserved
loop-file-preserved c ds tells =
    none_in (flaws ds) c.args.files.now c.loop-file.file (c.loop-file.invariant ds tells) c.index-files-file.result c.loop-file-test.true c.index-files-file.is
    (subst (λ xs. flat_map (λ d. flaws ds (body d)) (map definition_view xs) ≡ []) c.deref.ensures.value (c.in-Ok.ensures ds tells))

pub returns : goal.returns
returns c ds tells = none_at_all (flaws ds) c.args.files.now c.loop-file.file (c.loop-file.invariant ds tells) c.loop-file-test.false
