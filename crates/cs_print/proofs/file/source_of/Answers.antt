use Rattle.std.proofs.Common.{ap, ◌∙◌, ◌++◌, map}
use Rattle.std.specs.List.{flat_map}
use Rattle.cs_grammar.specs.Tree.{definitions}
use Rattle.cs_grammar.specs.View.{file_view}
use Rattle.cs_print.specs.Layout.{clause_text, definitions_text}
use Rattle.cs_print.specs.Printed.{first_clause}
use Rattle.cs_print.proofs.Files.{printed}
use Rattle.cs_print.proofs.file.source_of.Goals as goal

pub returns : goal.returns
returns c =
    let fs = map file_view c.args.files.now in
    let clause = clause_text (first_clause fs) in
    let rest = definitions_text (flat_map definitions fs) in
    printed fs c.requires.written c.requires.default_forms c.in_ok-put_files.ensures.utf8 _
    (c.in_ok-put_files.ensures.text ∙ ap (λ t. t ++ rest) (c.in_ok-put_clause.ensures ∙ ap (λ t. t ++ clause) c.new-source.ensures.bytes))
