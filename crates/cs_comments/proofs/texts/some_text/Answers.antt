use Rattle.std.proofs.Common.{◌≡◌, rules, tests, true, if◌then◌else◌, Some, None, string_bytes, ap, sym, ◌∙◌}
use Rattle.std.specs.List.{list_all}
use Rattle.std.proofs.lemmas.Iterator.{YieldsList-from_slice}
use Rattle.std.proofs.lemmas.Iterator.Search.{all_from_yields_List}
use Rattle.cs_comments.specs.Comments.{is_newline}
use Rattle.cs_comments.proofs.texts.some_text.Goals as goal

pub returns-then-is_empty : goal.returns-then-is_empty
returns-then-is_empty c =
    let bytes = c.as_bytes.result.now in
    let all : c.all-is_empty.result ≡ list_all is_newline bytes =
    all_from_yields_List is_newline _ _ c.all-is_empty.result c.all-is_empty.ensures.ran (YieldsList-from_slice bytes cc) (λ x b q k. search (rules, tests)) in
    let none : list_all is_newline (string_bytes c.args.text) ≡ true = ap (list_all is_newline) (sym c.as_bytes.ensures.value) ∙ sym all ∙ c.if-is_empty.true in
    sym (ap (λ b. if b then None else Some (string_bytes c.args.text)) none)
