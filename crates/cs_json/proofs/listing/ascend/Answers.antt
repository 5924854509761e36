use Rattle.std.proofs.Common.{rules}
use Rattle.std.proofs.lemmas.List.Sorted.{answers_always}
use Rattle.cs_json.proofs.Entries.{is_below, ascends_if}
use Rattle.cs_json.proofs.listing.ascend.Goals as goal

pub returns : goal.returns
returns c = ascends_if c.args.entries.now c.is_sorted_by.result (c.is_sorted_by.ensures.cases is_below (answers_always _ _ _ (λ f a r g called. search rules)))
