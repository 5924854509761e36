use Rattle.std.proofs.Common.{sym, ◌∙◌}
use Rattle.std.specs.List.{filter}
use Rattle.std.proofs.lemmas.Map.Text.{btree_map_updates_str}
use Rattle.cs_grammar.proofs.Views.{view-text}
use Rattle.cs_embeddings.specs.ClashTable.{is_of_label}
use Rattle.cs_embeddings.specs.Views.{brought_view}
use Rattle.cs_embeddings.proofs.Clashing.{labels_more}
use Rattle.cs_embeddings.proofs.clashes.Seen.add.Goals as goal

pub returns : goal.returns
returns c before is told =
    let d = brought_view c.args.brought in
    let s = c.as_str-label.result.now in
    let seen = c.args.self.now in
    let label = view-text c.args.brought.field.now ∙ sym c.as_str-label.ensures.value in
    let own = c.with-own.ensures (filter (is_of_label s) before) is (c.of_label.ensures before told) in
    let puts = btree_map_updates_str s seen.by_label c.insert.new.self _ c.in_ok-insert.ensures.updates in
    record {
      all = c.with-self.ensures before is told.all;
      every = c.every_with-every.ensures before is told;
      labels = labels_more seen.by_label c.insert.new.self before d s c.with-own.result label told.labels own puts;
    }
