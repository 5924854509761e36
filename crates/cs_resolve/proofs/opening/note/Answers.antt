use Rattle.std.proofs.Common.{refl, sym, ◌∙◌}
use Rattle.std.proofs.lemmas.Map.Text.{btree_map_updates_str}
use Rattle.cs_grammar.specs.View.{expr_view}
use Rattle.cs_resolve.proofs.RepeatTables.{noted}
use Rattle.cs_resolve.proofs.opening.note.Goals as goal

pub returns-in_ok-insert : goal.returns-in_ok-insert
returns-in_ok-insert c ns told =
    let name = c.args.name.now in
    let after = btree_map_updates_str name c.args.repeats.now c.insert.new.self _ c.in_ok-insert.ensures.updates in
    noted c.args.repeats.now ns name (expr_view c.args.value.now) told (sym c.has_literal_or_reference.ensures ∙ c.if-has_literal_or_reference.true) c.insert.new.self c.plus-count.result (c.plus-count.ensures _ 1 (c.count_of.ensures ns told) refl) after
