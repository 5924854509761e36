use Rattle.std.proofs.Common.{rules, ◌≡◌, false, ap, ◌∙◌}
use Rattle.std.proofs.lemmas.Map.Text.{btree_map_updates_str}
use Rattle.cs_grammar.specs.declared.ast.Field as Field
use Rattle.cs_grammar.specs.View.{field_view}
use Rattle.cs_conditions.specs.Asked.{is_every}
use Rattle.cs_conditions.specs.Checks.{asked_field}
use Rattle.cs_conditions.proofs.Parts.{asked_added}
use Rattle.cs_conditions.proofs.known.Known.add_field.Goals as goal

pub returns : goal.returns
returns c known tells =
    let f = field_view c.args.field.now in
    let name = c.as_str-label.result.now in
    let single : is_every f.mark ≡ false = search (rules, Field.the_lemmas) in
    let same : name ≡ f.label.text = search (rules, Field.the_lemmas) in
    let more = c.with_value-more.ensures known tells ∙ ap (λ a. asked_field known a f) c.of_label.ensures in
    let after = btree_map_updates_str name c.args.asked.now.table c.insert.new.self _ c.in_ok-insert.ensures.updates in
    asked_added known c.args.asked.now (record { table = c.insert.new.self }) f c.with_value-more.result name single same more after
