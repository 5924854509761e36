use Rattle.std.proofs.Common.{◌≡◌, None, sym, ap, ◌∙◌}
use Rattle.std.proofs.lemmas.Map.Text.{btree_map_updates_str}
use Rattle.cs_grammar.specs.View.{expr_view, definition_view}
use Rattle.cs_plain.specs.Bodies.{body_of}
use Rattle.cs_plain.proofs.BodyTables.{bodies_added, at_name, vec_items}
use Rattle.cs_plain.proofs.bodies.Bodies.add.Goals.{in-Some, in-None}
use Rattle.cs_plain.proofs.bodies.Bodies.add.Goals as goal

pub returns : goal.returns
returns c bs told =
    let d = c.args.definition.now in
    let name = c.as_str-name.result in
    let m = c.args.self.now.by_name in
    let r = c.remove.new.self in
    let v = c.push.new.self in
    let n = c.insert.new.self in
    let without = btree_map_updates_str name.now m r None c.remove.ensures.updates in
    let after = btree_map_updates_str name.now c.remove.new.self n _ c.in_ok-insert.ensures.updates in
    let taken : c.match-remove.bodies.items ≡ vec_items (at_name name.now m) = elim c.match-remove.branch [
      | in-Some w ↦ ap (λ w. w.items) w.bodies-is ∙ ap vec_items (sym w.in-Some.is ∙ c.remove.ensures.value)
      | in-None w ↦ ap (λ w. w.items) w.bodies-is ∙ w.new-bodies.ensures.items ∙ ap vec_items (sym w.in-None.is ∙ c.remove.ensures.value)
    ] in
    record { table = bodies_added m r n bs (body_of (definition_view d)) _ c.match-remove.bodies v name.now told.table (ap (λ s. record { name = s; value = expr_view d.body }) c.as_str-name.ensures.value) c.as_str-name.ensures.value taken c.in_ok-push.ensures.items without after; none = told.none }
