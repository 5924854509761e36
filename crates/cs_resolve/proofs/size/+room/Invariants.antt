use Rattle.std.proofs.Common.{◌≡◌, ◌+◌, drop}
use Rattle.cs_grammar.specs.Size.{nodes_all, nodes_fields}
use Rattle.cs_grammar.specs.View.{exprs_view, fields_view}
use Rattle.cs_resolve.proofs.size.+room.Given as goal

abbrev pub invariant-room_after_all-loop-operand : goal.invariant-room_after_all-loop-operand
invariant-room_after_all-loop-operand l = l.left + nodes_all (exprs_view l.operand-items) ≡ l.fn.room + nodes_all (exprs_view (drop l.operand-index l.operand-items))

abbrev pub invariant-room_after_fields-loop-field : goal.invariant-room_after_fields-loop-field
invariant-room_after_fields-loop-field l = l.left + nodes_fields (fields_view l.field-items) ≡ l.fn.room + nodes_fields (fields_view (drop l.field-index l.field-items))
