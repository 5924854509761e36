use Rattle.std.proofs.Common.{◌+◌, ◌*◌}
use Rattle.cs_question.proofs.table.Table.+making.Given as goal

abbrev pub decreases-doc_of : goal.decreases-doc_of
decreases-doc_of l = 2 * l.depth

abbrev pub decreases-list_of : goal.decreases-list_of
decreases-list_of l = 2 * l.depth + 1

abbrev pub decreases-map_of : goal.decreases-map_of
decreases-map_of l = 2 * l.depth + 1
