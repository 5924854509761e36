use Rattle.std.proofs.Common.{◌+◌, ◌*◌}
use Rattle.cs_instance_reasons.proofs.near.literals.Search.+leading.Given as goal

abbrev pub decreases-is_led : goal.decreases-is_led
decreases-is_led l = 2 * l.depth

abbrev pub decreases-some_is_led : goal.decreases-some_is_led
decreases-some_is_led l = 2 * l.depth + 1

abbrev pub decreases-each_is_led : goal.decreases-each_is_led
decreases-each_is_led l = 2 * l.depth + 1
