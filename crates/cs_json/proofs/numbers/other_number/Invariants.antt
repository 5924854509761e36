use Rattle.std.proofs.Common.{length}
use Rattle.cs_json.proofs.numbers.other_number.Given as goal

abbrev pub decreases-loop-token : goal.decreases-loop-token
decreases-loop-token l = length l.reader
