use Rattle.std.proofs.Common.{◌≡◌, w64, to_z, of_z, rules}
use Rattle.std.proofs.lemmas.Result.{on_ok_weaker}
use Rattle.cs_instance.proofs.AlikeScalars.{least_told, range_told, more_integers, two_integers}
use Rattle.cs_instance.proofs.marks.mark_range.Goals as goal

pub returns-in-Some-clause-told : goal.returns-in-Some-clause-told
returns-in-Some-clause-told c =
    let least : to_z w64 (of_z w64 c.args.least) ≡ c.args.least = search rules in
    let greatest : to_z w64 (of_z w64 c.in-Some.limit) ≡ c.in-Some.limit = search rules in
    let mid = c.integer.new.self in
    rw c.in-Some.is (on_ok_weaker c.integer-in-Some.result
    (range_told c.args.least c.in-Some.limit c.args.marks.now mid c.integer-in-Some.new.self (rw least at c.in_ok-integer.ensures))
    (rw greatest at c.integer-in-Some.ensures))

pub returns-in-Some-clause-more : goal.returns-in-Some-clause-more
returns-in-Some-clause-more c =
    on_ok_weaker c.integer-in-Some.result (two_integers _ _ c.args.marks.now c.integer.new.self c.integer-in-Some.new.self c.in_ok-integer.ensures) c.integer-in-Some.ensures

pub returns-in-None-clause-told : goal.returns-in-None-clause-told
returns-in-None-clause-told c =
    let least : to_z w64 (of_z w64 c.args.least) ≡ c.args.least = search rules in
    rw c.in-None.is (least_told c.args.least c.args.marks.now c.integer.new.self (rw least at c.in_ok-integer.ensures))

pub returns-in-None-clause-more : goal.returns-in-None-clause-more
returns-in-None-clause-more c = more_integers _ c.args.marks.now c.integer.new.self c.in_ok-integer.ensures
