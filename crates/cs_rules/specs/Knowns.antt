-- The verdicts that are known when a value is judged.
use Rattle.std.specs.Prelude.{ℕ, Bool, length, slice_index}
use Rattle.cs_table.specs.Judged.{verdicts}
use Rattle.cs_rules.specs.declared.known.Known.{Known}

-- those on the value itself, by the number of a rule
abbrev pub verdict_here : Known → ℕ → Bool
verdict_here k p = verdicts k.done.now k.item p

-- those on a value inside, by a place in the list of rules that are asked of values inside
abbrev pub verdict_inside : Known → ℕ → ℕ → Bool
verdict_inside k y p = verdicts k.done.now y (slice_index k.children.now p)

-- how many values and rules the table has, and how many rules are asked of values inside
abbrev pub value_count : Known → ℕ
value_count k = k.done.now.items

abbrev pub rule_count : Known → ℕ
rule_count k = k.done.now.rules

abbrev pub place_count : Known → ℕ
place_count k = length k.children.now
