-- Pairs that are in no set.
use Rattle.std.proofs.Common.{◌≡◌, ℕ, ◌<◌, ◌≤◌, true, false, get_or}
use Rattle.cs_reasons.specs.Marked.{marked}
use Rattle.cs_reasons.specs.declared.marks.Marks.{Marks}
use Rattle.cs_reasons.proofs.Bits.{within, past_rules, past_items, without_flag}

pub beyond_rules : (m : Marks) (i r : ℕ) → m.rules ≤ r → marked m i r ≡ false
unfolding marked
beyond_rules m i r l = past_rules m.bytes.items m.items m.rules i r l

pub beyond_items : (m : Marks) (i r : ℕ) → m.items ≤ i → marked m i r ≡ false
unfolding marked
beyond_items m i r l = past_items m.bytes.items m.items m.rules i r l

pub unflagged : (m : Marks) (i r : ℕ) → get_or m.any.items i false ≡ false → marked m i r ≡ false
unfolding marked
unflagged m i r e = without_flag m.bytes.items m.any.items m.items m.rules i r m.shown e

pub is_within : (m : Marks) (i r : ℕ) → marked m i r ≡ true → (i < m.items) × (r < m.rules)
unfolding marked
is_within m i r e = within m.bytes.items m.items m.rules i r e
