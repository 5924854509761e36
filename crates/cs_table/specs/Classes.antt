-- Classes of items, which a judge can't tell apart but by their verdicts so far.
use Rattle.std.specs.Prelude.{◌≡◌, ℕ, ◌<◌, List, Option, Some, slice_get}
use Rattle.cs_table.specs.Judged.{AllVerdicts, Judgement}

-- items of one class that have the same verdicts by a table get the same answers by it
abbrev pub AnswersByClass : ℕ → Judgement → (ℕ → ℕ → Type 0) → Type 0
AnswersByClass rules judge is_of =
    (i j c : ℕ) → is_of i c → is_of j c → (f : AllVerdicts) → ((q : ℕ) → q < rules → f i q ≡ f j q) → (r : ℕ) → r < rules → judge i r f ≡ judge j r f

-- at the place of each class an item of it before n, where there is one at all
abbrev pub AreFirsts : ℕ → (ℕ → ℕ → Type 0) → List (Option ℕ) → Type 0
AreFirsts n is_of firsts = (c j : ℕ) → slice_get firsts c ≡ Some (Some j) → (j < n) × is_of j c
