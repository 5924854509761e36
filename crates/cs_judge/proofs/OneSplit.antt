-- Bytes have one list of lines, so that the answers of a run are for these and no others.
use Rattle.std.proofs.Common.{◌≡◌, ◌≢◌, ℕ, List, [], ◌∷◌, ◌++◌, refl, sym, ap₂, ◌∙◌, append_assoc}
use Rattle.std.specs.List.{All, flat_map}
use Rattle.std.proofs.lemmas.List.Elements.{All-head, All-tail}
use Rattle.cs_judge.specs.Lines.{IsLine, Splits, last_line, AreLines}
use Rattle.cs_tool.specs.Runs.{line_of}

abbrev other : ℕ → Type 0
other b = b ≢ 10

-- a newline ends the same line in both
first_line : (l m xs ys : List ℕ) → IsLine l → IsLine m → l ++ 10 ∷ xs ≡ m ++ 10 ∷ ys → (l ≡ m) × (xs ≡ ys)
first_line [] [] xs ys p q e = (refl, cc e)
first_line [] (b ∷ m) xs ys p q e = absurd (All-head other b m q (cc e))
first_line (a ∷ l) [] xs ys p q e = absurd (All-head other a l p (cc e))
first_line (a ∷ l) (b ∷ m) xs ys p q e =
    let heads : a ≡ b = cc e in
    let tails : l ++ 10 ∷ xs ≡ m ++ 10 ∷ ys = cc e in
    let same = first_line l m xs ys (All-tail other a l p) (All-tail other b m q) tails in
    (ap₂ (λ c t. c ∷ t) heads same.0, same.1)

-- a line has no newline
no_newline : (l m xs : List ℕ) → IsLine l → l ≡ m ++ 10 ∷ xs → ⊥
no_newline [] [] xs p e = cc e
no_newline [] (b ∷ m) xs p e = cc e
no_newline (a ∷ l) [] xs p e = All-head other a l p (cc e)
no_newline (a ∷ l) (b ∷ m) xs p e = let tails : l ≡ m ++ 10 ∷ xs = cc e in no_newline l m xs (All-tail other a l p) tails

ended_by : (l rest : List ℕ) (lines : List (List ℕ)) → flat_map line_of (l ∷ lines) ++ rest ≡ l ++ 10 ∷ (flat_map line_of lines ++ rest)
ended_by l rest lines = append_assoc (l ++ 10 ∷ []) (flat_map line_of lines) rest ∙ append_assoc l (10 ∷ []) (flat_map line_of lines ++ rest)

same_lines : (ls ms : List (List ℕ)) (r s : List ℕ) → All IsLine ls → All IsLine ms → IsLine r → IsLine s → flat_map line_of ls ++ r ≡ flat_map line_of ms ++ s → (ls ≡ ms) × (r ≡ s)
same_lines [] [] r s p q u v e = (refl, e)
same_lines [] (m ∷ ms) r s p q u v e = absurd (no_newline r m (flat_map line_of ms ++ s) u (e ∙ ended_by m s ms))
same_lines (l ∷ ls) [] r s p q u v e = absurd (no_newline s l (flat_map line_of ls ++ r) v (sym e ∙ ended_by l r ls))
same_lines (l ∷ ls) (m ∷ ms) r s p q u v e =
    let first = first_line l m (flat_map line_of ls ++ r) (flat_map line_of ms ++ s) (All-head IsLine l ls p) (All-head IsLine m ms q) (sym (ended_by l r ls) ∙ e ∙ ended_by m s ms) in
    let later = same_lines ls ms r s (All-tail IsLine l ls p) (All-tail IsLine m ms q) u v first.1 in
    (ap₂ (λ a b. a ∷ b) first.0 later.0, later.1)

pub one_split : (bytes : List ℕ) (ls ms : List (List ℕ)) (r s : List ℕ) → Splits bytes ls r → Splits bytes ms s → (ls ≡ ms) × (r ≡ s)
one_split bytes ls ms r s a b = same_lines ls ms r s a.each b.each a.open_end b.open_end (sym a.whole ∙ b.whole)

-- bytes have one list of lines
pub one_list : (bytes : List ℕ) (ls ms : List (List ℕ)) → AreLines bytes ls → AreLines bytes ms → ls ≡ ms
one_list bytes ls ms a b =
    let same = one_split bytes a.0 b.0 a.1 b.1 a.2 b.2 in
    a.3 ∙ ap₂ (λ lines rest. lines ++ last_line rest) same.0 same.1 ∙ sym b.3
