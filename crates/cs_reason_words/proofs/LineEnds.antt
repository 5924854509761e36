-- Texts that end in a line.
use Rattle.std.proofs.Common.{◌≡◌, ◌≢◌, ℕ, List, ◌∷◌, ◌++◌, sym, ◌∙◌, append_assoc, codes}
use Rattle.cs_reason_words.specs.Valid.{EndsInLine}

-- one does behind any other one
pub ends_behind : (text before front : List ℕ) (last : ℕ) → last ≢ 10 → text ≡ before ++ (front ++ last ∷ codes "\n") → EndsInLine text
ends_behind text before front last full put = record { front = before ++ front; last = last; full = full; ends = put ∙ sym (append_assoc before front (last ∷ codes "\n")) }
