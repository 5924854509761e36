-- The first newline of a chunk, as it is searched for.
use Rattle.std.proofs.Common.{◌≡◌, ◌≢◌, ℕ, ◌+◌, ◌-◌, ◌<◌, ◌≤◌, List, [], ◌∷◌, ◌++◌, length, take, drop, get_or, eqb, true, inl, inr, ap, ap₂, subst, sym, refl, ◌∙◌, arith, append_assoc, length-drop}
use Rattle.std.proofs.Math.Seq.{take-add, take-length}
use Rattle.std.proofs.lemmas.Bool.Decides.{eqb_tells}
use Rattle.std.proofs.lemmas.List.{take_more, get_or-take, length-take, take_all, take-append-drop}
use Rattle.std.proofs.lemmas.List.Elements.{All-from_get_or}
use Rattle.memchr.specs.Find.{Nowhere, NoneBefore, Passes, is_byte}
use Rattle.cs_judge.specs.Lines.{IsLine}

is_newline : (b : ℕ) → eqb b 10 ≡ true → b ≡ 10
is_newline b h = elim (eqb_tells b 10) [ inl is ↦ is.1 | inr other ↦ absurd (cc (h, other.0)) ]

-- no newline before a place is no newline in the front that ends there
pub front_is_line : (bytes : List ℕ) (n : ℕ) → Nowhere (Passes (is_byte 10) bytes) 0 n → IsLine (take n bytes)
front_is_line bytes n none = All-from_get_or (λ b. b ≢ 10) (take n bytes) 0 (λ i lt is.
    let below : i < n = omega (arith, length-take n bytes) in
    none i (omega arith) below (ap (λ b. eqb b 10) (sym (get_or-take n bytes i 0 below) ∙ is)))

-- no newline in bytes makes them a line
pub all_is_line : (bytes : List ℕ) → Nowhere (Passes (is_byte 10) bytes) 0 (length bytes) → IsLine bytes
all_is_line bytes none = subst IsLine (take-length bytes) (front_is_line bytes (length bytes) none)

-- the chunk from a place on, as a slice
module _ (chunk : List ℕ) (at : ℕ) where
  abbrev pub from : List ℕ
  from = take (length chunk - at) (drop at chunk)

  from_is : from ≡ drop at chunk
  from_is = take_all (length chunk - at) (drop at chunk) (omega (arith, length-drop at chunk))

  pub front_and_from : take at chunk ++ from ≡ chunk
  front_and_from = ap (λ t. take at chunk ++ t) from_is ∙ take-append-drop at chunk

  -- the first newline there, with the line before it
  module _ (count : ℕ) (first : NoneBefore (Passes (is_byte 10) from) 0 (length from) count) (here : Passes (is_byte 10) from count) where
    abbrev pub piece : List ℕ
    piece = take (at + count - at) (drop at chunk)

    piece_is : take count from ≡ piece
    piece_is = let n : at + count - at ≡ count = omega arith in rw (n, from_is) refl

    pub within : at + (count + 1) ≤ length chunk
    within = omega (arith, first.high, ap length from_is, length-drop at chunk)

    pub piece_is_line : IsLine piece
    piece_is_line = subst IsLine piece_is (front_is_line from count first.before)

    pub taken : take (at + (count + 1)) chunk ≡ take at chunk ++ piece ++ 10 ∷ []
    taken =
        let last : get_or from count 0 ≡ 10 = is_newline (get_or from count 0) here in
        let cut : take (count + 1) from ≡ piece ++ 10 ∷ [] = take_more from count 0 first.high ∙ ap₂ (λ p b. p ++ b ∷ []) piece_is last in
        take-add at (count + 1) chunk ∙ ap (λ t. take at chunk ++ take (count + 1) t) (sym from_is) ∙ ap (λ t. take at chunk ++ t) cut ∙ sym (append_assoc (take at chunk) piece (10 ∷ []))
