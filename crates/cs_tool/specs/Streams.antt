-- What a reader gave and a writer took, where they tell their bytes.
use Rattle.std.specs.Prelude.{◌≡◌, ℕ, ◌<◌, ◌≤◌, List, length, take, Option, IfSome}
use Rattle.std.specs.Io.KnownBytes.{Appends, Consumes}

-- the bytes are all those up to the reader's end
abbrev pub IsWholeInput : Option (List ℕ) → List ℕ → Type 0
IsWholeInput remaining bytes = IfSome remaining (λ xs. bytes ≡ xs)

-- more bytes come than the limit
abbrev pub IsLonger : ℕ → Option (List ℕ) → Type 0
IsLonger limit remaining = IfSome remaining (λ xs. limit < length xs)

-- how many bytes are asked for at a time
abbrev pub chunk_bytes : ℕ
chunk_bytes = 4096

-- the reader gave no more bytes than so many
abbrev pub LosesAtMost : ℕ → Option (List ℕ) → Option (List ℕ) → Type 0
LosesAtMost most old new = (given : List ℕ) × (length given ≤ most) × Consumes old new given

-- the writer took a front of the text, and nothing else
abbrev pub AppendsFront : Option (List ℕ) → Option (List ℕ) → List ℕ → Type 0
AppendsFront old new text = (n : ℕ) × (n ≤ length text) × Appends old new (take n text)
