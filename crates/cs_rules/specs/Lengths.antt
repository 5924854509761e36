-- How long the texts of a document are, as far as that is known: a number for each of its first items.
use Rattle.std.specs.Prelude.{◌≡◌, ℕ, List, Some, slice_get}
use Rattle.cs_document.specs.Opened.{Opened, a_text}
use Rattle.cs_document.specs.Sizes.{text_length}

-- what is known of the item i, if anything is, is how long this text is
abbrev pub TellsLength : List ℕ → ℕ → List ℕ → Type 0
TellsLength lengths i s = (n : ℕ) → slice_get lengths i ≡ Some n → n ≡ text_length s

-- so it is of each item that is a text
abbrev pub AreLengths : List (Opened ℕ) → List ℕ → Type 0
AreLengths items lengths = (i : ℕ) (s : List ℕ) → slice_get items i ≡ Some (a_text s) → TellsLength lengths i s

pub tells : (items : List (Opened ℕ)) (lengths : List ℕ) (i : ℕ) (s : List ℕ) → AreLengths items lengths → slice_get items i ≡ Some (a_text s) → TellsLength lengths i s
tells items lengths i s are e = are i s e
