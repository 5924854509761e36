-- Which comments are texts, by the definitions.
use Rattle.std.proofs.Common.{◌≡◌, ℕ, List, [], ◌∷◌, ◌++◌, Some, None, codes, refl}
use Rattle.std.specs.Borrow.{Bor}
use Rattle.cs_comments.specs.declared.texts.Line.{Line}
use Rattle.cs_comments.specs.declared.texts.Line.TheVariants.{Alone, Behind, Plain}
use Rattle.cs_comments.specs.Comments.{text_at}

abbrev text : List ℕ → Bor (List ℕ)
text s = record { ref_ptr = (0, 0); now = s }

-- a comment on each of two lines, a blank line, three comments of which one is empty, a line with a comment behind it, one with
-- another, one without, and an empty comment above the last one
abbrev lines : List Line
lines =
    Alone (text (codes "a")) ∷ Behind (text (codes "b")) ∷ Plain ∷ Alone (text (codes "c")) ∷ Alone (text []) ∷ Alone (text (codes "d"))
    ∷ Behind (text (codes "e")) ∷ Behind (text (codes "f")) ∷ Plain ∷ Alone (text []) ∷ Behind (text (codes "g")) ∷ []

one_above : text_at lines 1 ≡ Some (codes "a")
one_above = refl

-- none is taken from behind a blank line, and the one behind isn't taken beside those above
run_above : text_at lines 6 ≡ Some (codes "c" ++ (10 ∷ 10 ∷ codes "d"))
run_above = refl

-- the comment of the line above belongs to what is there
behind : text_at lines 7 ≡ Some (codes "f")
behind = refl

no_comment : text_at lines 8 ≡ None
no_comment = refl

-- an empty comment above is the text, and so there is none
empty_above : text_at lines 10 ≡ None
empty_above = refl

-- and so it is where there are two
two_empty_above : text_at (Alone (text []) ∷ Alone (text []) ∷ Plain ∷ []) 2 ≡ None
two_empty_above = refl

behind_blank_line : text_at (Alone (text (codes "a")) ∷ Plain ∷ Plain ∷ []) 2 ≡ None
behind_blank_line = refl

past_end : text_at (Behind (text (codes "a")) ∷ []) 1 ≡ None
past_end = refl

-- as where a source ends behind its last comment
past_last_comment : text_at (Alone (text (codes "a")) ∷ []) 5 ≡ Some (codes "a")
past_last_comment = refl
