-- Which comments are the text of what is declared first on a line (own rule; CUE leaves open what comments belong to).
use Rattle.std.specs.Prelude.{ℕ, List, [], ◌∷◌, ◌++◌, Bool, ◌==◌, if◌then◌else◌, Option, Some, None, reverse, take, slice_get}
use Rattle.std.specs.List.{join_by, list_all}
use Rattle.cs_comments.specs.declared.texts.Line.{Line}
use Rattle.cs_comments.specs.declared.texts.Line.TheVariants.{Alone, Behind, Plain}

-- the comments of the run of lines that are alone right above a place; the lines above it are given from the nearest on
abbrev pub above : List Line → List (List ℕ)
above (Alone c ∷ ls) = above ls ++ c.now ∷ []
above _ = []

-- the comment on a line, if there is one
abbrev pub comment_on : Option Line → List (List ℕ)
comment_on (Some (Alone c)) = c.now ∷ []
comment_on (Some (Behind c)) = c.now ∷ []
comment_on (Some Plain) = []
comment_on None = []

-- those, or these where there are none
abbrev pub or_else : List (List ℕ) → List (List ℕ) → List (List ℕ)
or_else [] ds = ds
or_else (c ∷ cs) ds = c ∷ cs

abbrev pub comments_at : List Line → ℕ → List (List ℕ)
comments_at ls i = or_else (above (reverse (take i ls))) (comment_on (slice_get ls i))

abbrev pub is_newline : ℕ → Bool
is_newline x = x == 10

-- a text with a character at least that is no newline
abbrev pub some_text : List ℕ → Option (List ℕ)
some_text xs = if list_all is_newline xs then None else Some xs

-- the comments in one text, parted by newlines (10)
abbrev pub text_at : List Line → ℕ → Option (List ℕ)
text_at ls i = some_text (join_by (λ c. c) (10 ∷ []) (comments_at ls i))
