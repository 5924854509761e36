-- What a list literal asks of a place.
use Rattle.std.specs.Prelude.{◌≡◌, ◌<◌, ◌≤◌, ℕ, zero, suc, Bool, true, false, List, [], ◌∷◌, length}
use Rattle.cs_document.specs.Document.{Document, Documents, list, elements, IsDocument, depth}
use Rattle.cs_instance.specs.Constraint.{Rest, nothing, anything, each}
use Rattle.cs_question.specs.declared.nodes.Literal.{Literal}
use Rattle.cs_question.specs.declared.nodes.Nodes.{Nodes}
use Rattle.cs_question.specs.declared.table.Table.{Table}
use Rattle.cs_question.specs.Asked.{meets_all}
use Rattle.cs_question.specs.Nodes.{IsMeaning}
use Rattle.cs_question.specs.Truth.{Truth}

abbrev pub element_at : List ℕ → Rest ℕ → ℕ → Rest ℕ
element_at [] rest i = rest
element_at (e ∷ es) rest zero = each e
element_at (e ∷ es) rest (suc i) = element_at es rest i

-- whether a document is as asked there
abbrev pub fits : (Document → ℕ → Bool) → Rest ℕ → Document → Bool
fits inside nothing y = false
fits inside anything y = true
fits inside (each e) y = inside y e

-- a place is the one that is meant, or also one behind it
abbrev pub IsFrom : ℕ → Bool → ℕ → Type 0
IsFrom place false i = i ≡ place
IsFrom place true i = place ≤ i

-- the length that is meant, or also a longer one
abbrev pub IsOfLength : Bool → ℕ → ℕ → Type 0
IsOfLength false count n = n ≡ count
IsOfLength true count n = count < n

-- no list of such a length is all that is asked
abbrev pub NoLength : Nodes → Table → List Literal → (ℕ → Type 0) → Type 0
NoLength ns table ls P = table.is_final ≡ true → (t : Truth table.entries.items) → IsMeaning ns t.J → (ds : Documents) → IsDocument (list ds) → depth (list ds) ≤ t.n → P (length (elements ds)) → meets_all t.J (list ds) ls ≡ true → ⊥
