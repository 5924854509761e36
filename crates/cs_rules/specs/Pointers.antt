-- Where a value is in a document: the steps of a JSON pointer (RFC 6901, section 4).
use Rattle.std.specs.Prelude.{◌≡◌, ℕ, List, [], ◌∷◌, Some, slice_get}
use Rattle.cs_document.specs.Document.{Document, under}
use Rattle.cs_document.specs.Opened.{Opened, a_list, an_object, opened}

-- a reference token: the key of a member, or the place of an element, from 0 on
pub data Step : Type 0 where
  key : List ℕ → Step
  place : ℕ → Step

-- the step leads from a value, opened once, to this one of those directly inside it
abbrev pub LeadsTo : {A : Type 0} → Step → Opened A → A → Type 0
LeadsTo (key k) (an_object ms) y = under k ms ≡ Some y
LeadsTo (place n) (a_list ys) y = slice_get ys n ≡ Some y
LeadsTo s x y = ⊥

-- these steps lead from x to y, one after the other
abbrev pub At : List Step → Document → Document → Type 0
At [] x y = x ≡ y
At (s ∷ ss) x y = (z : Document) × LeadsTo s (opened x) z × At ss z y
