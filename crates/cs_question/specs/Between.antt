-- Integers between limits.
use Rattle.std.specs.Prelude.{◌≡◌, ℕ, ℤ, Bool, true, ◌&&◌, List, Option, Some, None, int_le}
use Rattle.cs_document.specs.Document.{Document}
use Rattle.cs_document.specs.Opened.{opened}
use Rattle.cs_instance.specs.Constraint.{Outline, outline, Constraint, simple, all_of, any_of, object_of, list_of, is_integer, at_most_or_any}
use Rattle.cs_question.specs.Nodes.{IsSide}

abbrev pub at_least_or_any : Option ℤ → ℤ → Bool
at_least_or_any None z = true
at_least_or_any (Some least) z = int_le least z

abbrev pub is_between : Option ℤ → Option ℤ → ℤ → Bool
is_between least greatest z = at_least_or_any least z && at_most_or_any greatest z

-- by each judgement of a side a test says of a document whether it is an integer between limits
abbrev pub AreBetween : List (Constraint ℕ ℕ) → ((ℕ → Document → Bool) → Document → Bool) → Option ℤ → Option ℤ → Type 0
AreBetween cs test least greatest = (J : ℕ → Document → Bool) → IsSide cs J → (x : Document) → test J x ≡ is_integer (is_between least greatest) (outline (opened x))

-- the integers between limits are asked for
abbrev pub IsRange : Constraint ℕ ℕ → Option ℤ → Option ℤ → Type 0
IsRange (simple p) least greatest = (o : Outline) → p o ≡ is_integer (is_between least greatest) o
IsRange (all_of rs) least greatest = ⊥
IsRange (any_of rs) least greatest = ⊥
IsRange (object_of ds opened) least greatest = ⊥
IsRange (list_of es rest) least greatest = ⊥
