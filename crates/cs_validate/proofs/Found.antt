-- A key is a name where something is under it.
use Rattle.std.proofs.Common.{◌≡◌, ℕ, true, false, ◌||◌, List, [], ◌∷◌, Some, is_some, String, Global, string_bytes, if◌then◌else◌, refl}
use Rattle.std.specs.List.{list_any}
use Rattle.std.specs.Str.{bytes_eq}
use Rattle.cs_document.specs.Document.{under}
use Rattle.cs_profile.specs.Numbered.{by_text, names_in}

pub named_there : {X : Type 0} (k : List ℕ) (es : List (String Global × X)) → is_some (under k (by_text es)) ≡ list_any (bytes_eq k) (names_in es)
named_there k [] = refl
named_there {X} k (e ∷ es) =
    elim (bytes_eq k (string_bytes e.0)) as (λ b. is_some (if b then Some e.1 else under k (by_text es)) ≡ (b || list_any (bytes_eq k) (names_in es))) [
      | true ↦ refl
      | false ↦ named_there k es
    ]
