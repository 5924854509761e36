-- What descriptions and defaults say of validity: nothing (JSON Schema Validation 2020-12, sections 9.1 and 9.2).
use Rattle.std.specs.Prelude.{◌≡◌, Bool}
use Rattle.cs_document.specs.Document.{Document}
use Rattle.cs_profile.specs.Validity.{IsValidity}

-- two schema documents validate the same documents
abbrev pub SameValidity : Document → Document → Type 0
SameValidity d e = (V W : Document → Document → Bool) → IsValidity d V → IsValidity e W → (x : Document) → V d x ≡ W e x

-- each schema validates the same documents by the definitions of either, in particular a reference to one of them
abbrev pub SameDefinitions : Document → Document → Type 0
SameDefinitions d e = (V W : Document → Document → Bool) → IsValidity d V → IsValidity e W → (s x : Document) → V s x ≡ W s x
