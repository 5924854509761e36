-- The keywords that a schema is made of; for private contracts and proofs alone.
use Rattle.std.specs.Prelude.{ℕ, suc, pos, List, [], ◌∷◌, map, length, Option, Some, None, codes}
use Rattle.cs_document.specs.Document.{Document, integer, text}
use Rattle.cs_profile.specs.Keywords.{name_of, slot_keywords}
use Rattle.cs_profile.specs.SchemaDocument.{Slot, set_slot}

-- the keywords of an object, none of which stands
abbrev pub no_slots : List Slot
no_slots = map (λ w. (name_of w, None)) slot_keywords

-- the type alone
abbrev pub typed : List ℕ → List Slot
typed t = set_slot (codes "type") (Some (text t)) no_slots

-- as many elements as there are schemas, if there are any
abbrev pub least_count : List Document → Option Document
least_count [] = None
least_count (d ∷ ds) = Some (integer (pos (suc (length ds))))
