-- Keywords put to the members of an object one after the other.
use Rattle.std.specs.Str.{bytes_eq}
use Rattle.cs_profile.specs.Keywords.{name_of}
use Rattle.cs_profile.specs.declared.keyword.Keyword.{Keyword}
use Rattle.std.specs.Prelude.{ℕ, List, [], ◌∷◌, ◌≡◌, Option, Some, None, Result, IfOk, option_map, if◌then◌else◌}
use Rattle.std.specs.declared.alloc.AllocError.{AllocError}
use Rattle.cs_document.specs.Document.{Document, Members, put}
use Rattle.cs_document.specs.View.{doc_view}
use Rattle.cs_document.specs.declared.doc.Doc.{Doc}
use Rattle.cs_profile.specs.SchemaDocument.{Slot}

-- what is written of a value, if anything, unless memory runs out
abbrev pub Writes : Result (Option Doc) AllocError → Option Document → Type 0
Writes r d = IfOk r (λ o. option_map doc_view o ≡ d)

-- a keyword with a value is put to the others
abbrev pub put_some : List ℕ → Option Document → Members → Members
put_some k None ms = ms
put_some k (Some v) ms = put k v ms

abbrev pub put_all : List Slot → Members → Members
put_all [] ms = ms
put_all (s ∷ ss) ms = put_all ss (put_some s.0 s.1 ms)

-- the value of a keyword among others
abbrev pub slot_value : List ℕ → List Slot → Option Document
slot_value k [] = None
slot_value k (s ∷ ss) = if bytes_eq k s.0 then s.1 else slot_value k ss

-- the slots of some keywords, with the values that they have among others
abbrev pub slots_for : List Slot → List Keyword → List Slot
slots_for ss [] = []
slots_for ss (w ∷ ws) = (name_of w, slot_value (name_of w) ss) ∷ slots_for ss ws
