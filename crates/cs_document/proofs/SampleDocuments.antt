-- Documents written briefly, for the samples of this crate and of those above it.
use Rattle.std.proofs.Common.{ℕ, pos, List, [], ◌∷◌, codes}
use Rattle.cs_document.specs.Document.{Document, integer, text, list, object, Members, no_members, member, Entry}
use Rattle.cs_document.specs.View.{documents_of}
use Prim.Native.String.{String}

abbrev pub number : ℕ → Document
number n = integer (pos n)

abbrev pub string : String → Document
string s = text (codes s)

abbrev pub array : List Document → Document
array ds = list (documents_of ds)

abbrev pub members : List (Entry Document) → Members
members [] = no_members
members (e ∷ es) = member e.0 e.1 (members es)

abbrev pub map_of : List (Entry Document) → Document
map_of es = object (members es)

-- the same with keys written as texts
abbrev pub named_members : List (String × Document) → Members
named_members [] = no_members
named_members (e ∷ es) = member (codes e.0) e.1 (named_members es)

abbrev pub named_map : List (String × Document) → Document
named_map es = object (named_members es)
