-- The keywords of an object one by one, and keywords in the order of their names.
use Rattle.std.proofs.Common.{◌≡◌, ℕ, Bool, false, ◌||◌, List, [], ◌∷◌, map, Option, option_map, Less, bytes_eq, sym, ap, ap₂, ◌∙◌, rules}
use Rattle.std.specs.Cmp.Lexicographic.{slice_cmp}
use Rattle.std.specs.Ordering.{nat_cmp}
use Rattle.cs_document.specs.Document.{Document}
use Rattle.cs_profile.specs.Keywords.{name_of, slot_keywords}
use Rattle.cs_profile.specs.SchemaDocument.{Slot, value_of, value_at, with_value, set_slot, slots_of, schema_view}
use Rattle.cs_profile.specs.Shapes.{form_of}
use Rattle.cs_profile.specs.declared.keyword.Keyword.{Keyword}
use Rattle.cs_profile.specs.declared.keyword.Keyword.TheVariants as keyword
use Rattle.cs_profile.specs.declared.schema.KeywordValue.{KeywordValue}
use Rattle.cs_profile.specs.declared.schema.Schema.{Schema}
use Rattle.cs_profile.specs.declared.schema.Keywords.{Keywords, out-Keywords, the_lemmas}
use Rattle.cs_profile.specs.declared.schema.Schema.TheFolds.{map-Keywords}

-- the document that a keyword's value stands for, if the keyword is there
abbrev pub slot_of : Keywords → Keyword → Option Document
slot_of k keyword.AdditionalProperties = option_map schema_view k.additional
slot_of k keyword.Items = option_map schema_view k.rest
slot_of k keyword.Not = option_map schema_view k.negated
slot_of k w = value_of (map-Keywords Schema Keywords Document (List Slot) schema_view slots_of (out-Keywords k)) w

abbrev pub slots_at : Keywords → List Keyword → List Slot
slots_at k = map (λ w. (name_of w, slot_of k w))

pub slots_are : (k : Keywords) → slots_of k ≡ slots_at k slot_keywords
slots_are k = search (rules, the_lemmas)

-- an object got a value for the keyword w
pub is_set : (w x : Keyword) → x ≡ w → (old new : Keywords) (v : KeywordValue) (o : Option Document) → o ≡ value_at (form_of w) v
    → slots_at new slot_keywords ≡ set_slot (name_of w) o (slots_at old slot_keywords) → slots_of new ≡ with_value x v (slots_of old)
is_set w x is old new v o read set =
    slots_are new ∙ set ∙ ap₂ (set_slot (name_of w)) read (sym (slots_are old)) ∙ ap (λ k. with_value k v (slots_of old)) (sym is)

-- the names are above k
abbrev pub Above : List ℕ → List Slot → Type 0
Above k [] = Unit {0}
Above k (s ∷ ss) = (slice_cmp nat_cmp k s.0 ≡ Less) × Above k ss

abbrev pub Ordered : List Slot → Type 0
Ordered [] = Unit {0}
Ordered (s ∷ ss) = Above s.0 ss × Ordered ss

abbrev pub has_slot : List ℕ → List Slot → Bool
has_slot k [] = false
has_slot k (s ∷ ss) = bytes_eq k s.0 || has_slot k ss
