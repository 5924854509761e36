-- What is inside a document opened once: f of each, numbers below one, and keys in their order.
use Rattle.std.specs.Prelude.{◌≡◌, ℕ, ◌<◌, List, [], ◌∷◌, map}
use Rattle.std.specs.List.{AllByRecursion}
use Rattle.std.specs.Ordering.{nat_cmp}
use Rattle.std.specs.declared.cmp.Ordering.TheVariants.{Less}
use Rattle.std.specs.Cmp.Lexicographic.{slice_cmp}
use Rattle.cs_document.specs.Document.{Entry}
use Rattle.cs_document.specs.Opened.{Opened, a_null, a_boolean, an_integer, a_text, a_list, an_object}

abbrev pub map_entry : {A B : Type 0} → (A → B) → Entry A → Entry B
map_entry f m = (m.0, f m.1)

-- the same with f of each inside
abbrev pub map_opened : {A B : Type 0} → (A → B) → Opened A → Opened B
map_opened f a_null = a_null
map_opened f (a_boolean b) = a_boolean b
map_opened f (an_integer z) = an_integer z
map_opened f (a_text s) = a_text s
map_opened f (a_list ys) = a_list (map f ys)
map_opened f (an_object ms) = an_object (map (map_entry f) ms)

-- each number inside is below n
abbrev pub InsideBelow : ℕ → Opened ℕ → Type 0
InsideBelow n a_null = Unit {0}
InsideBelow n (a_boolean b) = Unit {0}
InsideBelow n (an_integer z) = Unit {0}
InsideBelow n (a_text s) = Unit {0}
InsideBelow n (a_list ys) = AllByRecursion (λ y. y < n) ys
InsideBelow n (an_object ms) = AllByRecursion (λ (m : Entry ℕ). m.1 < n) ms

-- each key is above those before it, in byte order
abbrev pub KeysAscend : {A : Type 0} → List (Entry A) → Type 0
KeysAscend [] = Unit {0}
KeysAscend {A} (e ∷ es) = AllByRecursion (λ (m : Entry A). slice_cmp nat_cmp e.0 m.0 ≡ Less) es × KeysAscend es

-- those of a map do
abbrev pub AscendsInside : {A : Type 0} → Opened A → Type 0
AscendsInside a_null = Unit {0}
AscendsInside (a_boolean b) = Unit {0}
AscendsInside (an_integer z) = Unit {0}
AscendsInside (a_text s) = Unit {0}
AscendsInside (a_list ys) = Unit {0}
AscendsInside (an_object ms) = KeysAscend ms
