-- Definitions by rank: each behind those that it refers to directly.
use Rattle.std.specs.Prelude.{◌≡◌, ℕ, ◌<◌, ◌++◌, ◌⊎◌, List, false, Some, None, map, flat_map, length, take, drop, Contains, string_bytes, if◌then◌else◌}
use Rattle.std.specs.List.{All, AllByRecursion}
use Rattle.std.specs.List.Sorted.{IsNonDecreasingBy, IsPermutation}
use Rattle.std.specs.Str.{bytes_eq}
use Rattle.cs_document.specs.Document.{Document, Entry}
use Rattle.cs_profile.specs.Keywords.{defined}
use Rattle.cs_profile.specs.Loops.{RefersDirectly, IsRank}
use Rattle.cs_profile.specs.SchemaDocument.{SchemaValue, schema_view}
use Rattle.cs_validate.specs.declared.numbering.definitions.Placement.{Placement}
use Rattle.cs_validate.specs.declared.numbering.definitions.Ranked.{Ranked}
use Rattle.cs_validate.specs.Rules.{subschemas}
use Rattle.cs_validate.specs.Placing.{waiting, State, AreNumberedBy, AreAt, placed_by, left_by, number_in, IsKnown, Places}

-- the definitions of a schema document, by name
abbrev pub definitions_of : SchemaValue → List (Entry Document)
definitions_of v = map (λ m. (string_bytes m.0, schema_view m.1)) v.definitions

-- a definition's name, and its schema
abbrev pub name_of : Ranked → List ℕ
name_of d = string_bytes d.name.now

abbrev pub schema_of : Ranked → Document
schema_of d = schema_view d.schema.now

abbrev pub definition : Ranked → Entry Document
definition d = (name_of d, schema_of d)

-- it is a definition of the root R, with its rank
pub record IsRanked (R : Document) (d : Ranked) : Type 0 where
  pub found : defined R (name_of d) ≡ Some (schema_of d)
  pub height : IsRank R (name_of d) d.rank
  pub falls : (m : List ℕ) (q : ℕ) → RefersDirectly R (name_of d) m → IsRank R m q → q < d.rank

-- all definitions of R, by rank
pub record AreRanked (R : Document) (ds : List Ranked) : Type 0 where
  pub ranks : All (IsRanked R) ds
  pub sorted : IsNonDecreasingBy (λ d. d.rank) ds
  pub all : (n : List ℕ) → Contains (map name_of ds) n ⊎ (defined R n ≡ None)

-- with a definition numbered, its rules are behind those before, and its name has its number
pub record PlacesOne (d : Ranked) (old new : Placement) : Type 0 where
  pub number : ℕ
  pub placed : Places old.numbers old.numberer new.numberer (schema_of d) number
  pub names : new.numbers.0 ≡ old.numbers.0
  pub named : (m : List ℕ) → number_in new.numbers m ≡ (if bytes_eq (name_of d) m then Some number else number_in old.numbers m)

-- these definitions and no others have their numbers, and what they ask of documents inside waits
pub record ArePlacedBy (R : Document) (ds : List Ranked) (p : Placement) : Type 0 where
  pub numbered : AreNumberedBy R (flat_map placed_by (map schema_of ds)) p.numberer
  pub waits : waiting p.numberer.pending.items ≡ flat_map left_by (map schema_of ds)
  pub known : AllByRecursion (IsKnown R p.numbers (flat_map placed_by (map schema_of ds))) (map name_of ds)
  pub others : (n : List ℕ) → Contains (map name_of ds) n ⊎ (number_in p.numbers n ≡ None)

-- with what waited numbered in its order as far as `inner` goes, the rules are behind those placed before; what still
-- waits and all that is in it make up the rest
pub record PlacesWaiting (R : Document) (placed first : List Document) (s : State) (inner : List ℕ) : Type 0 where
  pub more : List Document
  pub numbered : AreNumberedBy R (placed ++ more) s
  pub inside : AreAt (placed ++ more) inner (take (length inner) (waiting s.pending.items))
  pub same : IsPermutation (placed ++ flat_map (subschemas false) first) ((placed ++ more) ++ flat_map (subschemas false) (drop (length inner) (waiting s.pending.items)))
