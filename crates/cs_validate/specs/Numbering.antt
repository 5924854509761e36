-- What schemas ask, over numbers: each part is the place of a rule in a list of rules.
use Rattle.std.specs.Prelude.{◌≡◌, ℕ, ◌<◌, false, List, [], ◌∷◌, Some, option_map, option_to_list, map, length, slice_get, get_or}
use Rattle.std.specs.List.{AllByRecursion, flat_map}
use Rattle.cs_document.specs.Document.{Document, boolean, Entry}
use Rattle.cs_document.specs.Inside.{map_entry}
use Rattle.cs_profile.specs.Constraint.{Assertion, nothing, valid_by, has_kind, equals, is_among, at_least, at_most, above, below, has_keys, at_keys, at_other_keys, in_front, behind, at_least_long, at_most_long, valid_by_all, valid_by_any, not_valid_by, Constraint, always, never, conjunction, constraint_of}

-- the same with f of each schema asked of the same document, and g of each asked of a document inside
abbrev pub map_assertion : {H I J K : Type 0} → (H → J) → (I → K) → Assertion H I → Assertion J K
map_assertion f g nothing = nothing
map_assertion f g (valid_by o) = valid_by (option_map f o)
map_assertion f g (has_kind k) = has_kind k
map_assertion f g (equals v) = equals v
map_assertion f g (is_among vs) = is_among vs
map_assertion f g (at_least z) = at_least z
map_assertion f g (at_most z) = at_most z
map_assertion f g (above z) = above z
map_assertion f g (below z) = below z
map_assertion f g (has_keys ks) = has_keys ks
map_assertion f g (at_keys ps) = at_keys (map (map_entry g) ps)
map_assertion f g (at_other_keys ks s) = at_other_keys ks (g s)
map_assertion f g (in_front ss) = in_front (map g ss)
map_assertion f g (behind n s) = behind n (g s)
map_assertion f g (at_least_long c n) = at_least_long c n
map_assertion f g (at_most_long c n) = at_most_long c n
map_assertion f g (valid_by_all ss) = valid_by_all (map f ss)
map_assertion f g (valid_by_any ss) = valid_by_any (map f ss)
map_assertion f g (not_valid_by s) = not_valid_by (f s)

abbrev pub map_constraint : {H I J K : Type 0} → (H → J) → (I → K) → Constraint H I → Constraint J K
map_constraint f g always = always
map_constraint f g never = never
map_constraint f g (conjunction claims) = conjunction (map (map_assertion f g) claims)

-- without what asserts nothing: `$defs`, `$schema` and texts for readers are keywords that don't speak of validity
abbrev pub asserted : {H I : Type 0} → Assertion H I → List (Assertion H I)
asserted nothing = []
asserted a = a ∷ []

abbrev pub said : {H I : Type 0} → Constraint H I → Constraint H I
said always = always
said never = never
said (conjunction claims) = conjunction (flat_map asserted claims)

-- each part asked of the same document is below n, and each asked of a document inside is below m
abbrev pub ClaimBelow : ℕ → ℕ → Assertion ℕ ℕ → Type 0
ClaimBelow n m (valid_by o) = AllByRecursion (λ r. r < n) (option_to_list o)
ClaimBelow n m (at_keys ps) = AllByRecursion (λ (e : Entry ℕ). e.1 < m) ps
ClaimBelow n m (at_other_keys ks p) = p < m
ClaimBelow n m (in_front ps) = AllByRecursion (λ p. p < m) ps
ClaimBelow n m (behind k p) = p < m
ClaimBelow n m (valid_by_all rs) = AllByRecursion (λ r. r < n) rs
ClaimBelow n m (valid_by_any rs) = AllByRecursion (λ r. r < n) rs
ClaimBelow n m (not_valid_by r) = r < n
ClaimBelow n m _ = Unit {0}

abbrev pub PartsBelow : ℕ → ℕ → Constraint ℕ ℕ → Type 0
PartsBelow n m always = Unit {0}
PartsBelow n m never = Unit {0}
PartsBelow n m (conjunction claims) = AllByRecursion (ClaimBelow n m) claims

-- the schema at a place
abbrev pub schema_at : List Document → ℕ → Document
schema_at rules r = get_or rules r (boolean false)

-- for each schema what it asks, by the places of its parts in the list: those asked of the same document are before it
pub record IsNumbering (R : Document) (rules : List Document) (asked : List (Constraint ℕ ℕ)) : Type 0 where
  pub count : length asked ≡ length rules
  pub asks : (r : ℕ) (c : Constraint ℕ ℕ) → slice_get asked r ≡ Some c → said (constraint_of R (schema_at rules r)) ≡ said (map_constraint (schema_at rules) (schema_at rules) c)
  pub below : (r : ℕ) (c : Constraint ℕ ℕ) → slice_get asked r ≡ Some c → PartsBelow r (length rules) c
