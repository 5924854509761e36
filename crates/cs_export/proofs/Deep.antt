-- The components of a schema nest three levels deeper than it at most: what is moved nests as before.
use Rattle.std.proofs.Common.{◌≡◌, ℕ, suc, ◌≤◌, max, Bool, true, false, List, Option, Some, bytes_eq, codes, refl, ap, ap₂, if◌then◌else◌, arith}
use Rattle.std.proofs.Math.Nat.{le-max_left, le-max_right}
use Rattle.cs_document.specs.Document.{Document, null, boolean, integer, text, list, object, Documents, no_documents, document, Members, no_members, member, entries, under, depth, documents_depth, members_depth}
use Rattle.cs_profile.specs.Shapes.{form_at}
use Rattle.cs_profile.specs.declared.keyword.Form.{Form}
use Rattle.cs_profile.specs.declared.keyword.Form.TheVariants as form
use Rattle.cs_export.specs.Components.{to_component, moved_reference, moved, moved_members, moved_value, moved_list, moved_elements, moved_map, moved_named, map_in, definitions_in, components_of}
use Rattle.cs_export.specs.Shaped.{deeper}

-- ---- what is moved

module _ (f : List ℕ → List ℕ) where
  reference_deep : (v : Document) → depth (moved_reference f v) ≡ depth v
  reference_deep null = refl
  reference_deep (boolean b) = refl
  reference_deep (integer z) = refl
  reference_deep (text s) = refl
  reference_deep (list ds) = refl
  reference_deep (object ms) = refl

  value_deep : (o : Option Form) (v : Document) → depth (moved f v) ≡ depth v → depth (moved_list f v) ≡ depth v → depth (moved_map f v) ≡ depth v → depth (moved_value f o v) ≡ depth v
  value_deep (Some form.Reference) v itself elements members = reference_deep v
  value_deep (Some form.Schema) v itself elements members = itself
  value_deep (Some form.Schemas) v itself elements members = elements
  value_deep (Some form.NamedSchemas) v itself elements members = members
  value_deep _ v itself elements members = refl

  mutual
    moved_deep : (d : Document) → depth (moved f d) ≡ depth d
    moved_deep (object ms) = ap suc (members_deep ms)
    moved_deep null = refl
    moved_deep (boolean b) = refl
    moved_deep (integer z) = refl
    moved_deep (text s) = refl
    moved_deep (list ds) = refl

    members_deep : (ms : Members) → members_depth (moved_members f ms) ≡ members_depth ms
    members_deep no_members = refl
    members_deep (member k v ms) = ap₂ max (value_deep (form_at false k) v (moved_deep v) (list_deep v) (map_deep v)) (members_deep ms)

    list_deep : (d : Document) → depth (moved_list f d) ≡ depth d
    list_deep (list ds) = ap suc (elements_deep ds)
    list_deep null = refl
    list_deep (boolean b) = refl
    list_deep (integer z) = refl
    list_deep (text s) = refl
    list_deep (object ms) = refl

    elements_deep : (ds : Documents) → documents_depth (moved_elements f ds) ≡ documents_depth ds
    elements_deep no_documents = refl
    elements_deep (document d ds) = ap₂ max (moved_deep d) (elements_deep ds)

    map_deep : (d : Document) → depth (moved_map f d) ≡ depth d
    map_deep (object ms) = ap suc (named_deep ms)
    map_deep null = refl
    map_deep (boolean b) = refl
    map_deep (integer z) = refl
    map_deep (text s) = refl
    map_deep (list ds) = refl

    named_deep : (ms : Members) → members_depth (moved_named f ms) ≡ members_depth ms
    named_deep no_members = refl
    named_deep (member k v ms) = ap₂ max (moved_deep v) (named_deep ms)

-- ---- the definitions

value_in : (v : Document) → members_depth (map_in (Some v)) ≤ depth v
value_in (object ms) = omega arith
value_in null = omega arith
value_in (boolean b) = omega arith
value_in (integer z) = omega arith
value_in (text s) = omega arith
value_in (list ds) = omega arith

found_deep : (k : List ℕ) (ms : Members) → members_depth (map_in (under k (entries ms))) ≤ members_depth ms
found_deep k no_members = omega arith
found_deep k (member l v ms) = by (bytes_eq k l) (found_deep k ms)
  where
    by : (t : Bool) → members_depth (map_in (under k (entries ms))) ≤ members_depth ms → members_depth (map_in (if t then Some v else under k (entries ms))) ≤ max (depth v) (members_depth ms)
    by true h = omega (arith, value_in v, le-max_left (depth v) (members_depth ms))
    by false h = omega (arith, le-max_right (depth v) (members_depth ms))

definitions_deep : (d : Document) → members_depth (definitions_in d) ≤ depth d
definitions_deep (object ms) = let inside = found_deep (codes "$defs") ms in omega arith
definitions_deep null = omega arith
definitions_deep (boolean b) = omega arith
definitions_deep (integer z) = omega arith
definitions_deep (text s) = omega arith
definitions_deep (list ds) = omega arith

components_deep : (d : Document) → depth (components_of d) ≤ suc (suc (suc (depth d)))
components_deep d =
    let inside = definitions_deep d in
    let same = named_deep to_component (definitions_in d) in omega arith

pub asked_deep : (is_openapi : Bool) (d : Document) → depth (if is_openapi then components_of d else d) ≤ suc (suc (suc (depth d)))
asked_deep true d = components_deep d
asked_deep false d = omega arith

-- a schema that nests 114 deep at most is described within 124
pub deeper_within : (t : Bool) (n d : ℕ) → n ≤ 114 → d ≤ deeper t n → d ≤ 124
deeper_within true n d h g = omega arith
deeper_within false n d h g = omega arith
