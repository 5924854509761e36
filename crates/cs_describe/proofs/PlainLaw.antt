-- A schema document and the one without notes validate the same documents: a note asserts nothing, and a
-- schema and the one without ask the same of their parts.
use Rattle.std.proofs.Common.{◌≡◌, ℕ, pos, Bool, true, false, ◌&&◌, ◌||◌, List, [], ◌∷◌, map, Option, Some, None, option_map, refl, sym, ap, ap₂, ◌∙◌, subst, if◌then◌else◌}
use Rattle.std.proofs.lemmas.List.Folds.{list_all-map}
use Rattle.std.specs.List.{list_all, list_any}
use Rattle.std.specs.Option.{option_and_then, option_map_or}
use Rattle.cs_document.specs.Document.{Document, null, boolean, integer, text, list, object, Members, no_members, member, Entry, elements, entries, under}
use Rattle.cs_document.specs.Opened.{opened}
use Rattle.cs_profile.specs.Keywords.{keywords, Kind, kinds, defined, text_after, reference_start}
use Rattle.cs_profile.specs.declared.keyword.Keyword.{Keyword}
use Rattle.cs_profile.specs.declared.keyword.Keyword.TheVariants as keyword
use Rattle.cs_profile.specs.Constraint.{Assertion, nothing, has_kind, places_taken, assertion, assertion_at, at_other_keys, behind, Constraint, constraint_of}
use Rattle.cs_profile.specs.Validity.{if_array, if_object, if_there, front_holds, holds, is_satisfied, IsValidity}
use Rattle.cs_profile.specs.Loops.{NoLoop}
use Rattle.cs_profile.specs.Shapes.{form_in}
use Rattle.cs_profile.proofs.Meanings.{one_meaning}
use Rattle.cs_describe.specs.Plain.{as_schema, plain_by, schema_without, members_without, values_without, value_without, without, LeavesOutNotes}
use Rattle.cs_describe.specs.Meaning.{SameValidity, SameDefinitions}
use Rattle.cs_describe.proofs.PlainDefined.{of_note, elements_plain, below, entries_plain, property_keys, properties_plain, places_plain, defined_plain}
use Rattle.cs_describe.proofs.PlainLoops.{no_loop_plain, no_loop_full}

module _ (left_out : List ℕ → Bool) (notes : LeavesOutNotes left_out) where
  any_mapped : (p : Document → Bool) (ds : List Document) → list_any p (map (schema_without left_out) ds) ≡ list_any (λ d. p (schema_without left_out d)) ds
  any_mapped p [] = refl
  any_mapped p (d ∷ ds) = ap (λ b. p (schema_without left_out d) || b) (any_mapped p ds)

  -- ---- what a keyword asks, with descriptions and without: `here` and `inside` are asked of schemas without

  module _ (R R' : Document) (same : (n : List ℕ) → defined R' n ≡ option_map (schema_without left_out) (defined R n)) (here : Document → Bool) (inside : Document → Document → Bool) (x : Document) where
    -- what they say of schemas with descriptions
    abbrev here_below : Document → Bool
    here_below p = here (schema_without left_out p)

    abbrev inside_below : Document → Document → Bool
    inside_below y p = inside y (schema_without left_out p)

    named_alike : (o : Option (List ℕ)) → option_map_or here (option_and_then (defined R') o) false ≡ option_map_or here_below (option_and_then (defined R) o) false
    named_alike None = refl
    named_alike (Some n) = ap (λ o. option_map_or here o false) (same n) ∙ through (defined R n)
      where
        through : (o : Option Document) → option_map_or here (option_map (schema_without left_out) o) false ≡ option_map_or here_below o false
        through None = refl
        through (Some s) = refl

    kind_alike : (o : Option Kind) → holds here inside (option_map_or has_kind o nothing) x (opened x) ≡ holds here_below inside_below (option_map_or has_kind o nothing) x (opened x)
    kind_alike None = refl
    kind_alike (Some k) = refl

    front_alike : (ss ys : List Document) → front_holds here inside (map (schema_without left_out) ss) ys ≡ front_holds here_below inside_below ss ys
    front_alike [] ys = refl
    front_alike (s ∷ ss) [] = refl
    front_alike (s ∷ ss) (y ∷ ys) = ap (λ b. inside y (schema_without left_out s) && b) (front_alike ss ys)

    module _ (c b : List (Entry Document)) (properties : property_keys left_out notes c ≡ property_keys left_out notes b) (places : places_taken c ≡ places_taken b) where
      abbrev asks : Assertion Document Document → Bool
      asks a = holds here inside a x (opened x)

      abbrev asks_below : Assertion Document Document → Bool
      asks_below a = holds here_below inside_below a x (opened x)

      keyword_alike : (root : Bool) (w : Keyword) (v : Document) → asks (assertion R' c w (plain_by (form_in root w) (values_without left_out v))) ≡ asks_below (assertion R b w v)
      keyword_alike root keyword.Schema v = refl
      keyword_alike root keyword.Defs v = refl
      keyword_alike root keyword.Ref (text t) = named_alike (text_after reference_start t)
      keyword_alike root keyword.Type (text t) = kind_alike (under t kinds)
      keyword_alike root keyword.Properties (object ss) =
          λ i. if_object (λ ms. (ap (list_all (λ p. if_there (λ y. inside y p.1) (under p.0 ms))) (entries_plain left_out notes ss) ∙ list_all-map (λ p. if_there (λ y. inside y p.1) (under p.0 ms)) (below left_out notes) (entries ss)) i) (opened x)
      keyword_alike root keyword.AdditionalProperties s = ap (λ ks. asks (at_other_keys ks (schema_without left_out s))) properties
      keyword_alike root keyword.PrefixItems (list ss) = λ i. if_array (λ ys. (ap (λ es. front_holds here inside es ys) (elements_plain left_out notes ss) ∙ front_alike (elements ss) ys) i) (opened x)
      keyword_alike root keyword.Items s = ap (λ n. asks (behind n (schema_without left_out s))) places
      keyword_alike root keyword.AllOf (list ss) = ap (list_all here) (elements_plain left_out notes ss) ∙ list_all-map here (schema_without left_out) (elements ss)
      keyword_alike root keyword.AnyOf (list ss) = ap (list_any here) (elements_plain left_out notes ss) ∙ any_mapped here (elements ss)
      keyword_alike root _ (integer (pos n)) = refl
      keyword_alike root _ _ = refl

      value_alike : (root : Bool) (o : Option Keyword) (v : Document)
          → asks (option_map_or (λ q. assertion R' c q (plain_by (option_and_then (form_in root) o) (values_without left_out v))) o nothing) ≡ asks_below (option_map_or (λ q. assertion R b q v) o nothing)
      value_alike root None v = refl
      value_alike root (Some w) v = keyword_alike root w v

      abbrev all_ask : List (Entry Document) → Bool
      all_ask es = list_all (λ a. asks a) (map (assertion_at R' c) es)

      abbrev all_ask_below : List (Entry Document) → Bool
      all_ask_below es = list_all (λ a. asks_below a) (map (assertion_at R b) es)

      one_alike : (root : Bool) (k : List ℕ) (v : Document) (ns ms : Members) → all_ask (entries ns) ≡ all_ask_below (entries ms) → (t : Bool) → left_out k ≡ t
          → all_ask (entries (if t then ns else member k (value_without left_out root k v) ns)) ≡ all_ask_below (entries (member k v ms))
      one_alike root k v ns ms h false e = ap₂ ◌&&◌ (value_alike root (under k keywords) v) h
      one_alike root k v ns ms h true e = of_note (λ n. all_ask (entries ns) ≡ all_ask_below (entries (member n v ms))) h h k (notes k e)

      all_alike : (root : Bool) (ms : Members) → all_ask (entries (members_without left_out root ms)) ≡ all_ask_below (entries ms)
      all_alike root no_members = refl
      all_alike root (member k v ms) = one_alike root k v (members_without left_out root ms) ms (all_alike root ms) (left_out k) refl

    members_alike : (root : Bool) (ms : Members)
        → is_satisfied here inside (constraint_of R' (object (members_without left_out root ms))) x (opened x) ≡ is_satisfied here_below inside_below (constraint_of R (object ms)) x (opened x)
    members_alike root ms = all_alike (entries (members_without left_out root ms)) (entries ms) (properties_plain left_out notes root ms) (places_plain left_out notes root ms) root ms

    as_object : (ns : Members) → is_satisfied here inside (constraint_of R' (as_schema ns)) x (opened x) ≡ is_satisfied here inside (constraint_of R' (object ns)) x (opened x)
    as_object no_members = refl
    as_object (member k v ns) = refl

    -- a schema, with descriptions and without
    schema_alike : (s : Document) → is_satisfied here inside (constraint_of R' (schema_without left_out s)) x (opened x) ≡ is_satisfied here_below inside_below (constraint_of R s) x (opened x)
    schema_alike null = refl
    schema_alike (boolean true) = refl
    schema_alike (boolean false) = refl
    schema_alike (integer z) = refl
    schema_alike (text t) = refl
    schema_alike (list ds) = refl
    schema_alike (object ms) = as_object (members_without left_out false ms) ∙ members_alike false ms

  -- what the schemas without descriptions validate is a validity of the schemas
  plain_validity : (d : Document) (W : Document → Document → Bool) → IsValidity (without left_out d) W → IsValidity d (λ s x. W (schema_without left_out s) x)
  plain_validity d W w s x = w (schema_without left_out s) x ∙ schema_alike d (without left_out d) (defined_plain left_out notes d) (λ p. W p x) (λ y p. W p y) x s

  asked : (V V' : Document → Document → Bool) → ((s x : Document) → V s x ≡ V' s x) → (a : Constraint Document Document) (x : Document)
      → is_satisfied (λ p. V p x) (λ y p. V p y) a x (opened x) ≡ is_satisfied (λ p. V' p x) (λ y p. V' p y) a x (opened x)
  asked V V' e a x = λ i. is_satisfied (λ p. e p x i) (λ y p. e p y i) a x (opened x)

  at_root : (d : Document) (V W : Document → Document → Bool) → IsValidity d V → IsValidity (without left_out d) W → ((s x : Document) → V s x ≡ W (schema_without left_out s) x) → (x : Document) → V d x ≡ W (without left_out d) x
  at_root (object ms) V W v w e x =
      v (object ms) x ∙ asked V (λ s x. W (schema_without left_out s) x) e (constraint_of (object ms) (object ms)) x
      ∙ sym (members_alike (object ms) (without left_out (object ms)) (defined_plain left_out notes (object ms)) (λ p. W p x) (λ y p. W p y) x true ms) ∙ sym (w (without left_out (object ms)) x)
  at_root d V W v w e x = e d x

  -- a schema validates by the definitions of a document what the one without descriptions does by those without
  below_root : (d : Document) → NoLoop d → (V W : Document → Document → Bool) → IsValidity d V → IsValidity (without left_out d) W → (s x : Document) → V s x ≡ W (schema_without left_out s) x
  below_root d none V W v w = (one_meaning d none).only V (λ s x. W (schema_without left_out s) x) v (plain_validity d W w)

  pub keeps_meaning : (d : Document) → NoLoop d → SameValidity d (without left_out d)
  keeps_meaning d none V W v w = at_root d V W v w (below_root d none V W v w)

  -- two schema documents that are the same without descriptions: a validity of the one without, and what it is of both
  record Shared (d e : Document) : Type 0 where
    validity : Document → Document → Bool
    of_first : IsValidity (without left_out d) validity
    of_second : IsValidity (without left_out e) validity
    no_loop : NoLoop e

  shared : (d e : Document) → NoLoop d → without left_out e ≡ without left_out d → Shared d e
  shared d e none same =
      let bare = no_loop_plain left_out notes d none in
      let one = (one_meaning (without left_out d) bare).some in record {
        validity = one.0;
        of_first = one.1;
        of_second = subst (λ p. IsValidity p one.0) (sym same) one.1;
        no_loop = no_loop_full left_out notes e (subst NoLoop (sym same) bare);
      }

  -- they validate the same
  pub same_validity : (d e : Document) → NoLoop d → without left_out e ≡ without left_out d → SameValidity d e
  same_validity d e none same V W v w x =
      let one = shared d e none same in
      keeps_meaning d none V one.validity v one.of_first x ∙ ap (λ p. one.validity p x) (sym same) ∙ sym (keeps_meaning e one.no_loop W one.validity w one.of_second x)

  -- and so does each schema by their definitions
  pub same_definitions : (d e : Document) → NoLoop d → without left_out e ≡ without left_out d → SameDefinitions d e
  same_definitions d e none same V W v w s x =
      let one = shared d e none same in
      below_root d none V one.validity v one.of_first s x ∙ sym (below_root e one.no_loop W one.validity w one.of_second s x)
