-- What a value's kind alone decides of what keywords ask.
use Rattle.std.specs.Prelude.{ℕ, not, true, false, Bool, List, [], ◌∷◌, Option, Some, None, option_map}
use Rattle.std.specs.Option.{option_map_or}
use Rattle.cs_document.specs.Document.{Document, null, boolean, integer, text, list, object}
use Rattle.cs_document.specs.Opened.{Opened, a_null, a_boolean, an_integer, a_text, a_list, an_object}
use Rattle.cs_document.specs.View.{doc_view}
use Rattle.cs_rules.specs.Kinds.{both, either, decided_by}
use Rattle.cs_rules.specs.declared.by_kind.ByKind.{ByKind}
use Rattle.cs_validate.specs.declared.rules.Conjunction.{Conjunction}
use Rattle.cs_validate.specs.Asked.{asks_type}

-- a keyword that is absent asks nothing
abbrev pub if_asked : {A : Type 0} → (A → Option Bool) → Option A → Option Bool
if_asked f o = option_map_or f o (Some true)

-- by `const`: values of one kind may be equal, and null is
abbrev pub equals_by_kind : {A : Type 0} → Document → Opened A → Option Bool
equals_by_kind null a_null = Some true
equals_by_kind (boolean a) (a_boolean b) = None
equals_by_kind (integer a) (an_integer b) = None
equals_by_kind (text a) (a_text b) = None
equals_by_kind (list a) (a_list b) = None
equals_by_kind (object a) (an_object b) = None
equals_by_kind _ _ = Some false

-- by `enum`
abbrev pub among_by_kind : {A : Type 0} → List Document → Opened A → Option Bool
among_by_kind [] x = Some false
among_by_kind (v ∷ vs) x = either (equals_by_kind v x) (among_by_kind vs x)

-- by `type`, `const` and `enum`
abbrev pub any_by_kind : Conjunction → Opened ℕ → Option Bool
any_by_kind c x =
    both (both (Some (asks_type c.keywords.now.kind x)) (if_asked (λ v. equals_by_kind (doc_view v) x) c.keywords.now.equal))
    (if_asked (λ vs. among_by_kind vs x) c.one_of)

-- by `$ref`
abbrev pub reference_by_kind : List ByKind → Conjunction → Opened ℕ → Option Bool
reference_by_kind earlier c x = if_asked (λ n. option_map_or (decided_by earlier x) c.reference (Some false)) c.keywords.now.reference

-- by `not`
abbrev pub negation_by_kind : List ByKind → Option ℕ → Opened ℕ → Option Bool
negation_by_kind earlier o x = if_asked (λ r. option_map not (decided_by earlier x r)) o
