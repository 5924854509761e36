-- Keywords set one after the other.
use Rattle.std.proofs.Common.{◌≡◌, ℕ, suc, ◌<◌, ℤ, pos, List, [], ◌∷◌, map, length, Option, Some, None, codes, Result, refl, sym, ap, ap₂, ◌∙◌, rules, arith}
use Rattle.std.proofs.lemmas.Result.{IfOk-weaker}
use Rattle.std.proofs.lemmas.Simd.{map-map}
use Rattle.std.specs.Result.{IfOk}
use Rattle.cs_document.specs.Document.{Document, integer, list, object, document, Members, no_members, member}
use Rattle.cs_document.specs.View.{documents_of}
use Rattle.cs_package.specs.Expression.{Expression, Relation}
use Rattle.cs_package.specs.Expression as cue
use Rattle.cs_package.specs.View.{expressions_of}
use Rattle.cs_profile.specs.SchemaDocument.{Slot, present, set_slot, slots_of, schema_view, schemas_view, unless_no_list}
use Rattle.cs_profile.specs.Trim.{with_member}
use Rattle.cs_profile.specs.declared.schema.Keywords.{Keywords, the_lemmas}
use Rattle.cs_profile.specs.declared.schema.Schema.{Schema}
use Rattle.cs_compile.specs.Slots.{no_slots, typed, least_count}
use Rattle.cs_compile.specs.Translation.{schema_of, schemas_of, body_schemas, all_of, any_of, list_schema, limit_name, of_type}
use Rattle.cs_compile.proofs.Asserted.{elements_back}

-- a slot without a value
abbrev cleared : Slot → Slot
cleared s = (s.0, None)

present_none : (k : List ℕ) (o : Option Document) (ss : List Slot) → present ((k, o) ∷ ss) ≡ no_members → (o ≡ None) × (present ss ≡ no_members)
present_none k None ss e = (refl, e)
present_none k (Some v) ss e = cc

slots_cleared : (ss : List Slot) → present ss ≡ no_members → ss ≡ map cleared ss
slots_cleared [] e = refl
slots_cleared ((k, o) ∷ ss) e = let h = present_none k o ss e in ap₂ (λ (v : Option Document) rest. (k, v) ∷ rest) h.0 (slots_cleared ss h.1)

pub empty_slots : (k : Keywords) → present (slots_of k) ≡ no_members → slots_of k ≡ no_slots
empty_slots k e = slots_cleared (slots_of k) e ∙ search (rules, the_lemmas)

-- the limit of a relation comes before it
pub limit_first : (r : Relation) (z : ℤ) → present (set_slot (limit_name r) (Some (integer z)) (typed (codes "number"))) ≡ member (limit_name r) (integer z) (of_type (codes "number"))
limit_first cue.less z = refl
limit_first cue.at_most z = refl
limit_first cue.more z = refl
limit_first cue.at_least z = refl

-- what an object of some slots stands for
pub made : {F : Type 0} (r : Result Schema F) (ss : List Slot) (ms : Members) → IfOk r (λ s. schema_view s ≡ object (present ss)) → present ss ≡ ms → IfOk r (λ s. schema_view s ≡ object ms)
made r ss ms h e = IfOk-weaker r (λ s. schema_view s ≡ object (present ss)) (λ s. schema_view s ≡ object ms) (λ s seen. seen ∙ ap object e) h

-- the schemas of a conjunction's operands, in both forms
pub schemas_of-expressions_of : (es : List Expression) → schemas_of (expressions_of es) ≡ body_schemas es
schemas_of-expressions_of [] = refl
schemas_of-expressions_of (e ∷ es) = ap (document (schema_of e)) (schemas_of-expressions_of es)

-- the members that were made, as `allOf`
pub all_of-slots : (ds : List Document) → present (set_slot (codes "allOf") (unless_no_list ds) no_slots) ≡ all_of (documents_of ds)
all_of-slots [] = refl
all_of-slots (d ∷ ds) = refl

-- the schemas of a disjunction's operands, as `anyOf`
pub any_of-slots : (ds : List Document) → 0 < length ds → object (present (set_slot (codes "anyOf") (unless_no_list ds) no_slots)) ≡ any_of (documents_of ds)
any_of-slots [] h = absurd (omega (arith, h))
any_of-slots (d ∷ ds) h = refl

-- what was made of the operands, in order
pub operands_seen : {X : Type 0} (view : X → Expression) (ss : List Schema) (xs : List X) → schemas_view ss ≡ map (λ x. schema_of (view x)) xs → documents_of (schemas_view ss) ≡ schemas_of (expressions_of (map view xs))
operands_seen view ss xs e = ap documents_of (e ∙ sym (map-map schema_of view xs)) ∙ sym (schemas_of-expressions_of (map view xs))

-- the keywords of a list
pub list_slots : (ds : List Document) (rest : Option Document)
    → object (present (set_slot (codes "items") rest (set_slot (codes "prefixItems") (unless_no_list ds) (set_slot (codes "minItems") (least_count ds) (typed (codes "array")))))) ≡ list_schema (documents_of ds) rest
list_slots [] rest = refl
list_slots (d ∷ ds) rest =
    ap (λ es. object (with_member rest (codes "items") (member (codes "minItems") (integer (pos (suc (length es)))) (member (codes "prefixItems") (list (documents_of (d ∷ ds))) (of_type (codes "array")))))) (sym (elements_back ds))

-- an object of some keywords and one more
pub made_of : {F : Type 0} (r : Result Schema F) (k l : Keywords) (ss : List Slot) (name : List ℕ) (o : Option Document) (ms : Members) → slots_of k ≡ ss → slots_of l ≡ set_slot name o (slots_of k)
    → present (set_slot name o ss) ≡ ms → IfOk r (λ s. schema_view s ≡ object (present (slots_of l))) → IfOk r (λ s. schema_view s ≡ object ms)
made_of r k l ss name o ms from more is h = made r (slots_of l) ms h (ap present (more ∙ ap (set_slot name o) from) ∙ is)
