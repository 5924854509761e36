-- Declarations of a struct literal, one after the other.
use Rattle.std.proofs.Common.{◌≡◌, ℕ, ◌+◌, ◌<◌, List, [], ◌∷◌, ◌++◌, map, filter, length, take, get_or, Bool, true, false, not, cond, ◌&&◌, ◌||◌, Option, Some, None, is_some, unwrap_or, String, Vec, Bor, Global, Result, codes, zero, suc, string_bytes, string_cmp, bytes_eq, refl, sym, ap, ap₂, ◌∙◌, if◌then◌else◌}
use Rattle.std.specs.BTreeMap.{get}
use Rattle.std.specs.BTreeSet.{BTreeSet, Updates}
use Rattle.std.specs.Cmp.Lexicographic.{slice_cmp}
use Rattle.std.specs.List.{list_any}
use Rattle.std.specs.Option.{option_map_or}
use Rattle.std.specs.Ordering.{nat_cmp}
use Rattle.std.proofs.Math.Bool.{or-false}
use Rattle.std.proofs.lemmas.List.{map-append}
use Rattle.std.proofs.lemmas.List.Elements.{filter-append}
use Rattle.std.proofs.lemmas.List.Folds.{list_any-append}
use Rattle.std.proofs.lemmas.Map.Text.{is_eq-slice_cmp}
use Rattle.std.proofs.lemmas.Option.{same_Some}
use Rattle.std.proofs.lemmas.Result.{IfOk-weaker}
use Rattle.std.proofs.lemmas.Simd.{map-map}
use Rattle.std.specs.Result.{IfOk}
use Rattle.cs_document.specs.Document.{Document, Members, text, object}
use Rattle.cs_document.specs.View.{members_of}
use Rattle.cs_document.proofs.Maps.{take_at}
use Rattle.cs_package.specs.Environment.{Environment, declared_names, name_at}
use Rattle.cs_package.specs.Expression.{Expression, Declaration, is_every}
use Rattle.cs_package.specs.View.{expression_of, declarations_of, mark_of, part_of}
use Rattle.cs_package.specs.declared.shape.Part.{Part}
use Rattle.cs_package.proofs.Environments.{bytes_eq-sym}
use Rattle.cs_instance.proofs.Views.{label_is, mark_is, value_is}
use Rattle.cs_profile.specs.SchemaDocument.{schema_view, schemas_view, text_document, unless_no_list, unless_no_map}
use Rattle.cs_profile.specs.Trim.{with_member}
use Rattle.cs_profile.specs.declared.schema.Schema.{Schema}
use Rattle.cs_compile.proofs.Every.{some_every}
use Rattle.cs_compile.proofs.Firsts.{firsts-last}
use Rattle.cs_compile.specs.Grouped.{declared, with_schema, declarations_at, Groups, group, has_label, is_asked}
use Rattle.cs_compile.specs.Translation.{schema_of, declared_schemas, struct_schema, closing, firsts, must_be_there, of_type, properties_of, required_of, unless_empty, labelled, under_every_key}

-- the schemas of the declared values, in both forms
pub declared_is : (ds : List (Declaration Expression)) → declared_schemas (declarations_of ds) ≡ map with_schema ds
declared_is [] = refl
declared_is (d ∷ ds) = ap (λ es. with_schema d ∷ es) (declared_is ds)

-- a declaration, part by part
pub part_is : (ns : List (List ℕ)) (p : Part) → with_schema (part_of ns p) ≡ declared (string_bytes p.label) (mark_of p.mark) (schema_of (expression_of ns p.value))
part_is ns p = rw (label_is ns p, mark_is ns p, value_is ns p) refl

-- one declaration more
pub declarations-more : (ns : List (List ℕ)) (ps : List Part) (i : ℕ) (p : Part) → i < length ps → p ≡ get_or ps i p
    → declarations_at ns (take (i + 1) ps) ≡ declarations_at ns (take i ps) ++ declared (string_bytes p.label) (mark_of p.mark) (schema_of (expression_of ns p.value)) ∷ []
declarations-more ns ps i p within is =
    ap (declarations_at ns) (take_at ps i p within is) ∙ map-append (λ q. with_schema (part_of ns q)) (take i ps) (p ∷ [])
    ∙ ap (λ d. declarations_at ns (take i ps) ++ d ∷ []) (part_is ns p)

-- ---- groups

-- a schema behind those of its label
pub group-push : (g : Groups) (k : String Global) (o : Option (Vec Schema Global)) (none v w : Vec Schema Global) (s : Schema) → o ≡ get string_cmp g k → none.items ≡ [] → v ≡ unwrap_or o none → w.items ≡ v.items ++ s ∷ []
    → schemas_view w.items ≡ group g k ++ schema_view s ∷ []
group-push g k o none v w s found empty old pushed =
    ap schemas_view pushed ∙ map-append schema_view v.items (s ∷ []) ∙ ap (λ ds. ds ++ schema_view s ∷ []) (ap (λ u. schemas_view u.items) old ∙ by o ∙ ap (λ p. option_map_or (λ u. schemas_view u.items) p []) found)
  where
    by : (p : Option (Vec Schema Global)) → schemas_view (unwrap_or p none).items ≡ option_map_or (λ u. schemas_view u.items) p []
    by None = ap schemas_view empty
    by (Some u) = refl

-- ---- the keywords of a struct

pub properties_slot : (es : List (String Global × Document)) (ms : Members) → members_of es ≡ ms → unless_no_map es ≡ unless_empty ms
properties_slot es ms same = by es ∙ ap (λ m. unless_empty m) same
  where
    by : (xs : List (String Global × Document)) → unless_no_map xs ≡ unless_empty (members_of xs)
    by [] = refl
    by (x ∷ xs) = refl

pub texts_are : (ss : List (String Global)) (ls : List (List ℕ)) → map string_bytes ss ≡ ls → map text_document ss ≡ map text ls
texts_are ss ls same = sym (map-map text string_bytes ss) ∙ ap (map text) same

-- ---- labels that are asked for

asked-last : (ds : List (Declaration Document)) (d : Declaration Document) (l : List ℕ) → is_asked (ds ++ d ∷ []) l ≡ (is_asked ds l || (bytes_eq l d.label && must_be_there d.mark))
asked-last ds d l = list_any-append (λ e. bytes_eq l e.label && must_be_there e.mark) ds (d ∷ []) ∙ ap (λ b. is_asked ds l || b) (or-false (bytes_eq l d.label && must_be_there d.mark))

module _ (s n : BTreeSet (Bor (List ℕ))) (ds : List (Declaration Document)) (d : Declaration Document) (known : (l : Bor (List ℕ)) → has_label s l ≡ is_asked ds l.now) where
  -- a declaration that asks for its label
  pub asked_one : (t : Bor (List ℕ)) → t.now ≡ d.label → must_be_there d.mark ≡ true → Updates (λ x y. slice_cmp nat_cmp x.now y.now) s n t true
      → (l : Bor (List ℕ)) → has_label n l ≡ is_asked (ds ++ d ∷ []) l.now
  asked_one t is mark puts l =
      puts.0 l ∙ ap₂ (λ b o. cond b true o) (is_eq-slice_cmp t.now l.now ∙ bytes_eq-sym t.now l.now ∙ ap (bytes_eq l.now) is) (known l)
      ∙ by (bytes_eq l.now d.label) (is_asked ds l.now) ∙ ap (λ m. is_asked ds l.now || (bytes_eq l.now d.label && m)) (sym mark) ∙ sym (asked-last ds d l.now)
    where
      by : (b o : Bool) → cond b true o ≡ (o || (b && true))
      by true true = refl
      by true false = refl
      by false true = refl
      by false false = refl

  -- one that doesn't
  pub asked_none : must_be_there d.mark ≡ false → (l : Bor (List ℕ)) → has_label s l ≡ is_asked (ds ++ d ∷ []) l.now
  asked_none mark l = known l ∙ by (bytes_eq l.now d.label) (is_asked ds l.now) ∙ ap (λ m. is_asked ds l.now || (bytes_eq l.now d.label && m)) (sym mark) ∙ sym (asked-last ds d l.now)
    where
      by : (b o : Bool) → o ≡ (o || (b && false))
      by true true = refl
      by true false = refl
      by false true = refl
      by false false = refl

-- ---- labels, each once

-- the labels seen so far that pass, with one more
pub listed-more : (a : List ℕ → Bool) (seen : List (List ℕ)) (l : List ℕ) → filter a (firsts bytes_eq (seen ++ l ∷ [])) ≡ filter a (firsts bytes_eq seen) ++ (if a l && not (list_any (bytes_eq l) seen) then l ∷ [] else [])
listed-more a seen l = ap (filter a) (firsts-last bytes_eq bytes_eq-sym seen l) ∙ filter-append a (firsts bytes_eq seen) _ ∙ ap (λ xs. filter a (firsts bytes_eq seen) ++ xs) (by (a l) (list_any (bytes_eq l) seen) refl)
  where
    by : (b c : Bool) → a l ≡ b → filter a (if c then [] else l ∷ []) ≡ (if b && not c then l ∷ [] else [])
    by true true e = refl
    by false true e = refl
    by true false e = rw e refl
    by false false e = rw e refl

-- those that are still to come, when one was taken out
pub left-more : (s n : BTreeSet (Bor (List ℕ))) (a : List ℕ → Bool) (seen : List (List ℕ)) (t : Bor (List ℕ)) → Updates (λ x y. slice_cmp nat_cmp x.now y.now) s n t false
    → ((l : Bor (List ℕ)) → has_label s l ≡ (a l.now && not (list_any (bytes_eq l.now) seen))) → (l : Bor (List ℕ)) → has_label n l ≡ (a l.now && not (list_any (bytes_eq l.now) (seen ++ t.now ∷ [])))
left-more s n a seen t takes known l =
    takes.0 l ∙ ap₂ (λ b o. cond b false o) (is_eq-slice_cmp t.now l.now ∙ bytes_eq-sym t.now l.now) (known l)
    ∙ by (bytes_eq l.now t.now) (a l.now) (list_any (bytes_eq l.now) seen) ∙ ap (λ b. a l.now && not b) (sym (list_any-append (bytes_eq l.now) seen (t.now ∷ [])))
  where
    by : (b c o : Bool) → cond b false (c && not o) ≡ (c && not (o || (b || false)))
    by true true true = refl
    by true true false = refl
    by true false o = refl
    by false true true = refl
    by false true false = refl
    by false false o = refl

-- ---- names, and the whole of a struct

pub named_at : (E : Environment) (i : ℕ) (n : List ℕ) → name_at E i ≡ Some n → get_or (declared_names E) i [] ≡ n
named_at [] i n e = cc
named_at (d ∷ E) zero n e = same_Some d.0 n e
named_at (d ∷ E) (suc i) n e = named_at E i n e

-- the schema of a struct, by the values of its keywords
abbrev object_by : (others every properties labels : Option Document) → Document
object_by others every properties labels =
    object (with_member others (codes "additionalProperties") (with_member every (codes "allOf") (with_member properties (codes "properties") (with_member labels (codes "required") (of_type (codes "object"))))))

pub struct_is : {F : Type 0} (r : Result Schema F) (ds : List (Declaration Document)) (opened : Bool) (every : List Document) (es : List (String Global × Document)) (ls : List (String Global))
    → every ≡ under_every_key ds → members_of es ≡ properties_of (labelled ds) → map string_bytes ls ≡ required_of (labelled ds)
    → IfOk r (λ s. schema_view s ≡ object_by (closing (opened || is_some (unless_no_list every))) (unless_no_list every) (unless_no_map es) (unless_no_list (map text_document ls)))
    → IfOk r (λ s. schema_view s ≡ struct_schema ds opened)
struct_is r ds opened every es ls same properties required h =
    let some : is_some (unless_no_list every) ≡ list_any (λ d. is_every d.mark) ds = ap (λ vs. is_some (unless_no_list vs)) same ∙ some_every ds in
    let whole =
    ap₂ (λ b vs. object_by (closing (opened || b)) (unless_no_list vs) (unless_no_map es) (unless_no_list (map text_document ls))) some same
    ∙ ap₂ (λ p q. object_by (closing (opened || list_any (λ d. is_every d.mark) ds)) (unless_no_list (under_every_key ds)) p (unless_no_list q)) (properties_slot es _ properties) (texts_are ls _ required) in
    IfOk-weaker r _ _ (λ s seen. seen ∙ whole) h
