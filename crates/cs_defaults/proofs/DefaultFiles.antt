-- Files without forms of the wide profile stand for themselves: nothing is marked in them, so no value has a default.
use Rattle.std.proofs.Common.{◌≡◌, ℕ, zero, suc, Bool, true, false, ◌||◌, cond, List, [], ◌∷◌, ◌++◌, map, filter, refl, sym, ap, ap₂, ◌∙◌}
use Rattle.std.specs.List.{AllByRecursion, flat_map}
use Rattle.std.specs.Str.{bytes_eq}
use Rattle.cs_grammar.specs.declared.ast.FieldMark.{FieldMark}
use Rattle.cs_grammar.specs.declared.ast.FieldMark.TheVariants.{Regular, Optional, Required, Every}
use Rattle.cs_grammar.specs.DefaultForms.{IsDefault, AreDefault, AreDefaultFields, IsDefaultEnd, IsDefaultFile}
use Rattle.cs_grammar.specs.Tree.{Label, Tree, atom, named, reference, conjunction, disjunction, paren, struct, list, wide, Trees, none, more, Fields, no_field, field, End, closed, any, each, body, defined_name, definitions, DefinitionTree, definition, FileTree, file}
use Rattle.cs_grammar.specs.Bodies.{bodies}
use Rattle.cs_defaults.specs.Absent.{has_every, absent_labels, is_repeated, excluded, clashes, clashes_each, clashes_fields, clashes_end}
use Rattle.cs_defaults.specs.Leading.{Leading, nowhere, by_mark, to, or_behind, first_mark, leading, leading_of, leads, most_passed, place_of, has_default}
use Rattle.cs_defaults.specs.Marks.{is_default, misplaced, misplaced_each, misplaced_operands, misplaced_fields, misplaced_end}
use Rattle.cs_defaults.specs.Unmarked.{unasked, optional_if, unmarked, unmarked_each, unmarked_fields, unmarked_end, unmarked_definition, unmarked_file}
use Rattle.cs_defaults.specs.Widened.{places_from, handing_on, IsUnmarked}

nothing : {X : Type 0} (xs ys : List X) → xs ≡ [] → ys ≡ [] → xs ++ ys ≡ []
nothing xs ys p q = ap₂ (λ zs ws. zs ++ ws) p q

-- ---- marks

not_default : (e : Tree) → IsDefault e → is_default e ≡ false
not_default (atom a) h = refl
not_default (named s o) h = refl
not_default (reference s o) h = refl
not_default (conjunction es) h = refl
not_default (disjunction es) h = refl
not_default (paren e) h = refl
not_default (struct o fs opened) h = refl
not_default (list es end) h = refl
not_default (wide w) h = absurd h

either_way : (b : Bool) (xs : List ℕ) → xs ≡ [] → cond b [] xs ≡ []
either_way true xs h = refl
either_way false xs h = h

mutual
  in_place : (whole : Bool) (e : Tree) → IsDefault e → misplaced whole e ≡ []
  in_place whole (atom a) h = refl
  in_place whole (named s o) h = refl
  in_place whole (reference s o) h = refl
  in_place whole (conjunction es) h = each_in_place false es h
  in_place whole (disjunction es) h = operands_in_place whole es h
  in_place whole (paren e) h = in_place whole e h
  in_place whole (struct o fs opened) h = fields_in_place fs h
  in_place whole (list es end) h = nothing (misplaced_each true es) (misplaced_end end) (each_in_place true es h.0) (end_in_place end h.1)
  in_place whole (wide w) h = absurd h

  each_in_place : (whole : Bool) (es : Trees) → AreDefault es → misplaced_each whole es ≡ []
  each_in_place whole none h = refl
  each_in_place whole (more e es) h = nothing (misplaced whole e) (misplaced_each whole es) (in_place whole e h.0) (each_in_place whole es h.1)

  operands_in_place : (may : Bool) (es : Trees) → AreDefault es → misplaced_operands may es ≡ []
  operands_in_place may none h = refl
  operands_in_place may (more e es) h = nothing _ _ (either_way _ (misplaced false e) (in_place false e h.0)) (operands_in_place _ es h.1)

  fields_in_place : (fs : Fields) → AreDefaultFields fs → misplaced_fields fs ≡ []
  fields_in_place no_field h = refl
  fields_in_place (field l m e fs) h = nothing (misplaced true e) (misplaced_fields fs) (in_place true e h.1) (fields_in_place fs h.2)

  end_in_place : (end : End) → IsDefaultEnd end → misplaced_end end ≡ []
  end_in_place closed h = refl
  end_in_place any h = refl
  end_in_place (each e) h = in_place true e h

-- ---- values lead to no mark

abbrev IsNoMark : Leading → Type 0
IsNoMark nowhere = Unit {0}
IsNoMark (by_mark o) = ⊥
IsNoMark (to s o) = Unit {0}

behind : (e : Tree) (l : Leading) → IsDefault e → IsNoMark l → IsNoMark (or_behind e l)
behind (atom a) l h k = k
behind (named s o) l h k = k
behind (reference s o) l h k = k
behind (conjunction es) l h k = k
behind (disjunction es) l h k = k
behind (paren e) l h k = k
behind (struct o fs opened) l h k = k
behind (list es end) l h k = k
behind (wide w) l h k = absurd h

none_marked : (es : Trees) → AreDefault es → IsNoMark (first_mark es)
none_marked none h = tt
none_marked (more e es) h = behind e (first_mark es) h.0 (none_marked es h.1)

unmarked_value : (e : Tree) → IsDefault e → IsNoMark (leading e)
unmarked_value (atom a) h = tt
unmarked_value (named s o) h = tt
unmarked_value (reference s o) h = tt
unmarked_value (conjunction es) h = tt
unmarked_value (disjunction es) h = none_marked es h
unmarked_value (paren e) h = unmarked_value e h
unmarked_value (struct o fs opened) h = tt
unmarked_value (list es end) h = tt
unmarked_value (wide w) h = absurd h

abbrev AreBodies : List DefinitionTree → Type 0
AreBodies ds = AllByRecursion (λ d. IsDefault (body d)) ds

default_bodies : (s : List ℕ) (ds : List DefinitionTree) → AreBodies ds → AllByRecursion IsDefault (bodies s ds)
default_bodies s [] h = tt
default_bodies s (d ∷ ds) h = by (bytes_eq (defined_name d) s) (default_bodies s ds h.1)
  where
    by : (b : Bool) → AllByRecursion IsDefault (bodies s ds) → AllByRecursion IsDefault (map body (cond b (d ∷ filter (λ (x : DefinitionTree). bytes_eq (defined_name x) s) ds) (filter (λ (x : DefinitionTree). bytes_eq (defined_name x) s) ds)))
    by true later = (h.0, later)
    by false later = later

sole : (es : List Tree) → AllByRecursion IsDefault es → IsNoMark (leading_of es)
sole [] h = tt
sole (e ∷ []) h = unmarked_value e h.0
sole (e ∷ f ∷ es) h = tt

leads_nowhere : (ds : List DefinitionTree) → AreBodies ds → (n : ℕ) (l : Leading) → IsNoMark l → leads ds n l ≡ false
leads_nowhere ds h n nowhere k = refl
leads_nowhere ds h n (by_mark o) k = absurd k
leads_nowhere ds h zero (to s o) k = refl
leads_nowhere ds h (suc n) (to s o) k = leads_nowhere ds h n (leading_of (bodies s ds)) (sole (bodies s ds) (default_bodies s ds h))

joined : (ds es : List DefinitionTree) → AreBodies ds → AreBodies es → AreBodies (ds ++ es)
joined [] es h k = k
joined (d ∷ ds) es h k = (h.0, joined ds es h.1 k)

all_bodies : (fs : List FileTree) → AllByRecursion IsDefaultFile fs → AreBodies (flat_map definitions fs)
all_bodies [] h = tt
all_bodies (f ∷ fs) h = joined (definitions f) (flat_map definitions fs) h.0 (all_bodies fs h.1)

none_hands_on : (fs : List FileTree) → AllByRecursion IsDefaultFile fs → (s : List ℕ) → handing_on fs s ≡ false
none_hands_on fs h s = leads_nowhere (flat_map definitions fs) (all_bodies fs h) most_passed (to s 0) tt

-- ---- where no definition hands a default on

-- a label that authors wrote
written : (l : Label) → l.asked ≡ false → unasked l ≡ l
written l h = ap (λ a. let k : Label = record { text = l.text; quotes = l.quotes; asked = a; scoped = l.scoped } in k) (sym h)

module _ (has : List ℕ → Bool) (hands : (s : List ℕ) → has s ≡ false) where
  no_place : (l : Leading) → IsNoMark l → place_of has l ≡ []
  no_place nowhere k = refl
  no_place (by_mark o) k = absurd k
  no_place (to s o) k = ap (λ b. cond b (o ∷ []) []) (hands s)

  no_default : (l : Leading) → IsNoMark l → has_default has l ≡ false
  no_default nowhere k = refl
  no_default (by_mark o) k = absurd k
  no_default (to s o) k = hands s

  none_excluded : (every : Bool) (absent : List (List ℕ)) (s : List ℕ) (m : FieldMark) (e : Tree) → IsDefault e → excluded has every absent s m e ≡ []
  none_excluded every absent s Regular e h = by (every || is_repeated s absent) (no_place (leading e) (unmarked_value e h))
    where
      by : (b : Bool) → place_of has (leading e) ≡ [] → cond b (place_of has (leading e)) [] ≡ []
      by true k = k
      by false k = refl
  none_excluded every absent s Optional e h = refl
  none_excluded every absent s Required e h = refl
  none_excluded every absent s (Every o) e h = refl

  mutual
    no_clash : (e : Tree) → IsDefault e → clashes has e ≡ []
    no_clash (atom a) h = refl
    no_clash (named s o) h = refl
    no_clash (reference s o) h = refl
    no_clash (conjunction es) h = no_clash_each es h
    no_clash (disjunction es) h = no_clash_each es h
    no_clash (paren e) h = no_clash e h
    no_clash (struct o fs opened) h = no_clash_fields (has_every fs) (absent_labels has fs) fs h
    no_clash (list es end) h = nothing (clashes_each has es) (clashes_end has end) (no_clash_each es h.0) (no_clash_end end h.1)
    no_clash (wide w) h = absurd h

    no_clash_each : (es : Trees) → AreDefault es → clashes_each has es ≡ []
    no_clash_each none h = refl
    no_clash_each (more e es) h = nothing (clashes has e) (clashes_each has es) (no_clash e h.0) (no_clash_each es h.1)

    no_clash_fields : (every : Bool) (absent : List (List ℕ)) (fs : Fields) → AreDefaultFields fs → clashes_fields has every absent fs ≡ []
    no_clash_fields every absent no_field h = refl
    no_clash_fields every absent (field l m e fs) h = nothing (excluded has every absent l.text m e) (clashes has e ++ clashes_fields has every absent fs) (none_excluded every absent l.text m e h.1) (nothing (clashes has e) (clashes_fields has every absent fs) (no_clash e h.1) (no_clash_fields every absent fs h.2))

    no_clash_end : (end : End) → IsDefaultEnd end → clashes_end has end ≡ []
    no_clash_end closed h = refl
    no_clash_end any h = refl
    no_clash_end (each e) h = no_clash e h

  mutual
    stays : (e : Tree) → IsDefault e → unmarked has e ≡ e
    stays (atom a) h = refl
    stays (named s o) h = refl
    stays (reference s o) h = refl
    stays (conjunction es) h = ap conjunction (each_stays es h)
    stays (disjunction es) h = ap disjunction (each_stays es h)
    stays (paren e) h = ap paren (stays e h)
    stays (struct o fs opened) h = ap (λ gs. struct o gs opened) (fields_stay fs h)
    stays (list es end) h = ap₂ list (each_stays es h.0) (end_stays end h.1)
    stays (wide w) h = absurd h

    each_stays : (es : Trees) → AreDefault es → unmarked_each has es ≡ es
    each_stays none h = refl
    each_stays (more e es) h = ap₂ more (stays e h.0) (each_stays es h.1)

    fields_stay : (fs : Fields) → AreDefaultFields fs → unmarked_fields has fs ≡ fs
    fields_stay no_field h = refl
    fields_stay (field l m e fs) h =
        ap (λ b. field (unasked l) (optional_if b m) (unmarked has e) (unmarked_fields has fs))
        (no_default (leading e) (unmarked_value e h.1))
        ∙ ap (λ k. field k m (unmarked has e) (unmarked_fields has fs)) (written l h.0)
        ∙ ap₂ (λ d gs. field l m d gs) (stays e h.1) (fields_stay fs h.2)

    end_stays : (end : End) → IsDefaultEnd end → unmarked_end has end ≡ end
    end_stays closed h = refl
    end_stays any h = refl
    end_stays (each e) h = ap each (stays e h)

  definitions_stay : (ds : List DefinitionTree) → AreBodies ds → map (unmarked_definition has) ds ≡ ds
  definitions_stay [] h = refl
  definitions_stay (definition s o e ∷ ds) h = ap₂ (λ d es. definition s o d ∷ es) (stays e h.0) (definitions_stay ds h.1)

  files_stay : (fs : List FileTree) → AllByRecursion IsDefaultFile fs → map (unmarked_file has) fs ≡ fs
  files_stay [] h = refl
  files_stay (file p ds ns ∷ fs) h = ap₂ (λ es gs. file p es ns ∷ gs) (definitions_stay ds h.0) (files_stay fs h.1)

-- ---- files

module _ (found : Tree → List ℕ) (nowhere_found : (e : Tree) → IsDefault e → found e ≡ []) where
  none_in : (ds : List DefinitionTree) → AreBodies ds → flat_map (λ d. found (body d)) ds ≡ []
  none_in [] h = refl
  none_in (d ∷ ds) h = nothing (found (body d)) (flat_map (λ e. found (body e)) ds) (nowhere_found (body d) h.0) (none_in ds h.1)

  none_from : (i : ℕ) (fs : List FileTree) → AllByRecursion IsDefaultFile fs → places_from found i fs ≡ []
  none_from i [] h = refl
  none_from i (f ∷ fs) h = nothing (map (λ o. (i, o)) (flat_map (λ d. found (body d)) (definitions f))) (places_from found (suc i) fs) (ap (map (λ o. (i, o))) (none_in (definitions f) h.0)) (none_from (suc i) fs h.1)

pub files_stand : (fs : List FileTree) → AllByRecursion IsDefaultFile fs → IsUnmarked fs fs
files_stand fs h = record {
  faultless = nothing (places_from (misplaced true) 0 fs) (places_from (clashes (handing_on fs)) 0 fs) (none_from (misplaced true) (in_place true) 0 fs h) (none_from (clashes (handing_on fs)) (no_clash (handing_on fs) (none_hands_on fs h)) 0 fs h);
  unmarked = sym (files_stay (handing_on fs) (none_hands_on fs h) fs h);
}
