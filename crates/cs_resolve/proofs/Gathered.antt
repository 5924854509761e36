-- Bodies under their names, and one more.
use Rattle.std.proofs.Common.{◌≡◌, ℕ, zero, suc, Bool, true, false, ◌&&◌, cond, List, [], ◌∷◌, ◌++◌, map, zip, filter, length, set, Some, is_some, option_map, slice_get, String, string_bytes, Vec, Global, refl, sym, ap, ap₂, ◌∙◌, subst, arith}
use Rattle.std.specs.List.{IsDistinct, AllByRecursion, flat_map, list_all}
use Rattle.std.specs.Map.{lookup}
use Rattle.std.specs.Str.{bytes_eq}
use Rattle.std.proofs.lemmas.List.{map-append, map-set, append-nil, length-map}
use Rattle.std.proofs.lemmas.List.Folds.{list_all-append}
use Rattle.std.proofs.lemmas.List.Elements.{filter-append}
use Rattle.std.proofs.lemmas.Map.Keys.{IsDistinct-head, IsDistinct-tail}
use Rattle.std.proofs.lemmas.Option.{same_Some, slice_get-map}
use Rattle.cs_grammar.specs.Tree.{Tree, DefinitionTree, definition, defined_name, body, FileTree, definitions}
use Rattle.cs_resolve.specs.Declarations as Declared
use Rattle.cs_package.specs.Expression.{Expression}
use Rattle.cs_resolve.specs.Refinement.{Refinements}
use Rattle.cs_resolve.specs.Resolved.{resolved, environment_of_files}
use Rattle.cs_resolve.specs.Steps.{gathered, AreBodiesOf, IsShapeOf}
use Rattle.cs_package.specs.View.{bodies_of, expression_of, is_known, names_of}
use Rattle.cs_package.specs.declared.shape.Shape.{Shape}
use Rattle.cs_package.proofs.Environments.{all-at, bytes_eq-refl, bytes_eq-sym, apart}

abbrev seen : List (List ℕ) → Vec Shape Global → List Expression
seen ns v = map (expression_of ns) v.items

-- the resolved bodies of n
abbrev found : Refinements → List DefinitionTree → List ℕ → List Expression
found rs ds n = map (resolved rs) (Declared.bodies_of n ds)

module _ (rs : Refinements) (s : List ℕ) (o : ℕ) (t : Tree) (ds : List DefinitionTree) where
  abbrev more : List DefinitionTree
  more = ds ++ definition s o t ∷ []

  -- the bodies of n, and that of s if this is n
  bodies-more : (n : List ℕ) → found rs more n ≡ found rs ds n ++ cond (bytes_eq s n) (resolved rs t ∷ []) []
  bodies-more n =
      ap (λ es. map (resolved rs) (map body es)) (filter-append (λ d. bytes_eq (defined_name d) n) ds (definition s o t ∷ []))
      ∙ ap (map (resolved rs)) (map-append body (filter (λ d. bytes_eq (defined_name d) n) ds) (filter (λ d. bytes_eq (defined_name d) n) (definition s o t ∷ [])))
      ∙ map-append (resolved rs) (Declared.bodies_of n ds) (map body (filter (λ d. bytes_eq (defined_name d) n) (definition s o t ∷ [])))
      ∙ ap (λ es. found rs ds n ++ es) (one (bytes_eq s n))
    where
      one : (b : Bool) → map (resolved rs) (map body (cond b (definition s o t ∷ []) [])) ≡ cond b (resolved rs t ∷ []) []
      one true = refl
      one false = refl

  bodies-same : (n : List ℕ) → bytes_eq s n ≡ false → found rs more n ≡ found rs ds n
  bodies-same n e = bodies-more n ∙ ap (λ b. found rs ds n ++ cond b (resolved rs t ∷ []) []) e ∙ append-nil (found rs ds n)

  bodies-own : (n : List ℕ) → n ≡ s → found rs more n ≡ found rs ds n ++ resolved rs t ∷ []
  bodies-own n e = bodies-more n ∙ ap (λ b. found rs ds n ++ cond b (resolved rs t ∷ []) []) (ap (λ m. bytes_eq s m) e ∙ bytes_eq-refl s)

  -- a name that isn't among them leaves their bodies
  pub gathered-same : (ns : List (List ℕ)) → AllByRecursion (λ n. bytes_eq s n ≡ false) ns → gathered rs ns more ≡ gathered rs ns ds
  gathered-same [] h = refl
  gathered-same (n ∷ ns) h = ap₂ (λ es rest. es ∷ rest) (bodies-same n h.0) (gathered-same ns h.1)

  -- a name among them gets one body more
  pub gathered-more : (ns : List (List ℕ)) (i : ℕ) (es : List Expression) → IsDistinct bytes_eq ns → slice_get ns i ≡ Some s → slice_get (gathered rs ns ds) i ≡ Some es → set (gathered rs ns ds) i (es ++ resolved rs t ∷ []) ≡ gathered rs ns more
  gathered-more [] i es d at has = cc
  gathered-more (n ∷ ns) zero es d at has =
      let same : n ≡ s = same_Some n s at in
      let other = subst (λ m. AllByRecursion (λ y. bytes_eq m y ≡ false) ns) same (IsDistinct-head bytes_eq n ns d) in
      ap₂ (λ xs rest. xs ∷ rest) (ap (λ xs. xs ++ resolved rs t ∷ []) (sym (same_Some (found rs ds n) es has)) ∙ sym (bodies-own n same)) (sym (gathered-same ns other))
  gathered-more (n ∷ ns) (suc i) es d at has =
      let other = bytes_eq-sym s n ∙ apart n s i ns (IsDistinct-head bytes_eq n ns d) at in
      ap₂ (λ xs rest. xs ∷ rest) (sym (bodies-same n other)) (gathered-more ns i es (IsDistinct-tail bytes_eq n ns d) at has)

-- a text that the table has not differs from each of its names
pub other_names : {V : Type 0} (t : List ℕ) (es : List (String Global × V)) → is_some (lookup (λ k. bytes_eq t (string_bytes k)) es) ≡ false → AllByRecursion (λ n. bytes_eq t n ≡ false) (names_of es)
other_names t [] h = tt
other_names t (x ∷ es) h = by (bytes_eq t (string_bytes x.0)) refl h (other_names t es)
  where
    by : (b : Bool) → bytes_eq t (string_bytes x.0) ≡ b → is_some (cond b (Some x.1) (lookup (λ k. bytes_eq t (string_bytes k)) es)) ≡ false → (is_some (lookup (λ k. bytes_eq t (string_bytes k)) es) ≡ false → AllByRecursion (λ n. bytes_eq t n ≡ false) (names_of es)) → (bytes_eq t (string_bytes x.0) ≡ false) × AllByRecursion (λ n. bytes_eq t n ≡ false) (names_of es)
    by true e none rest = cc
    by false e none rest = (e, rest none)

-- names beside their bodies are the environment
paired : (rs : Refinements) (ds : List DefinitionTree) (ns : List (List ℕ)) → zip ns (gathered rs ns ds) ≡ map (λ (d : List ℕ × List Tree). (d.0, map (resolved rs) d.1)) (map (λ n. (n, Declared.bodies_of n ds)) ns)
paired rs ds [] = refl
paired rs ds (n ∷ ns) = ap (λ rest. (n, found rs ds n) ∷ rest) (paired rs ds ns)

pub environment-gathered : (rs : Refinements) (fs : List FileTree) (ns : List (List ℕ)) (es : List (List Expression)) → ns ≡ Declared.names (flat_map definitions fs) → es ≡ gathered rs ns (flat_map definitions fs) → zip ns es ≡ environment_of_files rs fs
environment-gathered rs fs ns es names bodies =
    ap (λ cs. zip ns cs) bodies ∙ paired rs (flat_map definitions fs) ns ∙ ap (λ ms. map (λ (d : List ℕ × List Tree). (d.0, map (resolved rs) d.1)) (map (λ n. (n, Declared.bodies_of n (flat_map definitions fs))) ms)) names

pub length-names : {V : Type 0} (es : List (String Global × V)) → length (names_of es) ≡ length es
length-names [] = refl
length-names (x ∷ es) = ap suc (length-names es)

-- ---- shapes

module _ (rs : Refinements) (ns : List (List ℕ)) where
  abbrev IsKnown : Vec Shape Global → Type 0
  IsKnown v = list_all (is_known (length ns)) v.items ≡ true

  all-set : (vs : List (Vec Shape Global)) (i : ℕ) (v : Vec Shape Global) → AllByRecursion IsKnown vs → IsKnown v → AllByRecursion IsKnown (set vs i v)
  all-set [] i v h k = tt
  all-set (x ∷ vs) zero v h k = (k, h.1)
  all-set (x ∷ vs) (suc i) v h k = (h.0, all-set vs i v h.1 k)

  -- one body more stands behind those of its name
  pub bodies-added : (s : List ℕ) (o : ℕ) (t : Tree) (shape : Shape) (ds : List DefinitionTree) (vs : List (Vec Shape Global)) (i : ℕ) (old new : Vec Shape Global) → IsDistinct bytes_eq ns → slice_get ns i ≡ Some s → slice_get vs i ≡ Some old → new.items ≡ old.items ++ shape ∷ []
      → AreBodiesOf rs ns vs ds → IsShapeOf rs ns shape t → AreBodiesOf rs ns (set vs i new) (ds ++ definition s o t ∷ [])
  bodies-added s o t shape ds vs i old new distinct at there grown before is =
      let es = map (expression_of ns) old.items in
      let has = ap (λ es. slice_get es i) (sym before.same) ∙ slice_get-map (seen ns) vs i ∙ ap (option_map (seen ns)) there in
      let one = ap (map (expression_of ns)) grown ∙ map-append (expression_of ns) old.items (shape ∷ []) ∙ ap (λ x. es ++ x ∷ []) is.same in
      let known = all-at IsKnown vs i old before.known there in
      record {
        same = map-set (seen ns) vs i new ∙ ap₂ (λ es x. set es i x) before.same one ∙ gathered-more rs s o t ds ns i es distinct at has;
        known = all-set vs i new before.known (ap (list_all (is_known (length ns))) grown ∙ list_all-append (is_known (length ns)) old.items (shape ∷ []) ∙ ap₂ (λ a b. a && (b && true)) known is.known);
      }

  -- a body of another name adds nothing
  pub bodies-kept : (s : List ℕ) (o : ℕ) (t : Tree) (ds : List DefinitionTree) (vs : List (Vec Shape Global)) → AllByRecursion (λ n. bytes_eq s n ≡ false) ns → AreBodiesOf rs ns vs ds → AreBodiesOf rs ns vs (ds ++ definition s o t ∷ [])
  bodies-kept s o t ds vs other before = record {
    same = before.same ∙ sym (gathered-same rs s o t ds ns other);
    known = before.known;
  }

  -- empty lists are the bodies that no definitions give
  pub bodies-none : (vs : List (Vec Shape Global)) → length vs ≡ length ns → AllByRecursion (λ v. v.items ≡ []) vs → AreBodiesOf rs ns vs []
  bodies-none vs long empty = record { same = same vs ns long empty; known = known vs empty }
    where
      same : (us : List (Vec Shape Global)) (ms : List (List ℕ)) → length us ≡ length ms → AllByRecursion (λ v. v.items ≡ []) us → bodies_of ns us ≡ gathered rs ms []
      same [] [] l e = refl
      same [] (m ∷ ms) l e = absurd (omega arith)
      same (u ∷ us) [] l e = absurd (omega arith)
      same (u ∷ us) (m ∷ ms) l e = ap₂ (λ x rest. map (expression_of ns) x ∷ rest) e.0 (same us ms (omega arith) e.1)

      known : (us : List (Vec Shape Global)) → AllByRecursion (λ v. v.items ≡ []) us → AllByRecursion IsKnown us
      known [] e = tt
      known (u ∷ us) e = (ap (list_all (is_known (length ns))) e.0, known us e.1)

pub length-bodies : (rs : Refinements) (ns : List (List ℕ)) (vs : List (Vec Shape Global)) (ds : List DefinitionTree) → AreBodiesOf rs ns vs ds → length ns ≡ length vs
length-bodies rs ns vs ds h = sym (length-map ns (found rs ds)) ∙ sym (ap length h.same) ∙ length-map vs (seen ns)
