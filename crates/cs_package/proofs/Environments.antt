-- Environments, place by place and name by name.
use Rattle.std.proofs.Common.{◌≡◌, ℕ, zero, suc, ◌<◌, Bool, true, false, cond, List, [], ◌∷◌, map, length, Option, Some, None, is_some, option_map, slice_get, get_or, position, IfSome, IfNone, String, string_bytes, Vec, Global, refl, sym, ap, ◌∙◌, subst, true≢false, arith}
use Rattle.std.specs.Cmp.{both_ways}
use Rattle.std.specs.List.{IsDistinct, AllByRecursion}
use Rattle.std.specs.Map.{keys_of, lookup}
use Rattle.std.specs.Str.{bytes_eq}
use Rattle.std.specs.String.{string_eq}
use Rattle.indexmap.specs.IndexMap.{insert_entry}
use Rattle.std.proofs.lemmas.List.Quantifiers.{position-Some}
use Rattle.std.proofs.lemmas.Map.Keys.{IsDistinct-head, IsDistinct-tail, IsDistinct-cons}
use Rattle.std.proofs.lemmas.Option.{slice_get-map, slice_get-get_or, same_Some}
use Rattle.std.proofs.lemmas.Slice.Eq.{bytes_eq-Decides}
use Rattle.cs_package.specs.Expression.{Expression}
use Rattle.cs_package.specs.Environment.{Environment, declared_names, bodies, name_at, bodies_at, written, Names, IsDefinitionName}
use Rattle.cs_package.specs.View.{expression_of, names_of, bodies_of, environment_of, IsTable}
use Rattle.cs_package.specs.declared.shape.Shape.{Shape}

pub bytes_eq-refl : (t : List ℕ) → bytes_eq t t ≡ true
bytes_eq-refl t = (bytes_eq-Decides t t).1 refl

bytes_eq-turned : (s t : List ℕ) → bytes_eq s t ≡ true → bytes_eq t s ≡ true
bytes_eq-turned s t e = (bytes_eq-Decides t s).1 (sym ((bytes_eq-Decides s t).0 e))

pub bytes_eq-sym : (s t : List ℕ) → bytes_eq s t ≡ bytes_eq t s
bytes_eq-sym s t = both_ways (bytes_eq s t) (bytes_eq t s) (bytes_eq-turned s t) (bytes_eq-turned t s)

-- what holds of all holds of the one at a place
pub all-at : {X : Type 0} (P : X → Type 0) (xs : List X) (i : ℕ) (x : X) → AllByRecursion P xs → slice_get xs i ≡ Some x → P x
all-at P [] i x h e = cc
all-at P (y ∷ xs) zero x h e = subst P (same_Some y x e) h.0
all-at P (y ∷ xs) (suc i) x h e = all-at P xs i x h.1 e

pub apart : (n m : List ℕ) (i : ℕ) (ns : List (List ℕ)) → AllByRecursion (λ y. bytes_eq n y ≡ false) ns → slice_get ns i ≡ Some m → bytes_eq n m ≡ false
apart n m i [] h e = cc
apart n m zero (x ∷ ns) h e = subst (λ y. bytes_eq n y ≡ false) (same_Some x m e) h.0
apart n m (suc i) (x ∷ ns) h e = apart n m i ns h.1 e

-- where names stand once, a name's bodies are those at its place
pub bodies-at : (E : Environment) (i : ℕ) (n : List ℕ) → IsDistinct bytes_eq (declared_names E) → name_at E i ≡ Some n → bodies E n ≡ bodies_at E i
bodies-at [] i n d e = cc
bodies-at (x ∷ E) zero n d e = let same : x.0 ≡ n = same_Some x.0 n e in ap (λ b. cond b (Some x.1) (bodies E n)) (ap (λ y. bytes_eq n y) same ∙ bytes_eq-refl n)
bodies-at (x ∷ E) (suc i) n d e =
    let there : slice_get (declared_names E) i ≡ Some n = slice_get-map (λ (y : List ℕ × List Expression). y.0) E i ∙ e in
    let other = bytes_eq-sym n x.0 ∙ apart x.0 n i (declared_names E) (IsDistinct-head bytes_eq x.0 (declared_names E) d) there in
    ap (λ b. cond b (Some x.1) (bodies E n)) other ∙ bodies-at E i n (IsDistinct-tail bytes_eq x.0 (declared_names E) d) e

pub bodies-named : (E : Environment) (i : ℕ) → IsDistinct bytes_eq (declared_names E) → IfSome (name_at E i) (λ n. bodies E n ≡ bodies_at E i)
bodies-named E i d = by (name_at E i) refl
  where
    by : (o : Option (List ℕ)) → name_at E i ≡ o → IfSome o (λ n. bodies E n ≡ bodies_at E i)
    by None e = tt
    by (Some n) e = bodies-at E i n d e

-- the text beside a name is that name as CUE writes it
pub written-at : (ns : List (List ℕ)) (es : List (String Global × String Global)) (vs : List (Vec Shape Global)) (i : ℕ) (k w : String Global) → length es ≡ length vs → AllByRecursion (λ e. string_bytes e.1 ≡ written (string_bytes e.0)) es
    → Some (k, w) ≡ slice_get es i
    → IfSome (name_at (environment_of ns es vs) i) (λ n. string_bytes w ≡ written n)
written-at ns [] vs i k w long h e = tt
written-at ns (x ∷ es) [] i k w long h e = tt
written-at ns (x ∷ es) (v ∷ vs) zero k w long h e = let same = same_Some (k, w) x e in ap (λ (p : String Global × String Global). string_bytes p.1) same ∙ h.0
written-at ns (x ∷ es) (v ∷ vs) (suc i) k w long h e = written-at ns es vs i k w (omega arith) h.1 e

keys-apart : (k : String Global) (ks : List (String Global)) → AllByRecursion (λ y. string_eq k y ≡ false) ks → AllByRecursion (λ y. bytes_eq (string_bytes k) y ≡ false) (map string_bytes ks)
keys-apart k [] h = tt
keys-apart k (x ∷ ks) h = (h.0, keys-apart k ks h.1)

none-distinct : IsDistinct bytes_eq []
unfolding IsDistinct
none-distinct = tt

names-distinct : (ks : List (String Global)) → IsDistinct string_eq ks → IsDistinct bytes_eq (map string_bytes ks)
names-distinct [] d = none-distinct
names-distinct (k ∷ ks) d =
    IsDistinct-cons bytes_eq (string_bytes k) (map string_bytes ks) (keys-apart k ks (IsDistinct-head string_eq k ks d)) (names-distinct ks (IsDistinct-tail string_eq k ks d))

written-insert : (es : List (String Global × String Global)) (k w : String Global) → AllByRecursion (λ e. string_bytes e.1 ≡ written (string_bytes e.0)) es → string_bytes w ≡ written (string_bytes k)
    → AllByRecursion (λ e. string_bytes e.1 ≡ written (string_bytes e.0)) (insert_entry string_eq es k w)
written-insert [] k w h e = (e, tt)
written-insert (x ∷ es) k w h e = by (bytes_eq (string_bytes k) (string_bytes x.0)) refl (written-insert es k w h.1 e)
  where
    by : (b : Bool) → bytes_eq (string_bytes k) (string_bytes x.0) ≡ b → AllByRecursion (λ e. string_bytes e.1 ≡ written (string_bytes e.0)) (insert_entry string_eq es k w)
        → AllByRecursion (λ e. string_bytes e.1 ≡ written (string_bytes e.0)) (cond b ((x.0, w) ∷ es) (x ∷ insert_entry string_eq es k w))
    by true q later = (e ∙ ap written ((bytes_eq-Decides (string_bytes k) (string_bytes x.0)).0 q), h.1)
    by false q later = (h.0, later)

spelled-insert : (es : List (String Global × String Global)) (k w : String Global) → AllByRecursion (λ e. IsDefinitionName (string_bytes e.0)) es → IsDefinitionName (string_bytes k)
    → AllByRecursion (λ e. IsDefinitionName (string_bytes e.0)) (insert_entry string_eq es k w)
spelled-insert [] k w h e = (e, tt)
spelled-insert (x ∷ es) k w h e = by (bytes_eq (string_bytes k) (string_bytes x.0)) (spelled-insert es k w h.1 e)
  where
    by : (b : Bool) → AllByRecursion (λ e. IsDefinitionName (string_bytes e.0)) (insert_entry string_eq es k w)
        → AllByRecursion (λ e. IsDefinitionName (string_bytes e.0)) (cond b ((x.0, w) ∷ es) (x ∷ insert_entry string_eq es k w))
    by true later = h
    by false later = (h.0, later)

-- the names of a table are names of definitions
pub spelled-at : (es : List (String Global × String Global)) (i : ℕ) → AllByRecursion (λ e. IsDefinitionName (string_bytes e.0)) es → IfSome (slice_get (names_of es) i) IsDefinitionName
spelled-at [] i h = tt
spelled-at (x ∷ es) zero h = h.0
spelled-at (x ∷ es) (suc i) h = spelled-at es i h.1

-- a name of a table is the name of a definition
pub spelled-name : (es : List (String Global × String Global)) (i : ℕ) (k w : String Global) → AllByRecursion (λ e. IsDefinitionName (string_bytes e.0)) es → Some (k, w) ≡ slice_get es i → IsDefinitionName (string_bytes k)
spelled-name es i k w h e = all-at (λ (x : String Global × String Global). IsDefinitionName (string_bytes x.0)) es i (k, w) h (sym e)

-- no name
pub table-empty : (es : List (String Global × String Global)) → es ≡ [] → IsTable es
table-empty [] e = record { distinct = none-distinct; written = tt; spelled = tt }
table-empty (x ∷ es) e = cc

-- a name put into a table
pub table-insert : (es new : List (String Global × String Global)) (k w : String Global) → IsTable es → string_bytes w ≡ written (string_bytes k) → IsDefinitionName (string_bytes k) → new ≡ insert_entry string_eq es k w → IsDistinct string_eq (keys_of new) → IsTable new
table-insert es new k w t e s is d = record {
  distinct = names-distinct (keys_of new) d;
  written = subst (AllByRecursion (λ x. string_bytes x.1 ≡ written (string_bytes x.0))) (sym is) (written-insert es k w t.written e);
  spelled = subst (AllByRecursion (λ x. IsDefinitionName (string_bytes x.0))) (sym is) (spelled-insert es k w t.spelled s);
}

module _ {V : Type 0} (ns : List (List ℕ)) where
  -- a name is declared exactly where the table has it
  pub declared : (t : List ℕ) (es : List (String Global × V)) (vs : List (Vec Shape Global)) → length es ≡ length vs → is_some (bodies (environment_of ns es vs) t) ≡ is_some (lookup (λ k. bytes_eq t (string_bytes k)) es)
  declared t [] vs e = refl
  declared t (x ∷ es) [] e = absurd (omega arith)
  declared t (x ∷ es) (v ∷ vs) e =
      elim (bytes_eq t (string_bytes x.0)) as (λ b. is_some (cond b (Some (map (expression_of ns) v.items)) (bodies (environment_of ns es vs) t)) ≡ is_some (cond b (Some x.1) (lookup (λ k. bytes_eq t (string_bytes k)) es))) [
        | true ↦ refl
        | false ↦ declared t es vs (omega arith)
      ]

  pub name_at-is : (es : List (String Global × V)) (vs : List (Vec Shape Global)) (i : ℕ) → length es ≡ length vs → name_at (environment_of ns es vs) i ≡ slice_get (names_of es) i
  name_at-is [] vs i e = refl
  name_at-is (x ∷ es) [] i e = absurd (omega arith)
  name_at-is (x ∷ es) (v ∷ vs) zero e = refl
  name_at-is (x ∷ es) (v ∷ vs) (suc i) e = name_at-is es vs i (omega arith)

  pub name-there : (es : List (String Global × V)) (vs : List (Vec Shape Global)) (i : ℕ) (k : String Global) (v : V) → length es ≡ length vs → Some (k, v) ≡ slice_get es i → name_at (environment_of ns es vs) i ≡ Some (string_bytes k)
  name-there [] vs i k v long e = cc
  name-there (x ∷ es) [] i k v long e = absurd (omega arith)
  name-there (x ∷ es) (b ∷ vs) zero k v long e = ap (λ (p : String Global × V). Some (string_bytes p.0)) (same_Some x (k, v) (sym e))
  name-there (x ∷ es) (b ∷ vs) (suc i) k v long e = name-there es vs i k v (omega arith) e

  pub bodies_at-is : (es : List (String Global × V)) (vs : List (Vec Shape Global)) (i : ℕ) → length es ≡ length vs → bodies_at (environment_of ns es vs) i ≡ slice_get (bodies_of ns vs) i
  bodies_at-is [] [] i e = refl
  bodies_at-is [] (v ∷ vs) i e = absurd (omega arith)
  bodies_at-is (x ∷ es) [] i e = absurd (omega arith)
  bodies_at-is (x ∷ es) (v ∷ vs) zero e = refl
  bodies_at-is (x ∷ es) (v ∷ vs) (suc i) e = bodies_at-is es vs i (omega arith)

  pub names-is : (es : List (String Global × V)) (vs : List (Vec Shape Global)) → length es ≡ length vs → declared_names (environment_of ns es vs) ≡ names_of es
  names-is [] vs e = refl
  names-is (x ∷ es) [] e = absurd (omega arith)
  names-is (x ∷ es) (v ∷ vs) e = ap (λ ns. string_bytes x.0 ∷ ns) (names-is es vs (omega arith))

  pub length-is : (es : List (String Global × V)) (vs : List (Vec Shape Global)) → length es ≡ length vs → length (environment_of ns es vs) ≡ length vs
  length-is [] [] e = refl
  length-is [] (v ∷ vs) e = absurd (omega arith)
  length-is (x ∷ es) [] e = absurd (omega arith)
  length-is (x ∷ es) (v ∷ vs) e = ap suc (length-is es vs (omega arith))

  -- the number of a definition is one of a name and of bodies
  pub within-both : {E : Environment} (es : List (String Global × V)) (vs : List (Vec Shape Global)) (i : ℕ) → length es ≡ length vs → environment_of ns es vs ≡ E → i < length E → (i < length es) × (i < length vs)
  within-both es vs i long is l = omega (arith, l, length-is es vs long, long, ap length is)

  -- the table's place of a name
  pub place : (t : List ℕ) (es : List (String Global × V)) (i : ℕ) → position (λ k. bytes_eq t (string_bytes k)) (keys_of es) ≡ Some i → slice_get (names_of es) i ≡ Some t
  place t [] i found = cc
  place t (x ∷ es) i found =
      let k = get_or (keys_of (x ∷ es)) i x.0 in
      let p = position-Some (λ (k : String Global). bytes_eq t (string_bytes k)) (keys_of (x ∷ es)) i x.0 found in
      slice_get-map string_bytes (keys_of (x ∷ es)) i ∙ ap (option_map string_bytes) (slice_get-get_or (keys_of (x ∷ es)) i x.0 p.0)
      ∙ ap Some (sym ((bytes_eq-Decides t (string_bytes k)).0 p.1))

  pub found_at : (t : List ℕ) (es : List (String Global × V)) (vs : List (Vec Shape Global)) → length es ≡ length vs → (o : Option ℕ) → o ≡ position (λ k. bytes_eq t (string_bytes k)) (keys_of es) → is_some o ≡ is_some (lookup (λ k. bytes_eq t (string_bytes k)) es)
      → (text : List ℕ) → text ≡ written t → IfSome o (λ i. (n : List ℕ) × Names (environment_of ns es vs) text n × (name_at (environment_of ns es vs) i ≡ Some n))
  found_at t es vs long None is has text e = tt
  found_at t es vs long (Some i) is has text e = (t, record { text = e; declared = declared t es vs long ∙ sym has }, name_at-is es vs i long ∙ place t es i (sym is))

  pub found_nowhere : (t : List ℕ) (es : List (String Global × V)) (vs : List (Vec Shape Global)) → length es ≡ length vs → (o : Option ℕ) → is_some o ≡ is_some (lookup (λ k. bytes_eq t (string_bytes k)) es)
      → (text : List ℕ) → text ≡ written t → IfNone o ((n : List ℕ) → ¬ Names (environment_of ns es vs) text n)
  found_nowhere t es vs long (Some i) has text e = tt
  found_nowhere t es vs long None has text e = λ n h.
      let words : written t ≡ written n = sym e ∙ h.text in
      let same : t ≡ n = cc in
      let there : is_some (bodies (environment_of ns es vs) t) ≡ true = ap (λ m. is_some (bodies (environment_of ns es vs) m)) same ∙ h.declared in
      true≢false (sym there ∙ declared t es vs long ∙ sym has)
