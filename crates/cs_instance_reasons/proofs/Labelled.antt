-- What is told of the member that has a label.
use Rattle.std.proofs.Common.{◌≡◌, ℕ, zero, suc, Bool, true, false, not, ◌||◌, List, [], ◌∷◌, ◌++◌, map, ◌+◌, Contains, Option, Some, None, option_map, is_some, if◌then◌else◌, Result, Ok, Err, Vec, Global, IfOk, refl, sym, ap, ap₂, ◌∙◌, subst, slice_get, arith, nat_cmp, Less}
use Rattle.std.specs.declared.alloc.AllocError.{AllocError}
use Rattle.std.specs.List.{list_any, AllByRecursion as Each}
use Rattle.std.specs.Str.{bytes_eq}
use Rattle.std.specs.Ordering.{is_eq}
use Rattle.std.specs.Cmp.Lexicographic.{slice_cmp}
use Rattle.std.proofs.lemmas.List.{append-nil}
use Rattle.std.proofs.lemmas.Map.Text.{is_eq-slice_cmp}
use Rattle.std.proofs.lemmas.Option.{same_Some, slice_get-map}
use Rattle.cs_document.specs.Document.{Entry, under}
use Rattle.cs_document.specs.Inside.{KeysAscend}
use Rattle.cs_package.proofs.Environments.{bytes_eq-refl, bytes_eq-sym}
use Rattle.cs_package.specs.Expression.{Declaration, is_every}
use Rattle.cs_instance_reasons.specs.CauseLists.{told_from, unless, label_causes, missing_causes, declaration_cause, asked_at, or_behind}
use Rattle.cs_instance.specs.Constraint.{Rest, nothing, anything, each, may_be_absent, allows}
use Rattle.cs_instance.specs.Numbering.{map_declaration, map_rest}
use Rattle.cs_instance_reasons.specs.declared.cause.InstanceCause.{InstanceCause}
use Rattle.cs_instance_reasons.specs.declared.cause.InstanceCause.TheVariants.{Member, Missing}
use Rattle.cs_instance_reasons.proofs.Tellings.{AreSomeOf}

pub each_there : {X : Type 0} (P : X → Type 0) (xs : List X) (k : ℕ) (x : X) → Each P xs → slice_get xs k ≡ Some x → P x
each_there P [] k x h e = cc
each_there P (y ∷ xs) zero x h e = subst P (same_Some y x e) h.0
each_there P (y ∷ xs) (suc k) x h e = each_there P xs k x h.1 e

-- ---- keys in order

pub less_apart : (a b : List ℕ) → slice_cmp nat_cmp a b ≡ Less → bytes_eq a b ≡ false
less_apart a b e = sym (is_eq-slice_cmp a b) ∙ ap is_eq e

-- the key at a place is the label of no other place
pub key_above : {A : Type 0} (m : Entry A) (ms : List (Entry A)) (k : ℕ) (e : Entry A) → KeysAscend (m ∷ ms) → slice_get ms k ≡ Some e → bytes_eq m.0 e.0 ≡ false
key_above m ms k e up at = less_apart m.0 e.0 (each_there (λ o. slice_cmp nat_cmp m.0 o.0 ≡ Less) ms k e up.0 at)

pub under_at : {A : Type 0} (ms : List (Entry A)) (k : ℕ) (e : Entry A) → KeysAscend ms → slice_get ms k ≡ Some e → under e.0 ms ≡ Some e.1
under_at [] k e up at = cc
under_at (m ∷ ms) zero e up at =
    let same : m ≡ e = same_Some m e at in
    ap (λ b. if b then Some m.1 else under e.0 ms) (ap (bytes_eq e.0) (ap (λ o. o.0) same) ∙ bytes_eq-refl e.0) ∙ ap (λ o. Some o.1) same
under_at (m ∷ ms) (suc k) e up at =
    ap (λ b. if b then Some m.1 else under e.0 ms) (bytes_eq-sym e.0 m.0 ∙ key_above m ms k e up at) ∙ under_at ms k e up.1 at

module _ (here : ℕ → Bool) (inside : ℕ → ℕ → Bool) (i r : ℕ) (j : ℕ) (d : Declaration ℕ) where
  abbrev pub label_cause : ℕ → Entry ℕ → List InstanceCause
  label_cause m e = unless (not (bytes_eq d.label e.0) || inside e.1 d.value) (Member j m e.1 d.value)

  other_key : (k : ℕ) (e : Entry ℕ) (rest : List InstanceCause) → bytes_eq d.label e.0 ≡ false → label_cause k e ++ rest ≡ rest
  other_key k e rest h = ap (λ b. unless (not b || inside e.1 d.value) (Member j k e.1 d.value) ++ rest) h

  this_key : (k : ℕ) (e : Entry ℕ) → bytes_eq d.label e.0 ≡ true → label_cause k e ≡ unless (inside e.1 d.value) (Member j k e.1 d.value)
  this_key k e h = ap (λ b. unless (not b || inside e.1 d.value) (Member j k e.1 d.value)) h

  no_key : (ms : List (Entry ℕ)) (k : ℕ) → Each (λ (e : Entry ℕ). bytes_eq d.label e.0 ≡ false) ms → told_from label_cause k ms ≡ []
  no_key [] k h = refl
  no_key (m ∷ ms) k h = other_key k m (told_from label_cause (suc k) ms) h.0 ∙ no_key ms (suc k) h.1

  others : (m : Entry ℕ) (ms : List (Entry ℕ)) → m.0 ≡ d.label → Each (λ (o : Entry ℕ). slice_cmp nat_cmp m.0 o.0 ≡ Less) ms → Each (λ (e : Entry ℕ). bytes_eq d.label e.0 ≡ false) ms
  others m [] same h = tt
  others m (o ∷ ms) same h = (ap (λ l. bytes_eq l o.0) (sym same) ∙ less_apart m.0 o.0 h.0, others m ms same h.1)

  -- the first place is k
  found_from : (ms : List (Entry ℕ)) (k n : ℕ) (e : Entry ℕ) → KeysAscend ms → slice_get ms n ≡ Some e → e.0 ≡ d.label → told_from label_cause k ms ≡ unless (inside e.1 d.value) (Member j (k + n) e.1 d.value)
  found_from [] k n e up at same = cc
  found_from (m ∷ ms) k zero e up at same =
      let is : m ≡ e = same_Some m e at in
      let label : m.0 ≡ d.label = ap (λ o. o.0) is ∙ same in
      ap₂ ◌++◌ (this_key k m (ap (bytes_eq d.label) label ∙ bytes_eq-refl d.label)) (no_key ms (suc k) (others m ms label up.0))
      ∙ append-nil (unless (inside m.1 d.value) (Member j k m.1 d.value))
      ∙ ap (λ (o : Entry ℕ). unless (inside o.1 d.value) (Member j k o.1 d.value)) is
      ∙ (let place : k ≡ k + 0 = omega arith in ap (λ p. unless (inside e.1 d.value) (Member j p e.1 d.value)) place)
  found_from (m ∷ ms) k (suc n) e up at same =
      let other : bytes_eq d.label m.0 ≡ false = bytes_eq-sym d.label m.0 ∙ ap (bytes_eq m.0) (sym same) ∙ key_above m ms n e up at in
      let place : suc k + n ≡ k + suc n = omega arith in
      other_key k m (told_from label_cause (suc k) ms) other ∙ found_from ms (suc k) n e up.1 at same ∙ ap (λ p. unless (inside e.1 d.value) (Member j p e.1 d.value)) place

  missed_from : (ms : List (Entry ℕ)) → under d.label ms ≡ None → Each (λ (e : Entry ℕ). bytes_eq d.label e.0 ≡ false) ms
  missed_from [] h = tt
  missed_from (m ∷ ms) h = by (bytes_eq d.label m.0) refl h (missed_from ms)
    where
      by : (b : Bool) → bytes_eq d.label m.0 ≡ b → (if b then Some m.1 else under d.label ms) ≡ None → (under d.label ms ≡ None → Each (λ (e : Entry ℕ). bytes_eq d.label e.0 ≡ false) ms) → Each (λ (e : Entry ℕ). bytes_eq d.label e.0 ≡ false) (m ∷ ms)
      by true e k rest = cc
      by false e k rest = (e, rest k)

  pub declaration_found : (ms : List (Entry ℕ)) (n : ℕ) (e : Entry ℕ) → is_every d.mark ≡ false → KeysAscend ms → slice_get ms n ≡ Some e → e.0 ≡ d.label
      → declaration_cause here inside i r ms j d ≡ unless (inside e.1 d.value) (Member j n e.1 d.value)
  declaration_found ms n e mark up at same =
      let there : is_some (under d.label ms) ≡ true = ap is_some (ap (λ l. under l ms) (sym same) ∙ under_at ms n e up at) in
      let place : 0 + n ≡ n = omega arith in
      let one : told_from label_cause 0 ms ≡ unless (inside e.1 d.value) (Member j n e.1 d.value) = found_from ms 0 n e up at same ∙ ap (λ p. unless (inside e.1 d.value) (Member j p e.1 d.value)) place in
      let none : missing_causes here inside i r j d ms ≡ [] = present (may_be_absent d.mark) (is_some (under d.label ms)) there in
      unfolded mark ∙ ap₂ ◌++◌ one none ∙ append-nil (unless (inside e.1 d.value) (Member j n e.1 d.value))
    where
      present : (a b : Bool) → b ≡ true → unless (a || b) (Missing j r) ≡ []
      present true b h = refl
      present false b h = ap (λ t. unless t (Missing j r)) h

      unfolded : is_every d.mark ≡ false → declaration_cause here inside i r ms j d ≡ label_causes here inside i r j d ms ++ missing_causes here inside i r j d ms
      unfolded h = ap (λ b. if b then told_from (λ m (o : Entry ℕ). unless (inside o.1 d.value) (Member j m o.1 d.value)) 0 ms else label_causes here inside i r j d ms ++ missing_causes here inside i r j d ms) h

  pub declaration_missed : (ms : List (Entry ℕ)) → is_every d.mark ≡ false → under d.label ms ≡ None → declaration_cause here inside i r ms j d ≡ unless (may_be_absent d.mark) (Missing j r)
  declaration_missed ms mark none =
      ap (λ b. if b then told_from (λ m (o : Entry ℕ). unless (inside o.1 d.value) (Member j m o.1 d.value)) 0 ms else label_causes here inside i r j d ms ++ missing_causes here inside i r j d ms) mark
      ∙ ap₂ ◌++◌ (no_key ms 0 (missed_from ms none)) (absent (may_be_absent d.mark) (is_some (under d.label ms)) (ap is_some none))
    where
      absent : (a b : Bool) → b ≡ false → unless (a || b) (Missing j r) ≡ unless a (Missing j r)
      absent true b h = refl
      absent false b h = ap (λ t. unless t (Missing j r)) h

-- ---- parts by their numbers

pub same_allowed : {M N : Type 0} (g : M → N) (k : List ℕ) (ds : List (Declaration M)) → list_any (λ d. allows d k) (map (map_declaration g) ds) ≡ list_any (λ d. allows d k) ds
same_allowed g k [] = refl
same_allowed g k (d ∷ ds) = ap (λ b. allows d k || b) (same_allowed g k ds)

pub asked_named : (g : ℕ → ℕ) (es : List ℕ) (rest : Rest ℕ) (k : ℕ) → asked_at (map g es) (map_rest g rest) k ≡ option_map g (asked_at es rest k)
asked_named g es rest k = ap (λ o. or_behind o (map_rest g rest)) (slice_get-map g es k) ∙ by (slice_get es k) rest
  where
    by : (o : Option ℕ) (rest : Rest ℕ) → or_behind (option_map g o) (map_rest g rest) ≡ option_map g (or_behind o rest)
    by (Some e) rest = refl
    by None nothing = refl
    by None anything = refl
    by None (each e) = refl

-- ---- some of some

pub some_of_some : (xs ys left : List InstanceCause) (r : Result (Vec InstanceCause Global) AllocError) → ys ≡ left → AreSomeOf xs left → IfOk r (λ v. AreSomeOf ys v.items) → IfOk r (λ v. AreSomeOf xs v.items)
some_of_some xs ys left (Err e) same some h = tt
some_of_some xs ys left (Ok v) same some h = λ c k. some c (subst (λ zs. Contains zs c) same (h c k))
