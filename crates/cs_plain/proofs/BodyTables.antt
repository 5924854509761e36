-- What tables tell of bodies.
use Rattle.std.proofs.Common.{◌≡◌, ℕ, Bool, true, false, cond, List, [], ◌∷◌, ◌++◌, Option, Some, None, map, refl, sym, ap, ap₂, ◌∙◌, Global, Vec}
use Rattle.std.specs.Borrow.{Bor}
use Rattle.std.specs.BTreeMap as tree
use Rattle.std.specs.BTreeMap.{BTreeMap}
use Rattle.std.specs.Cmp.Lexicographic.{slice_cmp}
use Rattle.std.specs.Map.{update}
use Rattle.std.specs.Ordering.{nat_cmp}
use Rattle.std.specs.Str.{bytes_eq}
use Rattle.std.proofs.lemmas.List.{append-nil, map-append}
use Rattle.std.proofs.lemmas.List.Elements.{filter-append}
use Rattle.std.proofs.lemmas.Slice.Eq.{bytes_eq-Decides}
use Rattle.cs_plain.specs.Bodies as U
use Rattle.cs_plain.specs.Bodies.{TellsBodies, body_view, entry_items, body_of, bodies_of}
use Rattle.cs_plain.specs.declared.bodies.Bodies.{Bodies}
use Rattle.cs_plain.specs.declared.bodies.Body as rust

abbrev Table : Type 0
Table = BTreeMap (Bor (List ℕ)) (Vec rust.Body Global)

abbrev pub at_name : List ℕ → Table → Option (Vec rust.Body Global)
at_name s m = tree.get_by (λ k. slice_cmp nat_cmp s k.now) m

abbrev pub vec_items : Option (Vec rust.Body Global) → List rust.Body
vec_items None = []
vec_items (Some v) = v.items

same_items : (o : Option (Vec rust.Body Global)) → map body_view (vec_items o) ≡ entry_items o
same_items None = refl
same_items (Some v) = refl

pub no_bodies : (b : Bodies) → b.by_name.entries ≡ [] → b.none.items ≡ [] → TellsBodies b []
no_bodies b empty none = record { table = λ s. ap entry_items (empty_at s); none = none }
  where
    empty_at : (s : List ℕ) → at_name s b.by_name ≡ None
    empty_at s = rw empty refl

abbrev only_if : Bool → U.Body → List U.Body
only_if b x = cond b (x ∷ []) []

bodies_push : (t : List ℕ) (bs : List U.Body) (x : U.Body) → bodies_of t (bs ++ x ∷ []) ≡ bodies_of t bs ++ only_if (bytes_eq x.name t) x
bodies_push t bs x = filter-append (λ (b : U.Body). bytes_eq b.name t) bs (x ∷ [])

-- a body is put behind others
module _ (m r n : Table) (bs : List U.Body) (x : U.Body) (b : rust.Body) (w v : Vec rust.Body Global) (name : List ℕ) (told : (s : List ℕ) → entry_items (at_name s m) ≡ bodies_of s bs) (is : body_view b ≡ x) (same : name ≡ x.name) where
  pub bodies_added : w.items ≡ vec_items (at_name name m) → v.items ≡ w.items ++ b ∷ []
      → ((t : List ℕ) → at_name t r ≡ update bytes_eq (λ s. at_name s m) name None t)
      → ((t : List ℕ) → at_name t n ≡ update bytes_eq (λ s. at_name s r) name (Some v) t)
      → (t : List ℕ) → entry_items (at_name t n) ≡ bodies_of t (bs ++ x ∷ [])
  bodies_added taken grown without after t =
      ap entry_items (after t) ∙ by (bytes_eq name t) refl ∙ ap (λ s. bodies_of t bs ++ only_if (bytes_eq s t) x) same ∙ sym (bodies_push t bs x)
    where
      whole : map body_view v.items ≡ bodies_of name bs ++ x ∷ []
      whole =
          ap (map body_view) grown ∙ map-append body_view w.items (b ∷ [])
          ∙ ap₂ (λ es e. es ++ e ∷ []) (ap (map body_view) taken ∙ same_items (at_name name m) ∙ told name) is

      by : (c : Bool) → bytes_eq name t ≡ c → entry_items (cond c (Some v) (at_name t r)) ≡ bodies_of t bs ++ only_if c x
      by true h = whole ∙ ap (λ s. bodies_of s bs ++ x ∷ []) ((bytes_eq-Decides name t).0 h)
      by false h = ap entry_items (without t ∙ ap (λ c. cond c None (at_name t m)) h) ∙ told t ∙ sym (append-nil (bodies_of t bs))
