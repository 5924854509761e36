-- The numbers that were read from definitions' bodies, and the rows of a package's graph.
use Rattle.std.specs.Prelude.{IsTrue}
use Rattle.std.proofs.Common.{◌≡◌, ℕ, zero, suc, ◌<◌, List, [], ◌∷◌, ◌++◌, ◌⊎◌, inl, inr, map, length, Option, Some, IfSome, slice_get, get_or, Vec, Global, refl, sym, ap, ◌∙◌, subst}
use Rattle.std.specs.List.{flat_map, list_all, All}
use Rattle.std.specs.Option.{unwrap_or}
use Rattle.std.proofs.lemmas.List.{map-append}
use Rattle.std.proofs.lemmas.List.Elements.{All-nil}
use Rattle.std.proofs.lemmas.Option.{same_Some}
use Rattle.cs_package.specs.Expression.{Expression}
use Rattle.cs_package.specs.Environment.{Environment, declared_names, bodies, bodies_at, name_at}
use Rattle.cs_package.specs.View.{expression_of, is_known}
use Rattle.cs_package.specs.declared.shape.Shape.{Shape}
use Rattle.cs_guard.specs.Taken.{taken, taken_of}
use Rattle.cs_guard.specs.declared.references.Followed.{Followed}
use Rattle.cs_graph.specs.Chains.{On}
use Rattle.cs_graph.specs.Graph.{Graph, graph_of}
use Rattle.cs_guard.specs.Numbered.{name_of}
use Rattle.cs_guard.specs.Pushed.{named}
use Rattle.cs_guard.proofs.Takes.{all_is}
use Rattle.cs_guard.proofs.Pushes.{PushedAll}
use Rattle.cs_guard.proofs.Numbers.{name_within, on_contains}

-- the numbers stand for what a walk takes from the definition, and each is one of the environment
pub record IsRow (f : Followed) (E : Environment) (i : ℕ) (row : List ℕ) : Type 0 where
  pub names : map (name_of E) row ≡ taken_of f E (name_of E i)
  pub within : (m : ℕ) → On m row → m < length E

name_is : (E : Environment) (i : ℕ) → name_of E i ≡ get_or (declared_names E) i []
name_is [] i = refl
name_is (d ∷ E) zero = refl
name_is (d ∷ E) (suc i) = name_is E i

names_are : (E : Environment) (row : List ℕ) → map (name_of E) row ≡ named (declared_names E) row
names_are E [] = refl
names_are E (i ∷ row) = λ k. name_is E i k ∷ names_are E row k

on_all : (P : ℕ → Type 0) (m : ℕ) (xs : List ℕ) → On m xs → All P xs → P m
on_all P m xs o h = let c = on_contains m xs o in subst P c.2 (h c.0 m c.1)

-- what was read from a definition's bodies is its row
pub row_of : (f : Followed) (E : Environment) (i : ℕ) (row : List ℕ) (ss : List Shape) → i < length E → bodies_at E i ≡ Some (map (expression_of (declared_names E)) ss) → IfSome (name_at E i) (λ n. bodies E n ≡ bodies_at E i) → IsTrue (list_all (is_known (length E)) ss) → PushedAll f [] row ss → IsRow f E i row
row_of f E i row ss l at same known p =
    let here : bodies E (name_of E i) ≡ bodies_at E i = subst (λ o. IfSome o (λ n. bodies E n ≡ bodies_at E i)) (name_within E i l) same in
    let es = map (expression_of (declared_names E)) ss in record {
      names = names_are E row ∙ p.behind (declared_names E) ∙ all_is f es ∙ sym (ap (λ (o : Option (List Expression)). flat_map (taken f) (unwrap_or o [])) (here ∙ at));
      within = λ m o. on_all (λ k. k < length E) m row o (p.within (length E) known (All-nil (λ k. k < length E)));
    }

last_or : (G : Graph) (r : List ℕ) (i : ℕ) (row : List ℕ) → slice_get (G ++ r ∷ []) i ≡ Some row → (slice_get G i ≡ Some row) ⊎ ((i ≡ length G) × (r ≡ row))
last_or [] r zero row e = inr (refl, same_Some r row e)
last_or [] r (suc i) row e = cc
last_or (s ∷ G) r zero row e = inl e
last_or (s ∷ G) r (suc i) row e = elim (last_or G r i row e) [
  | inl f ↦ inl f
  | inr f ↦ inr (ap suc f.0, f.1)
]

-- one more row
pub rows_more : (P : ℕ → List ℕ → Type 0) (vs new : List (Vec ℕ Global)) (v : Vec ℕ Global) (number : ℕ) → length (graph_of vs) ≡ number → new ≡ vs ++ v ∷ [] → ((i : ℕ) (row : List ℕ) → slice_get (graph_of vs) i ≡ Some row → P i row) → P number v.items → (i : ℕ) (row : List ℕ) → slice_get (graph_of new) i ≡ Some row → P i row
rows_more P vs new v number long grown before last i row found =
    let there : slice_get (graph_of vs ++ v.items ∷ []) i ≡ Some row = ap (λ G. slice_get G i) (sym (map-append (λ (w : Vec ℕ Global). w.items) vs (v ∷ [])) ∙ ap graph_of (sym grown)) ∙ found in
    elim (last_or (graph_of vs) v.items i row there) [
      | inl f ↦ before i row f
      | inr f ↦ subst (λ xs. P i xs) f.1 (subst (λ k. P k v.items) (sym (f.0 ∙ long)) last)
    ]
