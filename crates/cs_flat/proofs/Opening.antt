-- The value of an item, closed again; numbers below a place are below a higher one.
use Rattle.std.proofs.Common.{◌≡◌, ℕ, ◌<◌, ◌≤◌, List, Some, sym, ap, ◌∙◌, lt_of_lt_of_le}
use Rattle.std.specs.Prelude.{slice_get}
use Rattle.cs_document.specs.Document.{Entry}
use Rattle.cs_document.specs.Opened.{Opened, a_null, a_boolean, an_integer, a_text, a_list, an_object}
use Rattle.cs_document.specs.Inside.{map_opened, InsideBelow}
use Rattle.cs_document.proofs.Each.{each_map}
use Rattle.cs_flat.specs.Nodes.{node_at}
use Rattle.cs_flat.specs.Listed.{closed, values, AreBuilt}
use Rattle.cs_flat.proofs.Listed.{closed-opened, are_values}

pub inside_weaker : (i n : ℕ) → i ≤ n → (x : Opened ℕ) → InsideBelow i x → InsideBelow n x
inside_weaker i n l a_null h = tt
inside_weaker i n l (a_boolean b) h = tt
inside_weaker i n l (an_integer z) h = tt
inside_weaker i n l (a_text s) h = tt
inside_weaker i n l (a_list ys) h = each_map (λ y. y < i) (λ y. y < n) (λ y k. lt_of_lt_of_le k l) ys h
inside_weaker i n l (an_object ms) h = each_map (λ (m : Entry ℕ). m.1 < i) (λ (m : Entry ℕ). m.1 < n) (λ m k. lt_of_lt_of_le k l) ms h

pub closed_at : (xs : List (Opened ℕ)) → AreBuilt xs → (i : ℕ) (x : Opened ℕ) → slice_get xs i ≡ Some x → node_at (values xs) i ≡ closed (map_opened (node_at (values xs)) x)
closed_at xs built i x e = sym (closed-opened (node_at (values xs) i)) ∙ ap closed ((are_values xs built).node i x e)
