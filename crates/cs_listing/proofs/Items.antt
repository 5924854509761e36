-- A document opened once, with numbers in place of what is inside.
use Rattle.std.proofs.Common.{◌≡◌, ℕ, zero, suc, List, [], ◌∷◌, map, refl, sym, ap, ◌∙◌}
use Rattle.cs_document.specs.Document.{Document, null, boolean, integer, text, list, object, Entry, elements, entries}
use Rattle.cs_document.specs.Opened.{Opened, a_null, a_boolean, an_integer, a_text, a_list, an_object, opened}
use Rattle.cs_document.specs.Inside.{map_entry, map_opened}

-- numbers for these documents
pub record Numbers (ds : List Document) : Type 0 where
  pub numbers : List ℕ
  pub at : ℕ → Document
  pub are : map at numbers ≡ ds

-- the first has the number zero
abbrev behind : Document → (ℕ → Document) → ℕ → Document
behind d at zero = d
behind d at (suc n) = at n

moved : (d : Document) (at : ℕ → Document) (is : List ℕ) → map (behind d at) (map suc is) ≡ map at is
moved d at [] = refl
moved d at (i ∷ is) = ap (λ ds. at i ∷ ds) (moved d at is)

numbers_of : (ds : List Document) → Numbers ds
numbers_of [] = record { numbers = []; at = λ n. null; are = refl }
numbers_of (d ∷ ds) =
    let h = numbers_of ds in record {
      numbers = zero ∷ map suc h.numbers;
      at = behind d h.at;
      are = ap (λ es. d ∷ es) (moved d h.at h.numbers ∙ h.are);
    }

-- the same for the members of a map
pub record Values (ms : List (Entry Document)) : Type 0 where
  pub values : List (Entry ℕ)
  pub at : ℕ → Document
  pub are : map (map_entry at) values ≡ ms

abbrev one_more : Entry ℕ → Entry ℕ
one_more m = (m.0, suc m.1)

moved_values : (d : Document) (at : ℕ → Document) (ms : List (Entry ℕ)) → map (map_entry (behind d at)) (map one_more ms) ≡ map (map_entry at) ms
moved_values d at [] = refl
moved_values d at (m ∷ ms) = ap (λ es. map_entry at m ∷ es) (moved_values d at ms)

values_of : (ms : List (Entry Document)) → Values ms
values_of [] = record { values = []; at = λ n. null; are = refl }
values_of (m ∷ ms) =
    let h = values_of ms in record {
      values = (m.0, zero) ∷ map one_more h.values;
      at = behind m.1 h.at;
      are = ap (λ es. m ∷ es) (moved_values m.1 h.at h.values ∙ h.are);
    }

-- each document is one that such an item stands for
pub record Item (d : Document) : Type 0 where
  pub item : Opened ℕ
  pub at : ℕ → Document
  pub is : opened d ≡ map_opened at item

pub item_of : (d : Document) → Item d
item_of null = record { item = a_null; at = λ n. null; is = refl }
item_of (boolean b) = record { item = a_boolean b; at = λ n. null; is = refl }
item_of (integer z) = record { item = an_integer z; at = λ n. null; is = refl }
item_of (text s) = record { item = a_text s; at = λ n. null; is = refl }
item_of (list ds) = let h = numbers_of (elements ds) in record { item = a_list h.numbers; at = h.at; is = ap a_list (sym h.are) }
item_of (object ms) = let h = values_of (entries ms) in record { item = an_object h.values; at = h.at; is = ap an_object (sym h.are) }
