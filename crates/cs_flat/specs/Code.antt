-- A code for lists of items, by which a proof tells two of them apart. It says nothing of JSON.
use Rattle.std.specs.Prelude.{◌≡◌, ℕ, ℤ, Bool, List, ◌⊎◌, refl}
use mathlib.Core.Logic.{inl, inr}
use Rattle.std.specs.Coded.{Coded, code_by, coded_ℕ, coded_ℤ, coded_bool, coded_list, coded×, coded⊎}
use Rattle.cs_document.specs.Document.{Entry}
use Rattle.cs_document.specs.Opened.{Opened, a_null, a_boolean, an_integer, a_text, a_list, an_object}

abbrev Parts : Type 0
Parts = (List ℕ ⊎ ℤ) ⊎ ((Bool ⊎ List ℕ) ⊎ (List (Entry ℕ) ⊎ Bool))

abbrev to : Opened ℕ → Parts
to (a_list ys) = inl (inl ys)
to (an_integer z) = inl (inr z)
to (a_boolean b) = inr (inl (inl b))
to (a_text s) = inr (inl (inr s))
to (an_object ms) = inr (inr (inl ms))
to a_null = inr (inr (inr Bool.true))

abbrev from : Parts → Opened ℕ
from (inl (inl ys)) = a_list ys
from (inl (inr z)) = an_integer z
from (inr (inl (inl b))) = a_boolean b
from (inr (inl (inr s))) = a_text s
from (inr (inr (inl ms))) = an_object ms
from (inr (inr (inr b))) = a_null

abbrev back : (x : Opened ℕ) → from (to x) ≡ x
back a_null = refl
back (a_boolean b) = refl
back (an_integer z) = refl
back (a_text s) = refl
back (a_list ys) = refl
back (an_object ms) = refl

abbrev coded_texts : Coded (List ℕ)
coded_texts = coded_list coded_ℕ

abbrev coded_item : Coded (Opened ℕ)
coded_item =
    code_by Parts (coded⊎ (coded⊎ coded_texts coded_ℤ) (coded⊎ (coded⊎ coded_bool coded_texts) (coded⊎ (coded_list (coded× coded_texts coded_ℕ)) coded_bool))) to from back

abbrev pub coded_items : Coded (List (Opened ℕ))
coded_items = coded_list coded_item
