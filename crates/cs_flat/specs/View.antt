-- What an item of the code is.
use Rattle.std.specs.Prelude.{ℕ, List, map}
use Rattle.std.specs.Borrow.{Bor}
use Rattle.cs_document.specs.Document.{Entry}
use Rattle.cs_document.specs.Opened.{Opened, a_null, a_boolean, an_integer, a_text, a_list, an_object}
use Rattle.cs_flat.specs.declared.flat.Item.{Item}
use Rattle.cs_flat.specs.declared.flat.Item.TheVariants.{Null, Bool, Int, Text, List as TheList, Object}

abbrev pub text_of : Bor (List ℕ) → List ℕ
text_of t = t.now

abbrev pub entry_of : Bor (List ℕ) × ℕ → Entry ℕ
entry_of m = (m.0.now, m.1)

abbrev pub item_view : Item → Opened ℕ
item_view Null = a_null
item_view (Bool b) = a_boolean b
item_view (Int n) = an_integer n
item_view (Text s) = a_text s.now
item_view (TheList v) = a_list v.now
item_view (Object v) = an_object (map entry_of v.now)
