-- What is written of comparisons and of texts, worked by the definitions. A wrong expectation stops the check here.
use Rattle.std.proofs.Common.{◌≡◌, ℕ, [], ◌∷◌, map, true, false, codes, refl}
use Rattle.std.specs.Prelude.{Vec}
use Rattle.std.specs.declared.alloc.Global.{Global}
use Rattle.cs_compare.specs.Written.{lines_of, object_of, comparison_text, both_text, lines_text, has_some}
use Rattle.cs_compare.specs.declared.comparison.Comparison.TheVariants.{Compatible, Breaking}
use Rattle.cs_compare.specs.declared.written.Told.{Told}

-- reasons are lines of their own, and there may be none
lines : (t : Vec ℕ Global) → t.items ≡ codes "true"
    → map (λ reasons. lines_of (Breaking t) reasons) ([] ∷ codes "why\n" ∷ []) ≡ codes "breaking\ntrue\n" ∷ codes "breaking\ntrue\nwhy\n" ∷ []
lines t is = rw is

an_object : (t : Vec ℕ Global) → t.items ≡ codes "null"
    → object_of (Breaking t) (codes "{\"valid\":false}") ≡ codes "{\"compatible\":false,\"document\":null,\"report\":{\"valid\":false}}"
an_object t is = rw is

-- lines have their newlines, and an object gets one
one_direction : (t : Told) → t.comparison ≡ Compatible
    → map (λ is_json. comparison_text is_json t) (true ∷ false ∷ []) ≡ codes "{\"compatible\":true}\n" ∷ codes "compatible\n" ∷ []
one_direction t is = rw is

both_directions : (t u : Told) → t.comparison ≡ Compatible → u.comparison ≡ Compatible
    → map (λ is_json. both_text is_json t u) (true ∷ false ∷ [])
    ≡ codes "{\"backward\":{\"compatible\":true},\"forward\":{\"compatible\":true}}\n" ∷ codes "backward: compatible\nforward: compatible\n" ∷ []
both_directions t u is other = rw (is, other)

texts : (t u : Vec ℕ Global) → t.items ≡ codes "null" → u.items ≡ []
    → map lines_text ([] ∷ (t ∷ u ∷ []) ∷ []) ≡ [] ∷ codes "null\n\n" ∷ []
texts t u is other = rw (is, other)

some : (t : Vec ℕ Global) → map has_some ([] ∷ (t ∷ []) ∷ []) ≡ false ∷ true ∷ []
some t = refl
