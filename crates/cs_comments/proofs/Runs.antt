-- Runs of lines that are alone, and the comments at a line.
use Rattle.std.proofs.Common.{◌≡◌, ◌≢◌, ◌⊎◌, Option, Some, None, ℕ, ◌-◌, ◌<◌, ◌≤◌, List, [], ◌∷◌, ◌++◌, length, map, reverse, take, get_or, min, zero, suc, refl, ap, sym, ◌∙◌, ⊎_elim, arith}
use Rattle.std.proofs.lemmas.List.{reverse-append, map-append, take_min}
use Rattle.std.proofs.lemmas.List.Folds.{flat_map-map}
use Rattle.std.proofs.lemmas.Option.{slice_get_past, slice_get_read}
use Rattle.std.proofs.Math.Seq.{take-suc}
use Rattle.std.specs.Borrow.{Bor}
use Rattle.std.specs.Prelude.{slice_get}
use Rattle.std.specs.Option.{option_copied}
use Rattle.std.specs.Slice.{IsItemAt}
use Rattle.std.specs.List.{join_by}
use Rattle.cs_comments.specs.declared.texts.Line.{Line}
use Rattle.cs_comments.specs.declared.texts.Line.TheVariants.{Behind, Plain}
use Rattle.cs_comments.specs.Comments.{above, or_else}
use Rattle.cs_comments.specs.Views.{texts_of}

pub map-reverse : {X Y : Type 0} (f : X → Y) (xs : List X) → map f (reverse xs) ≡ reverse (map f xs)
map-reverse f [] = refl
map-reverse f (x ∷ xs) = ap (map f) (reverse-append (x ∷ []) xs) ∙ map-append f (reverse xs) (x ∷ []) ∙ ap (λ l. l ++ f x ∷ []) (map-reverse f xs) ∙ sym (reverse-append (f x ∷ []) (map f xs))

-- texts are joined as what they point to is
pub joined : (sep : List ℕ) (ts : List (Bor (List ℕ))) → join_by (λ t. t.now) sep ts ≡ join_by (λ c. c) sep (texts_of ts)
joined sep [] = refl
joined sep (t ∷ ts) = ap (λ l. t.now ++ l) (sym (flat_map-map (λ c. sep ++ c) (λ t. t.now) ts))

-- ---- runs

-- above the first line there is none
pub ended : (ls : List Line) (p : ℕ) → p ≤ 0 → above (reverse (take p ls)) ≡ []
ended ls zero h = refl
ended ls (suc p) h = absurd (omega arith)

not_alone : (x : Line) (ls : List Line) → ((b : Bor (List ℕ)) × (x ≡ Behind b)) ⊎ (x ≡ Plain) → above (x ∷ ls) ≡ []
not_alone x ls h = ⊎_elim (λ (w : (b : Bor (List ℕ)) × (x ≡ Behind b)). ap (λ y. above (y ∷ ls)) w.1) (λ (e : x ≡ Plain). ap (λ y. above (y ∷ ls)) e) h

-- nor behind one that isn't alone
pub stopped : (ls : List Line) (p : ℕ) (d : Line) → 0 < p → p ≤ length ls → ((b : Bor (List ℕ)) × (get_or ls (p - 1) d ≡ Behind b)) ⊎ (get_or ls (p - 1) d ≡ Plain) → above (reverse (take p ls)) ≡ []
stopped ls zero d h k w = absurd (omega arith)
stopped ls (suc p) d h k w =
    let e : suc p - 1 ≡ p = omega arith in
    let w' = rw e at w in
    ap (λ l. above (reverse l)) (take-suc ls p d (omega arith)) ∙ ap above (reverse-append (take p ls) (get_or ls p d ∷ [])) ∙ not_alone (get_or ls p d) (reverse (take p ls)) w'

-- ---- the comments at a line

-- a number past the end is as the end
pub up_to : (ts : List (Bor (List ℕ))) (ls : List Line) (i n : ℕ) → n ≡ min i (length ls) → texts_of ts ≡ above (reverse (take n ls)) → texts_of ts ≡ above (reverse (take i ls))
up_to ts ls i n e h = h ∙ ap (λ l. above (reverse l)) (ap (λ k. take k ls) e ∙ take_min i ls)

-- what `get` gives is the line
pub looked : (ls : List Line) (i : ℕ) (r : Option (Bor Line)) → IsItemAt ls i r → option_copied r ≡ slice_get ls i
looked ls i None h = sym (slice_get_past ls i h.3)
looked ls i (Some x) h = sym (slice_get_read ls (length ls) i x.now refl h.3.0 h.1)

-- where there is none above it they are those on it
pub one_on : (ts : List (Bor (List ℕ))) (t : Bor (List ℕ)) (cs ds : List (List ℕ)) → texts_of ts ≡ cs → length ts ≡ 0 → t.now ∷ [] ≡ ds → texts_of (ts ++ t ∷ []) ≡ or_else cs ds
one_on [] t cs ds e z h = h ∙ ap (λ l. or_else l ds) e
one_on (x ∷ ts) t cs ds e z h = absurd (omega arith)

pub none_on : (ts : List (Bor (List ℕ))) (cs ds : List (List ℕ)) → texts_of ts ≡ cs → length ts ≡ 0 → [] ≡ ds → texts_of ts ≡ or_else cs ds
none_on [] cs ds e z h = h ∙ ap (λ l. or_else l ds) e
none_on (x ∷ ts) cs ds e z h = absurd (omega arith)

-- and else those above
pub some_above : (ts : List (Bor (List ℕ))) (cs ds : List (List ℕ)) → texts_of ts ≡ cs → length ts ≢ 0 → texts_of ts ≡ or_else cs ds
some_above [] cs ds e h = absurd (h refl)
some_above (t ∷ ts) cs ds e h = ap (λ l. or_else l ds) e
