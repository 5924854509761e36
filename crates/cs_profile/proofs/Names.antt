-- Keywords by their names.
use Rattle.std.proofs.Common.{◌≡◌, ℕ, Bool, true, false, List, [], ◌∷◌, map, Option, Some, bytes_eq, refl, sym, ap, ◌∙◌, subst, if◌then◌else◌}
use Rattle.std.specs.List.{AllByRecursion as Each}
use Rattle.std.proofs.lemmas.Slice.Eq.{bytes_eq-Decides}
use Rattle.cs_document.specs.Document.{under}
use Rattle.cs_profile.specs.Keywords.{name_of, all_keywords, keywords}
use Rattle.cs_profile.specs.declared.keyword.Keyword.{Keyword}
use Rattle.cs_profile.specs.declared.keyword.Keyword.TheVariants as keyword

-- some keywords by their names
abbrev pub by_name : List ℕ → List Keyword → Option Keyword
by_name k ws = under k (map (λ w. (name_of w, w)) ws)

at_first : (k : List ℕ) (x w : Keyword) (rest : Option Keyword) → (rest ≡ Some w → name_of w ≡ k) → (t : Bool) → bytes_eq k (name_of x) ≡ t → (if t then Some x else rest) ≡ Some w → name_of w ≡ k
at_first k x w rest more true s f =
    let same : x ≡ w = cc in
    ap name_of (sym same) ∙ sym ((bytes_eq-Decides k (name_of x)).0 s)
at_first k x w rest more false s f = more f

named_among : (k : List ℕ) (ws : List Keyword) (w : Keyword) → by_name k ws ≡ Some w → name_of w ≡ k
named_among k [] w e = cc
named_among k (x ∷ ws) w e = at_first k x w (by_name k ws) (named_among k ws w) (bytes_eq k (name_of x)) refl e

-- what a name names has the name
pub name_of-named : (k : List ℕ) (w : Keyword) → under k keywords ≡ Some w → name_of w ≡ k
name_of-named k w e = named_among k all_keywords w e

-- ---- what holds of each keyword

-- of each of some keywords, so of one that its name finds among them
pub each_named : (P : Keyword → Type 0) (ws : List Keyword) (w : Keyword) → by_name (name_of w) ws ≡ Some w → Each P ws → P w
each_named P [] w e h = cc
each_named P (x ∷ ws) w e h = at_test (bytes_eq (name_of w) (name_of x)) e (λ f. each_named P ws w f h.1)
  where
    at_test : (t : Bool) → (if t then Some x else by_name (name_of w) ws) ≡ Some w → (by_name (name_of w) ws ≡ Some w → P w) → P w
    at_test true f rest =
        let same : x ≡ w = cc in subst P same h.0
    at_test false f rest = rest f

pub known : (w : Keyword) → under (name_of w) keywords ≡ Some w
known keyword.Comment = refl
known _ = refl

pub every_keyword : (P : Keyword → Type 0) → Each P all_keywords → (w : Keyword) → P w
every_keyword P h w = each_named P all_keywords w (known w) h
