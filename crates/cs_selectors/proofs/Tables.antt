-- What tables tell of definitions that are made.
use Rattle.std.proofs.Common.{◌≡◌, Ordering, Less, Equal, Greater, ℕ, Bool, true, false, ◌||◌, ◌&&◌, cond, List, [], ◌∷◌, ◌++◌, Option, Some, None, is_some, map, refl, sym, ap, subst, ◌∙◌, string_bytes, String, Global, Vec}
use Rattle.std.specs.Borrow.{Bor}
use Rattle.std.specs.BTreeMap as tree
use Rattle.std.specs.BTreeMap.{BTreeMap}
use Rattle.std.specs.Cmp.Lexicographic.{slice_cmp, pointwise_decides}
use Rattle.std.specs.Map.{lookup, IsKeyTest, AreApart as Separate, KeepsOthers}
use Rattle.std.specs.Option.{option_map, unwrap_or}
use Rattle.std.specs.Ordering.{is_eq, nat_cmp, ordering_then, eq_by_cmp}
use Rattle.std.specs.Str.{bytes_eq}
use Rattle.std.proofs.lemmas.List.Folds.{list_any-append}
use Rattle.std.proofs.lemmas.Map.Text.{is_eq-slice_cmp}
use Rattle.std.proofs.lemmas.Slice.Eq.{bytes_eq-Decides}
use Rattle.cs_grammar.specs.Tree.{DefinitionTree}
use Rattle.cs_names.specs.Lifted.{is_defined}
use Rattle.cs_names.specs.Taken.{TellsTaken}
use Rattle.cs_names.proofs.Free.{told_same}
use Rattle.cs_plain.specs.Bodies.{Body, TellsBodies}
use Rattle.cs_plain.proofs.Texts.{or_nothing, or_true}
use Rattle.cs_selectors.specs.Checks.{TellsGifts, TellsNames, given_view, name_at, path_cmp, texts_at, lack_on}
use Rattle.cs_selectors.specs.Given as G
use Rattle.cs_selectors.specs.Given.{Path, AreApart, is_path, is_given, is_taken, known}
use Rattle.cs_selectors.specs.Reached.{texts}
use Rattle.cs_selectors.specs.Selectors.{names_by}
use Rattle.cs_selectors.specs.declared.given.Giving.{Giving}

-- ---- paths

pub same_path : (p q : Path) → is_path p q ≡ true → p ≡ q
same_path p q h = (pointwise_decides bytes_eq-Decides p q).0 h

pub path_of_itself : (p q : Path) → p ≡ q → is_path p q ≡ true
path_of_itself p q e = (pointwise_decides bytes_eq-Decides p q).1 e

pub path_eq : (p : Path) (q : List (Bor (List ℕ))) → is_eq (path_cmp p q) ≡ is_path p (texts_at q)
path_eq [] [] = refl
path_eq [] (t ∷ q) = refl
path_eq (s ∷ p) [] = refl
path_eq (s ∷ p) (t ∷ q) = by (path_eq p q) (slice_cmp nat_cmp s t.now) refl
  where
    by : is_eq (path_cmp p q) ≡ is_path p (texts_at q) → (o : Ordering) → slice_cmp nat_cmp s t.now ≡ o → is_eq (ordering_then o (path_cmp p q)) ≡ (bytes_eq s t.now && is_path p (texts_at q))
    by ih Less e = ap (λ b. b && is_path p (texts_at q)) (sym (ap is_eq e) ∙ is_eq-slice_cmp s t.now)
    by ih Equal e = ih ∙ ap (λ b. b && is_path p (texts_at q)) (sym (ap is_eq e) ∙ is_eq-slice_cmp s t.now)
    by ih Greater e = ap (λ b. b && is_path p (texts_at q)) (sym (ap is_eq e) ∙ is_eq-slice_cmp s t.now)

-- as the code compares paths
abbrev text_cmp : Bor (List ℕ) → Bor (List ℕ) → Ordering
text_cmp s t = slice_cmp nat_cmp s.now t.now

pub as_texts : (p q : List (Bor (List ℕ))) → slice_cmp text_cmp p q ≡ path_cmp (texts_at p) q
as_texts [] [] = refl
as_texts [] (t ∷ q) = refl
as_texts (s ∷ p) [] = refl
as_texts (s ∷ p) (t ∷ q) = ap (ordering_then (slice_cmp nat_cmp s.now t.now)) (as_texts p q)

abbrev pub Key : Type 0
Key = Vec (Bor (List ℕ)) Global

abbrev pub Known : Type 0
Known = BTreeMap Key (String Global)

abbrev key_cmp : Key → Key → Ordering
key_cmp x y = slice_cmp text_cmp x.items y.items

abbrev pub at_path : Path → Known → Option (String Global)
at_path p m = tree.get_by (λ k. path_cmp p k.items) m

pub looked_up : (p : List (Bor (List ℕ))) (m : Known) → tree.get_by (λ (k : Key). slice_cmp text_cmp p k.items) m ≡ at_path (texts_at p) m
looked_up p m = ap (λ c. tree.get_by c m) (λ i k. as_texts p k.items i)

module _ {K X : Type 0} (eq : K → K → Bool) (test : K → Bool) where
  other_entries : (old new : List (K × X)) → KeepsOthers eq test old new → (other : K → Bool) → IsKeyTest eq other → Separate test other → lookup other new ≡ lookup other old
  unfolding KeepsOthers
  other_entries old new h = h

key_eq : (x y : Key) → is_eq (key_cmp x y) ≡ is_path (texts_at x.items) (texts_at y.items)
key_eq x y = ap is_eq (as_texts x.items y.items) ∙ path_eq (texts_at x.items) y.items

either : (b : Bool) → {P : Type 0} → (b ≡ true → P) → (b ≡ false → P) → P
either true f g = f refl
either false f g = g refl

not_both : (b : Bool) → (b ≡ true → ⊥) → b ≡ false
not_both true f = absurd (f refl)
not_both false f = refl

-- a name is put at a path: it is there, and at no other path anything changes
pub path_put : (m n : Known) (k : Key) (v : String Global) → tree.Updates key_cmp m n k (Some v) → (p : Path) → at_path p n ≡ cond (is_path (texts_at k.items) p) (Some v) (at_path p m)
path_put m n k v put p = either (is_path (texts_at k.items) p) here there
  where
    here : is_path (texts_at k.items) p ≡ true → at_path p n ≡ cond (is_path (texts_at k.items) p) (Some v) (at_path p m)
    here h = ap (λ q. at_path q n) (sym (same_path (texts_at k.items) p h)) ∙ sym (looked_up k.items n) ∙ put.1 ∙ ap (λ b. cond b (Some v) (at_path p m)) (sym h)

    test : IsKeyTest (eq_by_cmp key_cmp) (λ (q : Key). is_eq (path_cmp p q.items))
    test x y e = path_eq p y.items ∙ ap (λ q. is_path q (texts_at y.items)) (same_path p (texts_at x.items) (sym (path_eq p x.items) ∙ e)) ∙ sym (key_eq x y)

    there : is_path (texts_at k.items) p ≡ false → at_path p n ≡ cond (is_path (texts_at k.items) p) (Some v) (at_path p m)
    there h = other_entries (eq_by_cmp key_cmp) (λ q. is_eq (key_cmp k q)) m.entries n.entries put.3 (λ q. is_eq (path_cmp p q.items)) test apart ∙ ap (λ b. cond b (Some v) (at_path p m)) (sym h)
      where
        apart : Separate (λ (q : Key). is_eq (key_cmp k q)) (λ (q : Key). is_eq (path_cmp p q.items))
        apart q e = not_both (is_eq (path_cmp p q.items)) (λ f.
            let first = same_path (texts_at k.items) (texts_at q.items) (sym (key_eq k q) ∙ e) in
            let second = same_path p (texts_at q.items) (sym (path_eq p q.items) ∙ f) in
            let yes = path_of_itself (texts_at k.items) p (first ∙ sym second) in cc)

-- ---- definitions that are made

abbrev none_at : Bool → List ℕ → Option (List ℕ)
none_at b s = cond b (Some s) None

abbrev first_of : Option (List ℕ) → Option (List ℕ) → Option (List ℕ)
first_of None o = o
first_of (Some s) o = Some s

known_push : (gs : List G.Given) (g : G.Given) (p : Path) → known (gs ++ g ∷ []) p ≡ first_of (known gs p) (none_at (is_path g.path p) g.name)
known_push [] g p = refl
known_push (u ∷ gs) g p = by (known_push gs g p) (is_path u.path p)
  where
    by : known (gs ++ g ∷ []) p ≡ first_of (known gs p) (none_at (is_path g.path p) g.name) → (b : Bool) → cond b (Some u.name) (known (gs ++ g ∷ []) p) ≡ first_of (cond b (Some u.name) (known gs p)) (none_at (is_path g.path p) g.name)
    by ih true = refl
    by ih false = ih

given_push : (gs : List G.Given) (g : G.Given) (s : List ℕ) → is_given (gs ++ g ∷ []) s ≡ (is_given gs s || bytes_eq g.name s)
given_push gs g s = list_any-append (λ x. bytes_eq x.name s) gs (g ∷ []) ∙ ap (λ b. is_given gs s || b) (or_nothing (bytes_eq g.name s))

known_given : (gs : List G.Given) (p : Path) (s : List ℕ) → known gs p ≡ Some s → is_given gs s ≡ true
known_given [] p s h = cc
known_given (g ∷ gs) p s h = by (λ k. known_given gs p s k) (is_path g.path p) h
  where
    by : (known gs p ≡ Some s → is_given gs s ≡ true) → (b : Bool) → cond b (Some g.name) (known gs p) ≡ Some s → (bytes_eq g.name s || is_given gs s) ≡ true
    by ih true e = let is : g.name ≡ s = cc in ap (λ b. b || is_given gs s) ((bytes_eq-Decides g.name s).1 is)
    by ih false e = ap (λ b. bytes_eq g.name s || b) (ih e) ∙ or_true (bytes_eq g.name s)

-- what is known with one more was known before, or is that one
data KnownBy (gs : List G.Given) (g : G.Given) (p : Path) (s : List ℕ) : Type 0 where
  before : known gs p ≡ Some s → KnownBy gs g p s
  there : g.path ≡ p → g.name ≡ s → KnownBy gs g p s

known_by : (gs : List G.Given) (g : G.Given) (p : Path) (s : List ℕ) → known (gs ++ g ∷ []) p ≡ Some s → KnownBy gs g p s
known_by gs g p s h = by (known gs p) refl (sym (known_push gs g p) ∙ h)
  where
    here : (b : Bool) → is_path g.path p ≡ b → none_at b g.name ≡ Some s → KnownBy gs g p s
    here true e k = there (same_path g.path p e) cc
    here false e k = cc

    by : (o : Option (List ℕ)) → known gs p ≡ o → first_of o (none_at (is_path g.path p) g.name) ≡ Some s → KnownBy gs g p s
    by (Some u) e k = before (e ∙ k)
    by None e k = here (is_path g.path p) refl k

right_false : (a b : Bool) → (a || b) ≡ false → b ≡ false
right_false true b h = cc
right_false false b h = h

left_false : (a b : Bool) → (a || b) ≡ false → a ≡ false
left_false true b h = h
left_false false b h = refl

pub apart_push : (all : List DefinitionTree) (gs : List G.Given) (g : G.Given) → AreApart all gs → is_taken all gs g.name ≡ false → AreApart all (gs ++ g ∷ [])
apart_push all gs g apart new = record {
  paths = λ p q s h k. both p q s (known_by gs g p s h) (known_by gs g q s k);
  undefined = λ p s h. free p s (known_by gs g p s h);
}
  where
    never : (p : Path) (s : List ℕ) → known gs p ≡ Some s → g.name ≡ s → ⊥
    never p s h is = let no = right_false (is_defined all g.name) (is_given gs g.name) new in let yes : is_given gs g.name ≡ true = rw is (known_given gs p s h) in cc

    both : (p q : Path) (s : List ℕ) → KnownBy gs g p s → KnownBy gs g q s → p ≡ q
    both p q s (before h) (before k) = apart.paths p q s h k
    both p q s (before h) (there e is) = absurd (never p s h is)
    both p q s (there e is) (before k) = absurd (never q s k is)
    both p q s (there e is) (there f to) = sym e ∙ f

    free : (p : Path) (s : List ℕ) → KnownBy gs g p s → is_defined all s ≡ false
    free p s (before h) = apart.undefined p s h
    free p s (there e is) = rw (← is) (left_false (is_defined all g.name) (is_given gs g.name) new)

pub nothing_apart : (all : List DefinitionTree) → AreApart all []
nothing_apart all = record { paths = λ p q s h k. cc; undefined = λ p s h. cc }

-- one more is made
pub gifts_added : (m n : Giving) (all : List DefinitionTree) (bs : List Body) (gs : List G.Given) (g : G.Given) → TellsGifts m all bs gs → known gs g.path ≡ None → is_taken all gs g.name ≡ false → lack_on bs g.path ≡ None
    → n.bodies ≡ m.bodies
    → TellsTaken n.names all (λ s. is_given gs s || bytes_eq g.name s)
    → ((p : Path) → name_at n p ≡ cond (is_path g.path p) (Some g.name) (name_at m p))
    → map given_view n.order.items ≡ map given_view m.order.items ++ g ∷ []
    → TellsGifts n all bs (gs ++ g ∷ [])
gifts_added m n all bs gs g told new free reached held named placed grown = record {
  bodies = subst (λ b. TellsBodies b.now bs) (sym held) told.bodies;
  names = told_same n.names all (λ s. is_given gs s || bytes_eq g.name s) (is_given (gs ++ g ∷ [])) (λ s. sym (given_push gs g s)) named;
  known = λ p. placed p ∙ by_path p (is_path g.path p) refl ∙ sym (known_push gs g p);
  order = grown ∙ ap (λ us. us ++ g ∷ []) told.order;
  apart = apart_push all gs g told.apart free;
  well = λ p s h. well_by p s (known_by gs g p s h);
}
  where
    held_so : (o : Option (List ℕ)) → o ≡ first_of o None
    held_so None = refl
    held_so (Some s) = refl

    by_path : (p : Path) (b : Bool) → is_path g.path p ≡ b → cond b (Some g.name) (name_at m p) ≡ first_of (known gs p) (none_at b g.name)
    by_path p true e = let none : known gs p ≡ None = rw (← same_path g.path p e) new in ap (λ o. first_of o (Some g.name)) (sym none)
    by_path p false e = told.known p ∙ held_so (known gs p)

    well_by : (p : Path) (s : List ℕ) → KnownBy gs g p s → lack_on bs p ≡ None
    well_by p s (before h) = told.well p s h
    well_by p s (there e is) = rw (← e) reached

-- another table of the names that are taken tells as much
pub named_again : (m n : Giving) (all : List DefinitionTree) (bs : List Body) (gs : List G.Given) → TellsGifts m all bs gs → TellsTaken n.names all (is_given gs)
    → n.bodies ≡ m.bodies → n.known ≡ m.known → n.order ≡ m.order → TellsGifts n all bs gs
named_again m n all bs gs told names bodies known order = record {
  bodies = subst (λ b. TellsBodies b.now bs) (sym bodies) told.bodies;
  names = names;
  known = λ p. ap (λ k. option_map string_bytes (at_path p k)) known ∙ told.known p;
  order = ap (λ v. map given_view v.items) order ∙ told.order;
  apart = told.apart;
  well = told.well;
}

pub name_put : (m n : Known) (k : Key) (v : String Global) → tree.Updates key_cmp m n k (Some v)
    → (p : Path) → option_map string_bytes (at_path p n) ≡ cond (is_path (texts_at k.items) p) (Some (string_bytes v)) (option_map string_bytes (at_path p m))
name_put m n k v put p = ap (option_map string_bytes) (path_put m n k v put p) ∙ by (is_path (texts_at k.items) p)
  where
    by : (b : Bool) → option_map string_bytes (cond b (Some v) (at_path p m)) ≡ cond b (Some (string_bytes v)) (option_map string_bytes (at_path p m))
    by true = refl
    by false = refl

same_there : {X Y : Type 0} (f : X → Y) (o : Option X) → is_some (option_map f o) ≡ is_some o
same_there f None = refl
same_there f (Some x) = refl

-- what the table has at a path
pub found_at : (m : Giving) (p : List (Bor (List ℕ))) → option_map string_bytes (tree.get_by (λ (k : Key). slice_cmp text_cmp p k.items) m.known) ≡ name_at m (texts_at p)
found_at m p = ap (option_map string_bytes) (looked_up p m.known)

-- a path is in the table just where it is known
pub known_there : (m : Giving) (all : List DefinitionTree) (bs : List Body) (gs : List G.Given) (p : List (Bor (List ℕ))) → TellsGifts m all bs gs
    → (b : Bool) → b ≡ is_some (tree.get_by (λ (k : Key). slice_cmp text_cmp p k.items) m.known) → is_some (known gs (texts_at p)) ≡ b
known_there m all bs gs p told b is =
    ap is_some (sym (told.known (texts_at p))) ∙ same_there string_bytes (at_path (texts_at p) m.known) ∙ ap is_some (sym (looked_up p m.known)) ∙ sym is

-- so the tables tell the names of selectors
pub names_told : (m : Giving) (all : List DefinitionTree) (bs : List Body) (gs : List G.Given) → TellsGifts m all bs gs → TellsNames m (names_by gs)
names_told m all bs gs told s ls = ap (λ o. unwrap_or o s) (told.known (s ∷ texts ls))
