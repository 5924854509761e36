-- What tables tell of scopes and of what is lifted.
use Rattle.std.proofs.Common.{◌≡◌, Ordering, Less, Equal, Greater, ℕ, zero, suc, ◌+◌, ◌<◌, ◌≤◌, Bool, true, false, ◌||◌, ◌&&◌, not, nat_lt, cond, List, [], ◌∷◌, ◌++◌, Option, Some, None, is_some, map, drop, length, get_or, refl, sym, ap, ap₂, subst, ◌∙◌, arith, add-one, append_assoc, Result, Ok, Err, OnOk, string_bytes, String, Global}
use Rattle.std.specs.Borrow.{Bor}
use Rattle.std.specs.BTreeMap as tree
use Rattle.std.specs.BTreeMap.{BTreeMap}
use Rattle.std.specs.BTreeSet as sorted
use Rattle.std.specs.BTreeSet.{BTreeSet}
use Rattle.std.specs.Map.{update}
use Rattle.std.specs.Option.{option_map}
use Rattle.std.specs.Ordering.{is_eq, nat_cmp, ordering_then}
use Rattle.std.specs.Prelude.{◌==◌}
use Rattle.std.specs.Str.{bytes_eq}
use Rattle.std.proofs.lemmas.Bool.{eqb-true}
use Rattle.std.proofs.lemmas.Bool.Decides.{nat_tests, Decides-eqb}
use Rattle.std.proofs.lemmas.List.Folds.{list_any-append}
use Rattle.std.proofs.lemmas.List.{append-nil}
use Rattle.std.proofs.lemmas.Slice.Eq.{bytes_eq-Decides}
use Rattle.cs_grammar.specs.Tree.{DefinitionTree, defined_name}
use Rattle.cs_plain.specs.References.{is_among}
use Rattle.cs_plain.proofs.Texts.{or_nothing, or_true, Puts, has_text_put}
use Rattle.cs_names.specs.Checks.{entry_of, again_entry, TellsScope, unless_hidden, TellsAround, TellScopes, place_cmp, lifted_view, TellsLifts}
use Rattle.cs_names.specs.Taken.{TellsDefined, TellsTaken}
use Rattle.cs_names.proofs.Free.{told_same}
use Rattle.cs_names.specs.Joined.{repeats}
use Rattle.cs_names.specs.Lifted as S
use Rattle.cs_names.specs.Lifted.{Lifts, AreApart, known, is_place, is_defined, is_lifted, is_open, is_open_origin, is_taken}
use Rattle.cs_names.specs.Scopes as M
use Rattle.cs_names.specs.Scopes.{Place, Declared, declares, entry, without, denoted, or_outside}
use Rattle.cs_names.specs.declared.lifting.Lifting.{Lifting}
use Rattle.cs_names.specs.declared.scopes.Around.{Around}
use Rattle.cs_names.specs.declared.scopes.Entry.{Entry}
use Rattle.cs_names.specs.declared.scopes.Scope.{Scope}

-- ---- scopes

-- with a declaration more
pub entry_added : (ds : M.Scope) (d : Declared) (s : List ℕ) → entry (ds ++ d ∷ []) s ≡ cond (bytes_eq d.name s) (Some (again_entry (entry ds s) d.place)) (entry ds s)
entry_added [] d s = refl
entry_added (x ∷ ds) d s =
    ap (λ y. cond (bytes_eq x.name s) (Some (record { place = x.place; is_repeated = y })) (entry (ds ++ d ∷ []) s)) (list_any-append (λ z. bytes_eq z.name s) ds (d ∷ []))
    ∙ by (bytes_eq x.name s) (bytes_eq d.name s) (entry (ds ++ d ∷ []) s) (entry_added ds d s)
  where
    by : (b c : Bool) (r : Option Entry) → r ≡ cond c (Some (again_entry (entry ds s) d.place)) (entry ds s)
        → cond b (Some (record { place = x.place; is_repeated = declares ds s || (c || false) })) r
        ≡ cond c (Some (again_entry (cond b (Some (record { place = x.place; is_repeated = declares ds s })) (entry ds s)) d.place)) (cond b (Some (record { place = x.place; is_repeated = declares ds s })) (entry ds s))
    by true true r h = ap (λ y. Some (record { place = x.place; is_repeated = y })) (or_true (declares ds s))
    by true false r h = ap (λ y. Some (record { place = x.place; is_repeated = y })) (or_nothing (declares ds s))
    by false true r h = h
    by false false r h = h

pub scope_added : (m n : Scope) (ds : M.Scope) (name : List ℕ) (p : Option Place) (v : Entry) → TellsScope m ds → v ≡ again_entry (entry_of m name) p
    → ((t : List ℕ) → entry_of n t ≡ update bytes_eq (λ ns. entry_of m ns) name (Some v) t) → TellsScope n (ds ++ record { name = name; place = p } ∷ [])
scope_added m n ds name p v told is after t = after t ∙ by (bytes_eq name t) refl ∙ sym (entry_added ds (record { name = name; place = p }) t)
  where
    by : (b : Bool) → bytes_eq name t ≡ b → cond b (Some v) (entry_of m t) ≡ cond b (Some (again_entry (entry ds t) p)) (entry ds t)
    by true h = ap Some (is ∙ ap (λ s. again_entry (entry_of m s) p) ((bytes_eq-Decides name t).0 h) ∙ ap (λ e. again_entry e p) (told t))
    by false h = told t

-- ---- a scope without a name

same_text : (s t : List ℕ) → bytes_eq s t ≡ true → s ≡ t
same_text s t h = (bytes_eq-Decides s t).0 h

declares_without : (h : List ℕ) (ds : M.Scope) (s : List ℕ) → bytes_eq h s ≡ false → declares (without h ds) s ≡ declares ds s
declares_without h [] s apart = refl
declares_without h (d ∷ ds) s apart = by (declares_without h ds s apart) (bytes_eq d.name h) refl
  where
    by : declares (without h ds) s ≡ declares ds s → (b : Bool) → bytes_eq d.name h ≡ b → declares (cond (not b) (d ∷ without h ds) (without h ds)) s ≡ (bytes_eq d.name s || declares ds s)
    by ih true e = let other : bytes_eq d.name s ≡ false = rw (same_text d.name h e) apart in ih ∙ ap (λ b. b || declares ds s) (sym other)
    by ih false e = ap (λ b. bytes_eq d.name s || b) ih

-- a text that isn't the third one's has another equal
never_both : (d h s : List ℕ) → bytes_eq d s ≡ true → bytes_eq h s ≡ true → bytes_eq d h ≡ false → ⊥
never_both d h s p q e = let same : d ≡ h = same_text d s p ∙ sym (same_text h s q) in let yes : bytes_eq d h ≡ true = (bytes_eq-Decides d h).1 same in cc

pub entry_without : (h : List ℕ) (ds : M.Scope) (s : List ℕ) → entry (without h ds) s ≡ cond (bytes_eq h s) None (entry ds s)
entry_without h [] s = by (bytes_eq h s)
  where
    by : (b : Bool) → entry [] s ≡ cond b None (entry [] s)
    by true = refl
    by false = refl
entry_without h (d ∷ ds) s = by (entry_without h ds s) (bytes_eq d.name h) refl
  where
    out : Option Entry
    out = Some (record { place = d.place; is_repeated = declares ds s })

    kept : entry (without h ds) s ≡ cond (bytes_eq h s) None (entry ds s) → (b c : Bool) → bytes_eq d.name s ≡ b → bytes_eq h s ≡ c → bytes_eq d.name h ≡ false
        → cond b (Some (record { place = d.place; is_repeated = declares (without h ds) s })) (entry (without h ds) s) ≡ cond c None (cond b out (entry ds s))
    kept ih true true p q e = absurd (never_both d.name h s p q e)
    kept ih true false p q e = ap (λ y. Some (record { place = d.place; is_repeated = y })) (declares_without h ds s q)
    kept ih false c p q e = ih ∙ ap (λ b. cond b None (entry ds s)) q

    lost : (c : Bool) → cond c None (entry ds s) ≡ cond c None (cond c out (entry ds s))
    lost true = refl
    lost false = refl

    by : entry (without h ds) s ≡ cond (bytes_eq h s) None (entry ds s) → (b : Bool) → bytes_eq d.name h ≡ b
        → entry (cond (not b) (d ∷ without h ds) (without h ds)) s ≡ cond (bytes_eq h s) None (cond (bytes_eq d.name s) out (entry ds s))
    by ih true e = ih ∙ lost (bytes_eq h s) ∙ ap (λ t. cond (bytes_eq h s) None (cond (bytes_eq t s) out (entry ds s))) (sym (same_text d.name h e))
    by ih false e = kept ih (bytes_eq d.name s) (bytes_eq h s) refl refl e

-- a scope declares a name just where there is an entry
pub entry_there : (ds : M.Scope) (s : List ℕ) → is_some (entry ds s) ≡ declares ds s
entry_there [] s = refl
entry_there (d ∷ ds) s = by (entry_there ds s) (bytes_eq d.name s)
  where
    by : is_some (entry ds s) ≡ declares ds s → (b : Bool) → is_some (cond b (Some (record { place = d.place; is_repeated = declares ds s })) (entry ds s)) ≡ (b || declares ds s)
    by ih true = refl
    by ih false = ih

-- ---- scopes around an expression

pub whole_around : (t : Scope) (ds : M.Scope) (a : Around) → a.scope.now ≡ t → a.hidden ≡ None → TellsScope t ds → TellsAround a ds
whole_around t ds a same shown told s = ap₂ (λ h u. unless_hidden h s (entry_of u s)) shown same ∙ told s

pub hidden_around : (t : Scope) (ds : M.Scope) (h : Bor (List ℕ)) (text : List ℕ) → h.now ≡ text → TellsScope t ds → (s : List ℕ) → unless_hidden (Some h) s (entry_of t s) ≡ entry (without text ds) s
hidden_around t ds h text is told s = ap₂ (λ u e. cond (bytes_eq u s) None e) is (told s) ∙ sym (entry_without text ds s)

-- the scope at a place of those around
scopes_from : (around : List Around) (scopes : List M.Scope) (i : ℕ) (a : Around) → TellScopes around scopes → i < length around → a ≡ get_or around i a
    → (ds : M.Scope) × (drop i scopes ≡ ds ∷ drop (suc i) scopes) × TellsAround a ds
scopes_from [] scopes i a told l is = absurd (omega arith)
scopes_from (b ∷ around) [] i a told l is = absurd told
scopes_from (b ∷ around) (ds ∷ scopes) zero a told l is = (ds, refl, rw is told.0)
scopes_from (b ∷ around) (ds ∷ scopes) (suc i) a told l is = scopes_from around scopes i a told.1 (omega (arith, l)) is

pub scopes_at : (around : List Around) (scopes : List M.Scope) (i : ℕ) (a : Around) → TellScopes around scopes → i < length around → a ≡ get_or around i a
    → (ds : M.Scope) × (drop i scopes ≡ ds ∷ drop (i + 1) scopes) × TellsAround a ds
scopes_at around scopes i a told l is = rw add-one (scopes_from around scopes i a told l is)

pub scopes_end : (around : List Around) (scopes : List M.Scope) (i : ℕ) → TellScopes around scopes → length around ≤ i → drop i scopes ≡ []
scopes_end [] [] zero told l = refl
scopes_end [] [] (suc i) told l = refl
scopes_end [] (ds ∷ scopes) i told l = absurd told
scopes_end (b ∷ around) [] zero told l = refl
scopes_end (b ∷ around) [] (suc i) told l = refl
scopes_end (b ∷ around) (ds ∷ scopes) zero told l = absurd (omega (arith, l))
scopes_end (b ∷ around) (ds ∷ scopes) (suc i) told l = scopes_end around scopes i told.1 (omega (arith, l))

-- a scope inside of others
pub inside_of : (a : Around) (ds : M.Scope) (outside around : List Around) (scopes : List M.Scope) → around ≡ a ∷ outside → TellsAround a ds → TellScopes outside scopes → TellScopes around (ds ∷ scopes)
inside_of a ds outside around scopes is here rest = subst (λ xs. TellScopes xs (ds ∷ scopes)) (sym is) (here, rest)

-- ---- definitions

defined_push : (ds : List DefinitionTree) (d : DefinitionTree) (s : List ℕ) → is_defined (ds ++ d ∷ []) s ≡ (is_defined ds s || bytes_eq (defined_name d) s)
defined_push ds d s = list_any-append (λ x. bytes_eq (defined_name x) s) ds (d ∷ []) ∙ ap (λ b. is_defined ds s || b) (or_nothing (bytes_eq (defined_name d) s))

pub defined_put : (s n : BTreeSet (Bor (List ℕ))) (k : Bor (List ℕ)) (ds : List DefinitionTree) (d : DefinitionTree) → TellsDefined s ds → defined_name d ≡ k.now → Puts s n k → TellsDefined n (ds ++ d ∷ [])
defined_put s n k ds d told is put t = has_text_put t s n k put ∙ ap₂ (λ a u. a || bytes_eq u t) (told t) (sym is) ∙ sym (defined_push ds d t)

-- ---- what is lifted

eq_cmp : (a b : ℕ) → is_eq (nat_cmp a b) ≡ (a == b)
eq_cmp a b = by (nat_lt a b) (a == b) refl refl
  where
    by : (x y : Bool) → nat_lt a b ≡ x → (a == b) ≡ y → is_eq (cond x Less (cond y Equal Greater)) ≡ y
    by true true e f = absurd (grind (arith, nat_tests))
    by true false e f = refl
    by false true e f = refl
    by false false e f = refl

place_eq : (p q : Place) → is_eq (place_cmp p q) ≡ is_place p q
place_eq p q = by (nat_cmp p.0 q.0) refl
  where
    by : (o : Ordering) → nat_cmp p.0 q.0 ≡ o → is_eq (ordering_then o (nat_cmp p.1 q.1)) ≡ is_place p q
    by Less e = ap (λ b. b && (p.1 == q.1)) (sym (ap is_eq e) ∙ eq_cmp p.0 q.0)
    by Equal e = eq_cmp p.1 q.1 ∙ ap (λ b. b && (p.1 == q.1)) (sym (ap is_eq e) ∙ eq_cmp p.0 q.0)
    by Greater e = ap (λ b. b && (p.1 == q.1)) (sym (ap is_eq e) ∙ eq_cmp p.0 q.0)

one_place : (p q : Place) → p.0 ≡ q.0 → p.1 ≡ q.1 → p ≡ q
one_place (a, b) (c, d) e f = cc

both_parts : (x y : Bool) → (x && y) ≡ true → (x ≡ true) × (y ≡ true)
both_parts true true h = (refl, refl)
both_parts true false h = cc
both_parts false y h = cc

pub same_place : (p q : Place) → is_place p q ≡ true → p ≡ q
same_place p q h = let k = both_parts (p.0 == q.0) (p.1 == q.1) h in one_place p q (eqb-true p.0 q.0 k.0) (eqb-true p.1 q.1 k.1)

pub place_of_itself : (p : Place) → is_place p p ≡ true
place_of_itself p = ap₂ (λ x y. x && y) ((Decides-eqb p.0 p.0).1 refl) ((Decides-eqb p.1 p.1).1 refl)

abbrev none_at : Bool → List ℕ → Option (List ℕ)
none_at b s = cond b (Some s) None

abbrev first_of : Option (List ℕ) → Option (List ℕ) → Option (List ℕ)
first_of None o = o
first_of (Some s) o = Some s

known_push : (ts : Lifts) (t : S.Lifted) (p : Place) → known (ts ++ t ∷ []) p ≡ first_of (known ts p) (none_at (is_place t.place p) t.name)
known_push [] t p = refl
known_push (u ∷ ts) t p = by (known_push ts t p) (is_place u.place p)
  where
    by : known (ts ++ t ∷ []) p ≡ first_of (known ts p) (none_at (is_place t.place p) t.name) → (b : Bool) → cond b (Some u.name) (known (ts ++ t ∷ []) p) ≡ first_of (cond b (Some u.name) (known ts p)) (none_at (is_place t.place p) t.name)
    by ih true = refl
    by ih false = ih

lifted_push : (ts : Lifts) (t : S.Lifted) (s : List ℕ) → is_lifted (ts ++ t ∷ []) s ≡ (is_lifted ts s || bytes_eq t.name s)
lifted_push ts t s = list_any-append (λ x. bytes_eq x.name s) ts (t ∷ []) ∙ ap (λ b. is_lifted ts s || b) (or_nothing (bytes_eq t.name s))

open_push : (ts : Lifts) (t : S.Lifted) (s : List ℕ) → is_open (ts ++ t ∷ []) s ≡ (is_open ts s || (is_open_origin t.origin && bytes_eq t.name s))
open_push ts t s =
    list_any-append (λ x. is_open_origin x.origin && bytes_eq x.name s) ts (t ∷ []) ∙ ap (λ b. is_open ts s || b) (or_nothing (is_open_origin t.origin && bytes_eq t.name s))

-- what is known is lifted
known_lifted : (ts : Lifts) (p : Place) (s : List ℕ) → known ts p ≡ Some s → is_lifted ts s ≡ true
known_lifted [] p s h = cc
known_lifted (t ∷ ts) p s h = by (λ k. known_lifted ts p s k) (is_place t.place p) h
  where
    by : (known ts p ≡ Some s → is_lifted ts s ≡ true) → (b : Bool) → cond b (Some t.name) (known ts p) ≡ Some s → (bytes_eq t.name s || is_lifted ts s) ≡ true
    by ih true e = let is : t.name ≡ s = cc in ap (λ b. b || is_lifted ts s) ((bytes_eq-Decides t.name s).1 is)
    by ih false e = ap (λ b. bytes_eq t.name s || b) (ih e) ∙ or_true (bytes_eq t.name s)

-- what is known with one more was known before, or is that one
data KnownBy (ts : Lifts) (t : S.Lifted) (p : Place) (s : List ℕ) : Type 0 where
  before : known ts p ≡ Some s → KnownBy ts t p s
  there : t.place ≡ p → t.name ≡ s → KnownBy ts t p s

known_by : (ts : Lifts) (t : S.Lifted) (p : Place) (s : List ℕ) → known (ts ++ t ∷ []) p ≡ Some s → KnownBy ts t p s
known_by ts t p s h = by (known ts p) refl (sym (known_push ts t p) ∙ h)
  where
    here : (b : Bool) → is_place t.place p ≡ b → none_at b t.name ≡ Some s → KnownBy ts t p s
    here true e k = there (same_place t.place p e) cc
    here false e k = cc

    by : (o : Option (List ℕ)) → known ts p ≡ o → first_of o (none_at (is_place t.place p) t.name) ≡ Some s → KnownBy ts t p s
    by (Some u) e k = before (e ∙ k)
    by None e k = here (is_place t.place p) refl k

right_false : (a b : Bool) → (a || b) ≡ false → b ≡ false
right_false true b h = cc
right_false false b h = h

left_false : (a b : Bool) → (a || b) ≡ false → a ≡ false
left_false true b h = h
left_false false b h = refl

apart_push : (all : List DefinitionTree) (ts : Lifts) (t : S.Lifted) → AreApart all ts → is_taken all ts t.name ≡ false → AreApart all (ts ++ t ∷ [])
apart_push all ts t apart new = record {
  places = λ p q s h k. both p q s (known_by ts t p s h) (known_by ts t q s k);
  undefined = λ p s h. free p s (known_by ts t p s h);
}
  where
    never : (p : Place) (s : List ℕ) → known ts p ≡ Some s → t.name ≡ s → ⊥
    never p s h is = let no = right_false (is_defined all t.name) (is_lifted ts t.name) new in let yes : is_lifted ts t.name ≡ true = rw is (known_lifted ts p s h) in cc

    both : (p q : Place) (s : List ℕ) → KnownBy ts t p s → KnownBy ts t q s → p ≡ q
    both p q s (before h) (before k) = apart.places p q s h k
    both p q s (before h) (there e is) = absurd (never p s h is)
    both p q s (there e is) (before k) = absurd (never q s k is)
    both p q s (there e is) (there f to) = sym e ∙ f

    free : (p : Place) (s : List ℕ) → KnownBy ts t p s → is_defined all s ≡ false
    free p s (before h) = apart.undefined p s h
    free p s (there e is) = rw (← is) (left_false (is_defined all t.name) (is_lifted ts t.name) new)

pub lifts_added : (m n : Lifting) (all : List DefinitionTree) (ts : Lifts) (t : S.Lifted) → TellsLifts m all ts → known ts t.place ≡ None → is_taken all ts t.name ≡ false
    → TellsTaken n.names all (λ s. is_lifted ts s || bytes_eq t.name s)
    → ((p : Place) → option_map string_bytes (tree.get place_cmp n.known p) ≡ cond (is_place t.place p) (Some t.name) (option_map string_bytes (tree.get place_cmp m.known p)))
    → ((s : List ℕ) → sorted.contains_text n.unclosed s ≡ (sorted.contains_text m.unclosed s || (is_open_origin t.origin && bytes_eq t.name s)))
    → map lifted_view n.order.items ≡ map lifted_view m.order.items ++ t ∷ []
    → TellsLifts n all (ts ++ t ∷ [])
lifts_added m n all ts t told new free named placed unclosed grown = record {
  names = told_same n.names all (λ s. is_lifted ts s || bytes_eq t.name s) (is_lifted (ts ++ t ∷ [])) (λ s. sym (lifted_push ts t s)) named;
  known = λ p. placed p ∙ by_place p (is_place t.place p) refl ∙ sym (known_push ts t p);
  opens = λ s. unclosed s ∙ ap (λ b. b || (is_open_origin t.origin && bytes_eq t.name s)) (told.opens s) ∙ sym (open_push ts t s);
  order = grown ∙ ap (λ us. us ++ t ∷ []) told.order;
  apart = apart_push all ts t told.apart free;
}
  where
    held : (o : Option (List ℕ)) → o ≡ first_of o None
    held None = refl
    held (Some s) = refl

    by_place : (p : Place) (b : Bool) → is_place t.place p ≡ b → cond b (Some t.name) (option_map string_bytes (tree.get place_cmp m.known p)) ≡ first_of (known ts p) (none_at b t.name)
    by_place p true e = let none : known ts p ≡ None = rw (← same_place t.place p e) new in ap (λ o. first_of o (Some t.name)) (sym none)
    by_place p false e = told.known p ∙ held (known ts p)

-- the same in the table: what is put at a place is there, and no other place changes
pub place_put : (m n : BTreeMap Place (String Global)) (k : Place) (v : String Global) → tree.Updates place_cmp m n k (Some v)
    → (p : Place) → option_map string_bytes (tree.get place_cmp n p) ≡ cond (is_place k p) (Some (string_bytes v)) (option_map string_bytes (tree.get place_cmp m p))
place_put m n k v put p = ap (option_map string_bytes) (put.0 p) ∙ by (is_eq (place_cmp k p)) (place_eq k p)
  where
    by : (b : Bool) → b ≡ is_place k p → option_map string_bytes (cond b (Some v) (tree.get place_cmp m p)) ≡ cond (is_place k p) (Some (string_bytes v)) (option_map string_bytes (tree.get place_cmp m p))
    by true e = ap (λ c. cond c (Some (string_bytes v)) (option_map string_bytes (tree.get place_cmp m p))) e
    by false e = ap (λ c. cond c (Some (string_bytes v)) (option_map string_bytes (tree.get place_cmp m p))) e

same_there : {X Y : Type 0} (f : X → Y) (o : Option X) → is_some (option_map f o) ≡ is_some o
same_there f None = refl
same_there f (Some x) = refl

-- a place is there in the table just where it is known
pub known_there : (m : Lifting) (all : List DefinitionTree) (ts : Lifts) (p : Place) → TellsLifts m all ts → is_some (known ts p) ≡ is_some (tree.get place_cmp m.known p)
known_there m all ts p told = ap is_some (sym (told.known p)) ∙ same_there string_bytes (tree.get place_cmp m.known p)

-- ---- texts that stand twice

module _ (ss rest : List (List ℕ)) (t : List ℕ) (start : Bool) (all : start ≡ repeats ss (t ∷ rest)) where
  -- one more stands there for the first time
  pub first_time : is_among ss t ≡ false → start ≡ repeats (ss ++ t ∷ []) rest
  first_time new = all ∙ ap (λ b. b || repeats (ss ++ t ∷ []) rest) new

  pub second_time : is_among ss t ≡ true → true ≡ start
  second_time old = sym (all ∙ ap (λ b. b || repeats (ss ++ t ∷ []) rest) old)

or_chain : (a b c : Bool) → (a || (b || c)) ≡ ((a || b) || c)
or_chain true b c = refl
or_chain false b c = refl

-- of two parts one repeats, or the second one what stands before it
pub repeats-append : (ss xs ys : List (List ℕ)) → repeats ss (xs ++ ys) ≡ (repeats ss xs || repeats (ss ++ xs) ys)
repeats-append ss [] ys = ap (λ zs. repeats zs ys) (sym (append-nil ss))
repeats-append ss (x ∷ xs) ys =
    ap (λ b. is_among ss x || b) (repeats-append (ss ++ x ∷ []) xs ys ∙ ap (λ zs. repeats (ss ++ x ∷ []) xs || repeats zs ys) (append_assoc ss (x ∷ []) xs))
    ∙ or_chain (is_among ss x) (repeats (ss ++ x ∷ []) xs) (repeats (ss ++ x ∷ xs) ys)

-- what holds after a call that was done says something else too
pub on_ok : {Y E A B : Type 0} (r : Result Y E) → OnOk r A → (A → B) → OnOk r B
on_ok (Ok y) h f = f h
on_ok (Err e) h f = tt
