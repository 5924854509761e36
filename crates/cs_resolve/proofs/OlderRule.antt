-- What kept the opening rule when it asked plain refinements too has none of them: it is accepted as before, and it
-- resolves to the same.
use Rattle.std.proofs.Common.{◌≡◌, ℕ, ◌+◌, ◌≤◌, Bool, true, false, ◌||◌, cond, List, [], ◌∷◌, ◌++◌, map, filter, inl, inr, Option, Some, None, refl, sym, ap, ap₂, ◌∙◌, subst, arith}
use Rattle.std.specs.List.{AllByRecursion, flat_map}
use Rattle.std.proofs.lemmas.Bool.{false≢true}
use Rattle.cs_grammar.specs.Tree.{Tree, atom, named, reference, conjunction, disjunction, paren, struct, list, wide, Trees, none, more, Fields, no_field, field, End, closed, any, each, DefinitionTree, defined_name, body, FileTree, definitions}
use Rattle.cs_package.specs.Expression as cue
use Rattle.cs_package.specs.Expression.{Expression, mark_of}
use Rattle.cs_package.specs.Environment.{Environment}
use Rattle.std.specs.Str.{bytes_eq}
use Rattle.cs_resolve.specs.Declarations.{names, bodies_of}
use Rattle.cs_resolve.specs.Earlier.{no_refinements, IsPackageEarlier}
use Rattle.cs_resolve.specs.Opening.{has_literal_or_reference, Literal, literals, operands, named_fields, named_bodies, values_of_each, joined, conjunctions, conjunctions_all, conjunctions_fields, conjunctions_end, KeepsRule, IsOpened}
use Rattle.cs_resolve.specs.Refinement.{Refinements, AreRefinements, Narrowing, has_every_key, closed_literal, referred, narrowing_of, or_else, narrowing}
use Rattle.cs_resolve.specs.ClosedBases.{bases, is_refinement}
use Rattle.cs_resolve.specs.Resolved.{narrowed_operands, resolved, resolved_all, resolved_fields, resolved_end, environment_of_files, IsPackage}
use Rattle.cs_resolve.proofs.BaseLaw.{found_refinements}

abbrev Keeps : List (List Tree) → Type 0
Keeps cs = AllByRecursion KeepsRule cs

-- each literal ends with `...`
abbrev Open : List Literal → Type 0
Open ls = AllByRecursion (λ (l : Literal). l.opened ≡ true) ls

-- ---- lists

module _ {X : Type 0} (P : X → Type 0) where
  kept_left : (xs ys : List X) → AllByRecursion P (xs ++ ys) → AllByRecursion P xs
  kept_left [] ys h = tt
  kept_left (x ∷ xs) ys h = (h.0, kept_left xs ys h.1)

  kept_right : (xs ys : List X) → AllByRecursion P (xs ++ ys) → AllByRecursion P ys
  kept_right [] ys h = h
  kept_right (x ∷ xs) ys h = kept_right xs ys h.1

-- ---- the operands of a plain refinement

referred_unplain : (e : Tree) (n : List ℕ) → referred e ≡ Some n → has_literal_or_reference e ≡ true
referred_unplain (reference m o) n h = refl
referred_unplain (paren e) n h = referred_unplain e n h
referred_unplain (struct o fs opened) n h = refl
referred_unplain (atom a) n h = cc
referred_unplain (named m o) n h = cc
referred_unplain (conjunction es) n h = cc
referred_unplain (disjunction es) n h = cc
referred_unplain (list es end) n h = cc
referred_unplain (wide w) n h = cc

literal_unplain : (e : Tree) (fs : Fields) → closed_literal e ≡ Some fs → has_literal_or_reference e ≡ true
literal_unplain (struct o gs opened) fs h = refl
literal_unplain (reference m o) fs h = refl
literal_unplain (paren e) fs h = literal_unplain e fs h
literal_unplain (atom a) fs h = cc
literal_unplain (named m o) fs h = cc
literal_unplain (conjunction es) fs h = cc
literal_unplain (disjunction es) fs h = cc
literal_unplain (list es end) fs h = cc
literal_unplain (wide w) fs h = cc

-- the literal doesn't end with `...`
literal_shut : (e : Tree) (fs : Fields) → closed_literal e ≡ Some fs → ¬ Open (literals e)
literal_shut (struct o gs opened) fs h k = by opened (has_every_key gs) k.0 h
  where
    by : (a b : Bool) → a ≡ true → cond (a || b) None (Some gs) ≡ Some fs → ⊥
    by true b all is = cc
    by false b all is = false≢true all
literal_shut (paren e) fs h k = literal_shut e fs h k
literal_shut (reference m o) fs h k = cc
literal_shut (atom a) fs h k = cc
literal_shut (named m o) fs h k = cc
literal_shut (conjunction es) fs h k = cc
literal_shut (disjunction es) fs h k = cc
literal_shut (list es end) fs h k = cc
literal_shut (wide w) fs h k = cc

open_left : (ls ms : List Literal) → Open (ls ++ ms) → Open ls
open_left ls ms h = kept_left (λ (l : Literal). l.opened ≡ true) ls ms h

open_right : (ls ms : List Literal) → Open (ls ++ ms) → Open ms
open_right ls ms h = kept_right (λ (l : Literal). l.opened ≡ true) ls ms h

-- two operands that aren't plain, of which one has a literal without `...`
both_asked : (a b : Tree) → has_literal_or_reference a ≡ true → has_literal_or_reference b ≡ true → (Open (literals a ++ (literals b ++ [])) → ⊥) → ¬ KeepsRule (a ∷ b ∷ [])
both_asked a b ha hb shut (inl few) = two (has_literal_or_reference a) (has_literal_or_reference b) ha hb few
  where
    two : (p q : Bool) → p ≡ true → q ≡ true → 0 + cond p 1 0 + cond q 1 0 ≤ 1 → ⊥
    two true true hp hq le = omega arith
    two true false hp hq le = false≢true hq
    two false q hp hq le = false≢true hp
both_asked a b ha hb shut (inr all) = shut all

-- where the older rule is kept, a reference and a closed literal aren't joined
module _ (a b : Tree) (keeps : KeepsRule (a ∷ b ∷ [])) where
  literal_behind : (r : Option (List ℕ)) (l : Option Fields) → referred a ≡ r → closed_literal b ≡ l → narrowing_of r l ≡ None
  literal_behind None l is lit = refl
  literal_behind (Some n) None is lit = refl
  literal_behind (Some n) (Some fs) is lit = absurd (both_asked a b (referred_unplain a n is) (literal_unplain b fs lit) (λ h. literal_shut b fs lit (open_left (literals b) [] (open_right (literals a) (literals b ++ []) h))) keeps)

  literal_in_front : (r : Option (List ℕ)) (l : Option Fields) → referred b ≡ r → closed_literal a ≡ l → narrowing_of r l ≡ None
  literal_in_front None l is lit = refl
  literal_in_front (Some n) None is lit = refl
  literal_in_front (Some n) (Some fs) is lit = absurd (both_asked a b (literal_unplain a fs lit) (referred_unplain b n is) (λ h. literal_shut a fs lit (open_left (literals a) (literals b ++ []) h)) keeps)

  no_narrowing : or_else (narrowing_of (referred a) (closed_literal b)) (narrowing_of (referred b) (closed_literal a)) ≡ None
  no_narrowing = ap₂ or_else (literal_behind (referred a) (closed_literal b) refl refl) (literal_in_front (referred b) (closed_literal a) refl refl)

none_narrowed : (es : Trees) → KeepsRule (operands es) → narrowing es ≡ None
none_narrowed none h = refl
none_narrowed (more a none) h = refl
none_narrowed (more a (more b none)) h = no_narrowing a b h
none_narrowed (more a (more b (more c es))) h = refl

-- where these are the plain refinements, other operands are none
abbrev Narrow : Refinements → Type 0
Narrow rs = (es : Trees) → narrowing es ≡ None → rs es ≡ false

no_both : (o : Option Narrowing) (n : Narrowing) → o ≡ None → o ≡ Some n → ⊥
no_both None n h k = cc
no_both (Some m) n h k = cc

others_apart : (ds : List DefinitionTree) (rs : Refinements) → AreRefinements ds rs → Narrow rs
others_apart ds rs are es absent = by (rs es) refl
  where
    by : (b : Bool) → rs es ≡ b → rs es ≡ false
    by true e = let r = (are es).0 e in absurd (no_both (narrowing es) (r.base, r.fields) absent r.joins)
    by false e = e

-- the conjunctions inside the bodies of definitions
abbrev inner : Refinements → List DefinitionTree → List (List Tree)
inner rs ds = flat_map (λ d. conjunctions rs (body d)) ds

-- a name with its resolved bodies
abbrev with_resolved : Refinements → List ℕ × List Tree → List ℕ × List Expression
with_resolved rs d = (d.0, map (resolved rs) d.1)

-- ---- expressions

module _ (rs : Refinements) (narrow : Narrow rs) where
  -- the operands of a conjunction keep the rule
  own_operands : (es : Trees) → Keeps (conjunctions no_refinements (conjunction es)) → KeepsRule (operands es)
  own_operands es h = h.0

  inner_operands : (es : Trees) → Keeps (conjunctions no_refinements (conjunction es)) → Keeps (conjunctions_all no_refinements es)
  inner_operands es h = kept_right KeepsRule (joined no_refinements es) (conjunctions_all no_refinements es) h

  no_refinement : (es : Trees) → Keeps (conjunctions no_refinements (conjunction es)) → rs es ≡ no_refinements es
  no_refinement es h = narrow es (none_narrowed es (own_operands es h))

  mutual
    pub resolved_same : (e : Tree) → Keeps (conjunctions no_refinements e) → resolved rs e ≡ resolved no_refinements e
    resolved_same (atom a) h = refl
    resolved_same (named n o) h = refl
    resolved_same (reference n o) h = refl
    resolved_same (conjunction es) h = ap cue.conjunction (ap₂ narrowed_operands (no_refinement es h) (resolved_same_all es (inner_operands es h)))
    resolved_same (disjunction es) h = ap cue.disjunction (resolved_same_all es h)
    resolved_same (paren e) h = resolved_same e h
    resolved_same (struct o fs opened) h = ap (λ ds. cue.struct ds opened) (resolved_same_fields fs (kept_right KeepsRule (values_of_each (named_fields fs)) (conjunctions_fields no_refinements fs) h))
    resolved_same (list es end) h = ap₂ cue.list (resolved_same_all es (kept_left KeepsRule (conjunctions_all no_refinements es) (conjunctions_end no_refinements end) h)) (resolved_same_end end (kept_right KeepsRule (conjunctions_all no_refinements es) (conjunctions_end no_refinements end) h))
    resolved_same (wide w) h = refl

    resolved_same_all : (es : Trees) → Keeps (conjunctions_all no_refinements es) → resolved_all rs es ≡ resolved_all no_refinements es
    resolved_same_all none h = refl
    resolved_same_all (more e es) h = ap₂ cue.expression (resolved_same e (kept_left KeepsRule (conjunctions no_refinements e) (conjunctions_all no_refinements es) h)) (resolved_same_all es (kept_right KeepsRule (conjunctions no_refinements e) (conjunctions_all no_refinements es) h))

    resolved_same_fields : (fs : Fields) → Keeps (conjunctions_fields no_refinements fs) → resolved_fields rs fs ≡ resolved_fields no_refinements fs
    resolved_same_fields no_field h = refl
    resolved_same_fields (field l m e fs) h = ap₂ (cue.declaration l.text (mark_of m)) (resolved_same e (kept_left KeepsRule (conjunctions no_refinements e) (conjunctions_fields no_refinements fs) h)) (resolved_same_fields fs (kept_right KeepsRule (conjunctions no_refinements e) (conjunctions_fields no_refinements fs) h))

    resolved_same_end : (end : End) → Keeps (conjunctions_end no_refinements end) → resolved_end rs end ≡ resolved_end no_refinements end
    resolved_same_end closed h = refl
    resolved_same_end any h = refl
    resolved_same_end (each e) h = ap cue.each (resolved_same e h)

  mutual
    pub conjunctions_same : (e : Tree) → Keeps (conjunctions no_refinements e) → conjunctions rs e ≡ conjunctions no_refinements e
    conjunctions_same (atom a) h = refl
    conjunctions_same (named n o) h = refl
    conjunctions_same (reference n o) h = refl
    conjunctions_same (conjunction es) h = ap₂ (λ b cs. cond b [] (operands es ∷ []) ++ cs) (no_refinement es h) (conjunctions_same_all es (inner_operands es h))
    conjunctions_same (disjunction es) h = conjunctions_same_all es h
    conjunctions_same (paren e) h = conjunctions_same e h
    conjunctions_same (struct o fs opened) h = ap (λ cs. values_of_each (named_fields fs) ++ cs) (conjunctions_same_fields fs (kept_right KeepsRule (values_of_each (named_fields fs)) (conjunctions_fields no_refinements fs) h))
    conjunctions_same (list es end) h = ap₂ (λ cs ds. cs ++ ds) (conjunctions_same_all es (kept_left KeepsRule (conjunctions_all no_refinements es) (conjunctions_end no_refinements end) h)) (conjunctions_same_end end (kept_right KeepsRule (conjunctions_all no_refinements es) (conjunctions_end no_refinements end) h))
    conjunctions_same (wide w) h = refl

    conjunctions_same_all : (es : Trees) → Keeps (conjunctions_all no_refinements es) → conjunctions_all rs es ≡ conjunctions_all no_refinements es
    conjunctions_same_all none h = refl
    conjunctions_same_all (more e es) h = ap₂ (λ cs ds. cs ++ ds) (conjunctions_same e (kept_left KeepsRule (conjunctions no_refinements e) (conjunctions_all no_refinements es) h)) (conjunctions_same_all es (kept_right KeepsRule (conjunctions no_refinements e) (conjunctions_all no_refinements es) h))

    conjunctions_same_fields : (fs : Fields) → Keeps (conjunctions_fields no_refinements fs) → conjunctions_fields rs fs ≡ conjunctions_fields no_refinements fs
    conjunctions_same_fields no_field h = refl
    conjunctions_same_fields (field l m e fs) h = ap₂ (λ cs ds. cs ++ ds) (conjunctions_same e (kept_left KeepsRule (conjunctions no_refinements e) (conjunctions_fields no_refinements fs) h)) (conjunctions_same_fields fs (kept_right KeepsRule (conjunctions no_refinements e) (conjunctions_fields no_refinements fs) h))

    conjunctions_same_end : (end : End) → Keeps (conjunctions_end no_refinements end) → conjunctions_end rs end ≡ conjunctions_end no_refinements end
    conjunctions_same_end closed h = refl
    conjunctions_same_end any h = refl
    conjunctions_same_end (each e) h = conjunctions_same e h

  -- ---- definitions

  inner_same : (ds : List DefinitionTree) → Keeps (inner no_refinements ds) → inner rs ds ≡ inner no_refinements ds
  inner_same [] h = refl
  inner_same (d ∷ ds) h = ap₂ (λ cs es. cs ++ es) (conjunctions_same (body d) (kept_left KeepsRule (conjunctions no_refinements (body d)) (inner no_refinements ds) h)) (inner_same ds (kept_right KeepsRule (conjunctions no_refinements (body d)) (inner no_refinements ds) h))

  bodies_same : (p : DefinitionTree → Bool) (ds : List DefinitionTree) → Keeps (inner no_refinements ds) → map (resolved rs) (map body (filter p ds)) ≡ map (resolved no_refinements) (map body (filter p ds))
  bodies_same p [] h = refl
  bodies_same p (d ∷ ds) h = by (p d) (resolved_same (body d) (kept_left KeepsRule (conjunctions no_refinements (body d)) (inner no_refinements ds) h)) (bodies_same p ds (kept_right KeepsRule (conjunctions no_refinements (body d)) (inner no_refinements ds) h))
    where
      by : (b : Bool) → resolved rs (body d) ≡ resolved no_refinements (body d) → map (resolved rs) (map body (filter p ds)) ≡ map (resolved no_refinements) (map body (filter p ds)) → map (resolved rs) (map body (cond b (d ∷ filter p ds) (filter p ds))) ≡ map (resolved no_refinements) (map body (cond b (d ∷ filter p ds) (filter p ds)))
      by true first rest = ap₂ (λ e es. e ∷ es) first rest
      by false first rest = rest

  declared_same : (ns : List (List ℕ)) (ds : List DefinitionTree) → Keeps (inner no_refinements ds) → map (with_resolved rs) (map (λ n. (n, bodies_of n ds)) ns) ≡ map (with_resolved no_refinements) (map (λ n. (n, bodies_of n ds)) ns)
  declared_same [] ds h = refl
  declared_same (n ∷ ns) ds h = ap₂ (λ es rest. (n, es) ∷ rest) (bodies_same (λ d. bytes_eq (defined_name d) n) ds h) (declared_same ns ds h)

module _ (fs : List FileTree) (h : IsOpened no_refinements fs) (rs : Refinements) (are : AreRefinements (flat_map definitions fs) rs) where
  abbrev ds : List DefinitionTree
  ds = flat_map definitions fs

  inside : Keeps (inner no_refinements ds)
  inside = kept_right KeepsRule (values_of_each (named_bodies ds)) (inner no_refinements ds) h

  still_opened : IsOpened rs fs
  still_opened = subst (λ cs. Keeps (values_of_each (named_bodies ds) ++ cs)) (sym (inner_same rs (others_apart ds rs are) ds inside)) h

  same_environment : environment_of_files rs fs ≡ environment_of_files no_refinements fs
  same_environment = declared_same rs (others_apart ds rs are) (names ds) ds inside

pub still_package : (fs : List FileTree) (E : Environment) → IsPackageEarlier fs E → IsPackage fs E
still_package fs E h =
    let ds = flat_map definitions fs in
    let rs = is_refinement (bases ds) in
    let are = found_refinements ds in
    record {
      agree = h.agree;
      small = h.small;
      resolved = h.resolved;
      refinements = rs;
      are_refinements = are;
      opened = still_opened fs h.opened rs are;
      declares = h.declares ∙ sym (same_environment fs h.opened rs are);
    }
