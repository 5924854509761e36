-- In what the default profile accepts no operands of `&`, no declarations of one label and no bodies of a definition are put together: the opening
-- rule asks that all literals in them end with `...`.
use Rattle.std.proofs.Common.{◌≡◌, ℕ, zero, suc, ◌≤◌, Bool, true, false, ◌&&◌, ◌||◌, not, cond, List, [], ◌∷◌, ◌++◌, Option, Some, None, map, length, refl, sym, ◌∙◌, inl, inr, arith}
use Rattle.std.proofs.lemmas.Bool.{cond_both, and_parts, and_from, and_right, or_left, or_right, not-true}
use Rattle.std.proofs.lemmas.List.Sums.{sum_by-cons}
use Rattle.std.specs.Prelude.{count_by, nat_le}
use Rattle.std.specs.List.{AllByRecursion, flat_map}
use Rattle.std.specs.Str.{bytes_eq}
use Rattle.cs_grammar.specs.DefaultForms.{IsDefault, AreDefault, AreDefaultFields, IsDefaultEnd, IsDefaultFile}
use Rattle.cs_grammar.specs.Written.{Place, by_itself, of_bar, of_amp, IsWritten, AreWritten, AreWrittenFields, AreTwo, IsWrittenDefinition, IsWrittenFile}
use Rattle.cs_grammar.specs.declared.ast.FieldMark.{FieldMark}
use Rattle.cs_grammar.specs.declared.ast.FieldMark.TheVariants.{Regular, Optional, Required, Every}
use Rattle.cs_grammar.specs.Tree.{Tree, atom, named, reference, conjunction, disjunction, paren, struct, list, wide, Trees, none, more, Fields, no_field, field, End, closed, any, each, DefinitionTree, definition, body, FileTree, file}
use Rattle.cs_resolve.specs.Opening.{Literal, literals, literals_all, literals_fields, literals_end, operands, joined, one, declared_for, Named, named_fields, named_bodies, values, values_of_each, KeepsRule}
use Rattle.cs_resolve.specs.Plain.{has_literal_or_reference, has_literal_or_reference_some}
use Rattle.cs_resolve.specs.Refinement.{Refinements, IsRefinement, Narrowing, narrowing, narrowing_of, or_else, referred, closed_literal}
use Rattle.cs_embeddings.specs.Alternatives.{Brought, most_steps}
use Rattle.cs_embeddings.specs.Embedded.{all_embedded, can_be_embedded}
use Rattle.cs_embeddings.specs.Gathered.{those_of, values_of, most_gathered, gathers, is_gathered}
use Rattle.cs_embeddings.proofs.Plain.{held_written}
use Rattle.cs_embeddings.specs.Held.{is_plain, holding}
use Rattle.cs_embeddings.specs.Bodies.{as_declared}
use Rattle.cs_embeddings.specs.Shut.{is_shut, some_shut, is_open, are_open, fields_open, end_open}
use Rattle.cs_embeddings.specs.United.{are_several, unites}
use Rattle.cs_embeddings.specs.Without.{all_definitions}

-- ---- lists

pub both : {X : Type 0} (P : X → Type 0) (xs ys : List X) → AllByRecursion P (xs ++ ys) → AllByRecursion P xs × AllByRecursion P ys
both P [] ys h = (tt, h)
both P (x ∷ xs) ys h = let rest = both P xs ys h.1 in ((h.0, rest.0), rest.1)

together : {X : Type 0} (P : X → Type 0) (xs ys : List X) → AllByRecursion P xs → AllByRecursion P ys → AllByRecursion P (xs ++ ys)
together P [] ys g h = h
together P (x ∷ xs) ys g h = (g.0, together P xs ys g.1 h)

-- ---- which operands can be embedded

abbrev held_once : Tree → ℕ
held_once e = cond (has_literal_or_reference e) 1 0

counted : (e f : Tree) (es : List Tree) → has_literal_or_reference e ≡ true → has_literal_or_reference f ≡ true
    → 2 ≤ count_by has_literal_or_reference (e ∷ f ∷ es)
counted e f es a b = rw (sum_by-cons held_once e (f ∷ es), sum_by-cons held_once f es, a, b) (omega arith)

-- what can be embedded isn't plain
module _ (ds : List DefinitionTree) where
  mutual
    unfolding can_be_embedded

    embeddable_held : (n : ℕ) (q : Place) (e : Tree) → IsDefault e → IsWritten q e → can_be_embedded ds n e ≡ true → has_literal_or_reference e ≡ true
    embeddable_held zero q e d w h = cc
    embeddable_held (suc n) q (atom a) d w h = cc
    embeddable_held (suc n) q (named s o) d w h = cc
    embeddable_held (suc n) q (reference s o) d w h = refl
    embeddable_held (suc n) q (conjunction es) d w h = first_held n of_amp es d w.1 w.2 h
    embeddable_held (suc n) q (disjunction es) d w h =
        first_held n of_bar es d w.1 w.2 (and_parts _ (all_embedded (can_be_embedded ds n) es) h).1
    embeddable_held (suc n) q (paren e) d w h = embeddable_held n by_itself e d w h
    embeddable_held (suc n) q (struct o fs b) d w h = refl
    embeddable_held (suc n) q (list es end) d w h = cc
    embeddable_held (suc n) q (wide w) d k h = absurd d

    first_held : (n : ℕ) (q : Place) (es : Trees) → AreDefault es → AreTwo es → AreWritten q es → all_embedded (can_be_embedded ds n) es ≡ true
        → has_literal_or_reference_some es ≡ true
    first_held n q none d t w h = absurd t
    first_held n q (more e es) d t w h =
        or_left (has_literal_or_reference e) (has_literal_or_reference_some es)
        (embeddable_held n q e d.0 w.0 (and_parts (can_be_embedded ds n e) (all_embedded (can_be_embedded ds n) es) h).0)

  two_held : (n : ℕ) (q : Place) (es : Trees) → AreDefault es → AreTwo es → AreWritten q es → all_embedded (can_be_embedded ds n) es ≡ true
      → 2 ≤ count_by has_literal_or_reference (operands es)
  two_held n q none d t w h = absurd t
  two_held n q (more e none) d t w h = absurd t
  two_held n q (more e (more f es)) d t w h =
      let first = and_parts (can_be_embedded ds n e) _ h in
      let next = and_parts (can_be_embedded ds n f) (all_embedded (can_be_embedded ds n) es) first.1 in
      let a = embeddable_held n q e d.0 w.0 first.0 in
      let b = embeddable_held n q f d.1.0 w.1.0 next.0 in
      counted e f (operands es) a b

-- where each struct literal ends with `...`, none is looked for in what is embedded
abbrev AreOpened : List Literal → Type 0
AreOpened ls = AllByRecursion (λ (l : Literal). l.opened ≡ true) ls

mutual
  literals_open : (e : Tree) → IsDefault e → AreOpened (literals e) → is_open e ≡ true
  literals_open (atom a) d h = refl
  literals_open (named s o) d h = refl
  literals_open (reference s o) d h = refl
  literals_open (conjunction es) d h = each_open es d h
  literals_open (disjunction es) d h = each_open es d h
  literals_open (paren e) d h = literals_open e d h
  literals_open (struct o fs b) d h = and_from b (fields_open fs) h.0 (literals_fields_open fs d h.1)
  literals_open (list es end) d h =
      let parts = both (λ (l : Literal). l.opened ≡ true) (literals_all es) (literals_end end) h in
      and_from (are_open es) (end_open end) (each_open es d.0 parts.0) (literals_end_open end d.1 parts.1)
  literals_open (wide w) d h = absurd d

  each_open : (es : Trees) → AreDefault es → AreOpened (literals_all es) → are_open es ≡ true
  each_open none d h = refl
  each_open (more e es) d h =
      let parts = both (λ (l : Literal). l.opened ≡ true) (literals e) (literals_all es) h in
      and_from (is_open e) (are_open es) (literals_open e d.0 parts.0) (each_open es d.1 parts.1)

  literals_fields_open : (fs : Fields) → AreDefaultFields fs → AreOpened (literals_fields fs) → fields_open fs ≡ true
  literals_fields_open no_field d h = refl
  literals_fields_open (field l m e fs) d h =
      let parts = both (λ (l : Literal). l.opened ≡ true) (literals e) (literals_fields fs) h in
      and_from (is_open e) (fields_open fs) (literals_open e d.1 parts.0) (literals_fields_open fs d.2 parts.1)

  literals_end_open : (end : End) → IsDefaultEnd end → AreOpened (literals_end end) → end_open end ≡ true
  literals_end_open closed d h = refl
  literals_end_open any d h = refl
  literals_end_open (each e) d h = literals_open e d h

operands_open : (es : Trees) → AreDefault es → AreOpened (flat_map literals (operands es)) → are_open es ≡ true
operands_open none d h = refl
operands_open (more e es) d h =
    let parts = both (λ (l : Literal). l.opened ≡ true) (literals e) (flat_map literals (operands es)) h in
    and_from (is_open e) (are_open es) (literals_open e d.0 parts.0) (operands_open es d.1 parts.1)

-- a reference is shut, and an operand of a plain refinement is one
referred_shut : (e : Tree) (n : List ℕ) → referred e ≡ Some n → is_shut false e ≡ true
referred_shut (atom a) n h = cc
referred_shut (named s o) n h = cc
referred_shut (reference s o) n h = refl
referred_shut (conjunction es) n h = cc
referred_shut (disjunction es) n h = cc
referred_shut (paren e) n h = referred_shut e n h
referred_shut (struct o fs b) n h = cc
referred_shut (list es end) n h = cc
referred_shut (wide w) n h = cc

narrowing_shut : (es : Trees) (b : Narrowing) → narrowing es ≡ Some b → some_shut false es ≡ true
narrowing_shut none b h = cc
narrowing_shut (more e none) b h = cc
narrowing_shut (more e (more f none)) b h = by (referred e) (referred f) refl refl h
  where
    by : (m n : Option (List ℕ)) → referred e ≡ m → referred f ≡ n → or_else (narrowing_of m (closed_literal f)) (narrowing_of n (closed_literal e)) ≡ Some b
        → some_shut false (more e (more f none)) ≡ true
    by (Some s) n p q k = or_left (is_shut false e) (is_shut false f || false) (referred_shut e s p)
    by None (Some s) p q k = or_right (is_shut false e) (is_shut false f || false) (or_left (is_shut false f) false (referred_shut f s q))
    by None None p q k = cc
narrowing_shut (more e (more f (more g es))) b h = cc

-- the operands that aren't plain
referred_held : (e : Tree) (n : List ℕ) → referred e ≡ Some n → is_plain e ≡ false
referred_held (atom a) n h = cc
referred_held (named s o) n h = cc
referred_held (reference s o) n h = refl
referred_held (conjunction es) n h = cc
referred_held (disjunction es) n h = cc
referred_held (paren e) n h = referred_held e n h
referred_held (struct o fs b) n h = cc
referred_held (list es end) n h = cc
referred_held (wide w) n h = cc

narrowing_held : (es : Trees) (b : Narrowing) → narrowing es ≡ Some b → some_shut false (holding es) ≡ true
narrowing_held none b h = cc
narrowing_held (more e none) b h = cc
narrowing_held (more e (more f none)) b h = by (referred e) (referred f) refl refl h
  where
    beside : (c : Bool) → is_shut false f ≡ true → some_shut false (cond c (more f none) (more e (more f none))) ≡ true
    beside true k = or_left (is_shut false f) false k
    beside false k = or_right (is_shut false e) (is_shut false f || false) (or_left (is_shut false f) false k)

    by : (m n : Option (List ℕ)) → referred e ≡ m → referred f ≡ n → or_else (narrowing_of m (closed_literal f)) (narrowing_of n (closed_literal e)) ≡ Some b
        → some_shut false (holding (more e (more f none))) ≡ true
    by (Some s) n p q k =
        rw (referred_held e s p) (or_left (is_shut false e) (some_shut false (cond (is_plain f) none (more f none))) (referred_shut e s p))
    by None (Some s) p q k = rw (referred_held f s q) (beside (is_plain e) (referred_shut f s q))
    by None None p q k = cc
narrowing_held (more e (more f (more g es))) b h = cc

held_default : (es : Trees) → AreDefault es → AreDefault (holding es)
held_default none d = tt
held_default (more e es) d = cond_both (is_plain e) (holding es) (more e (holding es)) AreDefault (λ is. held_default es d.1) (λ no. (d.0, held_default es d.1))

held_open : (es : Trees) → are_open es ≡ true → are_open (holding es) ≡ true
held_open none h = refl
held_open (more e es) h =
    let parts = and_parts (is_open e) (are_open es) h in
    cond_both (is_plain e) (holding es) (more e (holding es)) (λ hs. are_open hs ≡ true) (λ is. held_open es parts.1)
    (λ no. and_from (is_open e) (are_open (holding es)) parts.0 (held_open es parts.1))

held_fewer : (es : Trees) → count_by has_literal_or_reference (operands (holding es)) ≤ count_by has_literal_or_reference (operands es)
held_fewer none = omega arith
held_fewer (more e es) = by (is_plain e) (held_fewer es)
  where
    by : (b : Bool) → count_by has_literal_or_reference (operands (holding es)) ≤ count_by has_literal_or_reference (operands es)
        → count_by has_literal_or_reference (operands (cond b (holding es) (more e (holding es)))) ≤ count_by has_literal_or_reference (operands (more e es))
    by true less = rw (sum_by-cons held_once e (operands es)) (omega (arith, less))
    by false less = rw (sum_by-cons held_once e (operands es), sum_by-cons held_once e (operands (holding es))) (omega (arith, less))

-- ---- what keeps the opening rule isn't put together

are_two : (es : Trees) → are_several es ≡ true → AreTwo es
are_two none h = cc
are_two (more e none) h = cc
are_two (more e (more f es)) h = tt

module _ (ds : List DefinitionTree) where
  embeddable_parts : (n : ℕ) (es : Trees) → can_be_embedded ds n (conjunction es) ≡ true → (m : ℕ) × (all_embedded (can_be_embedded ds m) es ≡ true)
  unfolding can_be_embedded
  embeddable_parts zero es h = cc
  embeddable_parts (suc n) es h = (n, h)

  -- what is put together
  record AreUnited (es : Trees) : Type 0 where
    two : AreTwo es
    closed : are_open es ≡ false
    free : some_shut false es ≡ false
    steps : ℕ
    embedded : all_embedded (can_be_embedded ds steps) es ≡ true

  united_parts : (es : Trees) → unites ds es ≡ true → AreUnited es
  united_parts es h =
      let can = can_be_embedded ds most_steps (conjunction es) in
      let several = and_parts (are_several es) (not (are_open es) && (not (some_shut false es) && can)) h in
      let here = and_parts (not (are_open es)) (not (some_shut false es) && can) several.1 in
      let apart = and_parts (not (some_shut false es)) can here.1 in
      let parts = embeddable_parts most_steps es apart.1 in
      record {
        two = are_two es several.0;
        closed = not-true (are_open es) here.0;
        free = not-true (some_shut false es) apart.0;
        steps = parts.0;
        embedded = parts.1;
      }

  refuted : (es : Trees) → (AreUnited es → true ≡ false) → unites ds es ≡ false
  refuted es never = by (unites ds es) refl
    where
      by : (b : Bool) → unites ds es ≡ b → b ≡ false
      by false is = refl
      by true is = never (united_parts es is)

  apart_by_rule : (q : Place) (es : Trees) → AreDefault es → AreWritten q es → KeepsRule (operands es) → unites ds es ≡ false
  apart_by_rule q es d w keeps = refuted es (λ u. by u keeps)
    where
      by : AreUnited es → KeepsRule (operands es) → true ≡ false
      by u (inl few) = absurd (let two = two_held ds u.steps q es d u.two w u.embedded in omega (arith, two, few))
      by u (inr opened) = sym (operands_open es d opened) ∙ u.closed

  held_by_rule : (q : Place) (es : Trees) → AreDefault es → AreWritten q es → KeepsRule (operands es) → unites ds (holding es) ≡ false
  held_by_rule q es d w keeps = refuted (holding es) (λ u. by u keeps)
    where
      by : AreUnited (holding es) → KeepsRule (operands es) → true ≡ false
      by u (inl few) =
          absurd (let two = two_held ds u.steps q (holding es) (held_default es d) u.two (held_written q es w) u.embedded in
          let less = held_fewer es in omega (arith, two, few, less))
      by u (inr opened) = sym (held_open es (operands_open es d opened)) ∙ u.closed

  -- operands of `&`, where these are the plain refinements
  module _ (rs : Refinements) (refine : (es : Trees) → rs es ≡ true → IsRefinement ds es) where
    pub not_united : (es : Trees) → AreDefault es → AreWritten of_amp es → AllByRecursion KeepsRule (joined rs es)
        → (unites ds es ≡ false) × (unites ds (holding es) ≡ false)
    not_united es d w keeps = by (rs es) refl keeps
      where
        by : (b : Bool) → rs es ≡ b → AllByRecursion KeepsRule (cond b [] (operands es ∷ [])) → (unites ds es ≡ false) × (unites ds (holding es) ≡ false)
        by true is k =
            let r = refine es is in let b : Narrowing = (r.base, r.fields) in (
              refuted es (λ u. sym (narrowing_shut es b r.joins) ∙ u.free),
              refuted (holding es) (λ u. sym (narrowing_held es b r.joins) ∙ u.free),
            )
        by false is k = (apart_by_rule of_amp es d w k.0, held_by_rule of_amp es d w k.0)

-- ---- nor are the declarations of a label

-- those of a literal
abbrev pub declarations_of : Fields → List Brought
declarations_of no_field = []
declarations_of (field l m e fs) = record { label = l; mark = m; value = e; place = None; embedding = None } ∷ declarations_of fs

-- the values that are declared for a label are among those of which the rule speaks
record AreAmong (es : Trees) (xs : List Tree) : Type 0 where
  default : AreDefault es
  written : AreWritten by_itself es
  fewer : count_by has_literal_or_reference (operands es) ≤ count_by has_literal_or_reference xs
  opened : AreOpened (flat_map literals xs) → AreOpened (flat_map literals (operands es))

one_more : (x : Tree) (es : Trees) (xs : List Tree) → AreAmong es xs → AreAmong es (x ∷ xs)
one_more x es xs h = record {
  default = h.default;
  written = h.written;
  fewer = let less = h.fewer in rw (sum_by-cons held_once x xs) (omega (arith, less));
  opened = λ o. h.opened (both (λ (l : Literal). l.opened ≡ true) (literals x) (flat_map literals xs) o).1;
}

one_of_both : (e : Tree) (es : Trees) (xs : List Tree) → IsDefault e → IsWritten by_itself e → AreAmong es xs → AreAmong (more e es) (e ∷ xs)
one_of_both e es xs d w h = record {
  default = (d, h.default);
  written = (w, h.written);
  fewer = let less = h.fewer in rw (sum_by-cons held_once e (operands es), sum_by-cons held_once e xs) (omega (arith, less));
  opened =
      λ o. let parts = both (λ (l : Literal). l.opened ≡ true) (literals e) (flat_map literals xs) o in
      together (λ (l : Literal). l.opened ≡ true) (literals e) (flat_map literals (operands es)) parts.0 (h.opened parts.1);
}

kept_by : (es : Trees) (xs : List Tree) → AreAmong es xs → KeepsRule xs → KeepsRule (operands es)
kept_by es xs h (inl few) = let less = h.fewer in inl (omega (arith, less, few))
kept_by es xs h (inr opened) = inr (h.opened opened)

module _ (s : List ℕ) where
  here : (c : Brought) (cs : List Brought) (n : Named) (ns : List Named) → IsDefault c.value → IsWritten by_itself c.value → n.value ≡ c.value
      → AreAmong (values_of cs) (map (λ (n : Named). n.value) ns) → (plain b : Bool)
      → AreAmong (values_of (cond (not plain && b) (c ∷ cs) cs)) (map (λ (n : Named). n.value) (cond b (n ∷ ns) ns))
  here c cs n ns d w same h false true =
      rw same (one_of_both c.value (values_of cs) (map (λ (n : Named). n.value) ns) d w h)
  here c cs n ns d w same h true true = one_more n.value (values_of cs) (map (λ (n : Named). n.value) ns) h
  here c cs n ns d w same h false false = h
  here c cs n ns d w same h true false = h

  values_among : (fs : Fields) → AreDefaultFields fs → AreWrittenFields fs → AreAmong (values_of (those_of s (declarations_of fs))) (values (one s) (named_fields fs))
  values_among no_field d w = record { default = tt; written = tt; fewer = omega arith; opened = λ o. o }
  values_among (field l Regular e fs) d w = here _ _ _ _ d.1 w.1 refl (values_among fs d.2 w.2) (l.asked || is_plain e) (bytes_eq l.text s)
  values_among (field l Optional e fs) d w = here _ _ _ _ d.1 w.1 refl (values_among fs d.2 w.2) (l.asked || is_plain e) (bytes_eq l.text s)
  values_among (field l Required e fs) d w = here _ _ _ _ d.1 w.1 refl (values_among fs d.2 w.2) (l.asked || is_plain e) (bytes_eq l.text s)
  values_among (field l (Every o) e fs) d w = one_more e _ _ (values_among fs d.2 w.2)

module _ (ds : List DefinitionTree) (fs : Fields) (d : AreDefaultFields fs) (w : AreWrittenFields fs) where
  label_apart : (s : List ℕ) → KeepsRule (values (one s) (named_fields fs)) → gathers ds (those_of s (declarations_of fs)) ≡ false
  label_apart s k =
      let among = values_among s fs d w in
      let es = values_of (those_of s (declarations_of fs)) in
      and_right (nat_le (length (those_of s (declarations_of fs))) most_gathered) (unites ds es)
      (apart_by_rule ds by_itself es among.default among.written (kept_by es (values (one s) (named_fields fs)) among k))

  held_apart : (s : List ℕ) (alone : Bool) → KeepsRule (values (one s) (named_fields fs)) → (not alone && gathers ds (those_of s (declarations_of fs))) ≡ false
  held_apart s alone k = and_right (not alone) (gathers ds (those_of s (declarations_of fs))) (label_apart s k)

  pub not_gathered : (gs : Fields) → AllByRecursion KeepsRule (map (λ n. values n.name (named_fields fs)) (named_fields gs))
      → AllByRecursion (λ c. is_gathered ds (declarations_of fs) c ≡ false) (declarations_of gs)
  not_gathered no_field k = tt
  not_gathered (field l m e gs) k = (by m k.0, not_gathered gs k.1)
    where
      by : (m : FieldMark) → KeepsRule (values (declared_for l m) (named_fields fs))
          → is_gathered ds (declarations_of fs) (record { label = l; mark = m; value = e; place = None; embedding = None }) ≡ false
      by Regular k = held_apart l.text (l.asked || is_plain e) k
      by Optional k = held_apart l.text (l.asked || is_plain e) k
      by Required k = held_apart l.text (l.asked || is_plain e) k
      by (Every o) k = refl

-- ---- nor are the bodies of a definition

module _ (s : List ℕ) where
  abbrev bodies_named : List DefinitionTree → List Tree
  bodies_named ds = values (one s) (named_bodies ds)

  -- the bodies of a name are among those of which the rule speaks
  bodies_among : (es : List DefinitionTree) → IsDefaultFile (file None es []) → IsWrittenFile (file None es [])
      → AreAmong (values_of (those_of s (map as_declared es))) (bodies_named es)
  bodies_among [] d w = record { default = tt; written = tt; fewer = omega arith; opened = λ o. o }
  bodies_among (definition t o e ∷ es) d w =
      here s _ _ _ _ d.0 w.1.0.1 refl (bodies_among es d.1 (tt, w.1.1, refl)) (is_plain e) (bytes_eq t s)

-- those of all files
default_together : (fs : List FileTree) → AllByRecursion IsDefaultFile fs → IsDefaultFile (file None (all_definitions fs) [])
default_together [] d = tt
default_together (file p es ns ∷ fs) d = together (λ (x : DefinitionTree). IsDefault (body x)) es (all_definitions fs) d.0 (default_together fs d.1)

written_together : (fs : List FileTree) → AllByRecursion IsWrittenFile fs → IsWrittenFile (file None (all_definitions fs) [])
written_together [] w = (tt, tt, refl)
written_together (file p es ns ∷ fs) w = (tt, together IsWrittenDefinition es (all_definitions fs) w.0.1 (written_together fs w.1).1, refl)

module _ (ds : List DefinitionTree) (d : IsDefaultFile (file None ds [])) (w : IsWrittenFile (file None ds [])) where
  name_apart : (s : List ℕ) → KeepsRule (bodies_named s ds) → gathers ds (those_of s (map as_declared ds)) ≡ false
  name_apart s k =
      let among = bodies_among s ds d w in
      let ts = values_of (those_of s (map as_declared ds)) in
      and_right (nat_le (length (those_of s (map as_declared ds))) most_gathered) (unites ds ts)
      (apart_by_rule ds by_itself ts among.default among.written (kept_by ts (bodies_named s ds) among k))

  names_apart : (es : List DefinitionTree) → AllByRecursion KeepsRule (map (λ (n : Named). values n.name (named_bodies ds)) (named_bodies es))
      → AllByRecursion (λ c. is_gathered ds (map as_declared ds) c ≡ false) (map as_declared es)
  names_apart [] k = tt
  names_apart (definition s o e ∷ es) k =
      (and_right (not (is_plain e)) (gathers ds (those_of s (map as_declared ds))) (name_apart s k.0), names_apart es k.1)

pub no_bodies_gathered : (fs : List FileTree) → AllByRecursion IsDefaultFile fs → AllByRecursion IsWrittenFile fs
    → let ds = all_definitions fs in AllByRecursion KeepsRule (values_of_each (named_bodies ds))
    → AllByRecursion (λ c. is_gathered ds (map as_declared ds) c ≡ false) (map as_declared ds)
no_bodies_gathered fs d w k = let ds = all_definitions fs in names_apart ds (default_together fs d) (written_together fs w) ds k
