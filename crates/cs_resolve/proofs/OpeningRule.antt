-- No literal is at fault exactly where each conjunction keeps the rule, and the literals at fault are those asked for.
use Rattle.std.proofs.Common.{◌≡◌, ℕ, zero, suc, ◌+◌, ◌<◌, ◌≤◌, Bool, true, false, ◌⊎◌, ◌↔◌, List, [], ◌∷◌, ◌++◌, map, count_by, nat_lt, Contains, slice_get, Some, inl, inr, refl, sym, ap, ap₂, ◌∙◌, subst, arith}
use Rattle.std.specs.List.{AllByRecursion, flat_map}
use Rattle.std.proofs.lemmas.Bool.{cases_lt, lt-ltb, ltb-true, false≢true}
use Rattle.std.proofs.lemmas.Grind.{flat_map-append}
use Rattle.cs_grammar.specs.Tree.{Tree, DefinitionTree, defined_name, body, FileTree, definitions}
use Rattle.cs_resolve.specs.Opening.{has_literal_or_reference, Literal, literals, one, Named, named_bodies, values, conjunctions, all_conjunctions, KeepsRule, IsOpened}
use Rattle.cs_resolve.specs.Unopened.{IsDemanded, IsUnopenedAt, demands_open, unopened, unopened_definitions, unopened_from, unopened_files}
use Rattle.cs_resolve.specs.Refinement.{Refinements}
use Rattle.cs_resolve.proofs.Refusals.{nil_left, nil_right}
use Rattle.cs_resolve.proofs.Elements.{Has, has_left, has_right, has_cases, has_element, element_of}
use Rattle.cs_resolve.proofs.UnopenedLiterals.{IsAt, Lacks, DemandsOf, DemandedOf, told_of_all, told_of_some}

abbrev IsOpen : Literal → Type 0
IsOpen l = l.opened ≡ true

-- each of the literals ends with `...`
abbrev Open : List Literal → Type 0
Open ls = AllByRecursion IsOpen ls

abbrev Keeps : List (List Tree) → Type 0
Keeps cs = AllByRecursion KeepsRule cs

-- a conjunction that keeps the rule, and one that asks
kept_by : (es : List Tree) → (demands_open es ≡ true → Open (flat_map literals es)) → KeepsRule es
kept_by es h = by (demands_open es) refl
  where
    by : (b : Bool) → demands_open es ≡ b → KeepsRule es
    by true e = inr (h e)
    by false e = inl (few (count_by has_literal_or_reference es) e (cases_lt 1 (count_by has_literal_or_reference es)))
      where
        few : (n : ℕ) → nat_lt 1 n ≡ false → (1 < n) ⊎ (n ≤ 1) → n ≤ 1
        few n e (inl many) = absurd (false≢true (sym e ∙ lt-ltb 1 n many))
        few n e (inr le) = le

open_by : (es : List Tree) → KeepsRule es → demands_open es ≡ true → Open (flat_map literals es)
open_by es (inl few) e = absurd (let many : 1 < count_by has_literal_or_reference es = ltb-true 1 (count_by has_literal_or_reference es) e in omega arith)
open_by es (inr h) e = h

-- ---- no literal

none_at : (os : List ℕ) → ((o : ℕ) → Has (IsAt o) os → ⊥) → os ≡ []
none_at [] h = refl
none_at (o ∷ os) h = absurd (h o (inl refl))

open_none : (ls : List Literal) → ((o : ℕ) → Has (Lacks o) ls → ⊥) → Open ls
open_none [] h = tt
open_none (l ∷ ls) h = (by l.opened refl, open_none ls (λ o k. h o (inr k)))
  where
    by : (b : Bool) → l.opened ≡ b → IsOpen l
    by true e = e
    by false e = absurd (h l.at (inl (refl, e)))

none_open : (o : ℕ) (ls : List Literal) → Open ls → Has (Lacks o) ls → ⊥
none_open o [] h k = k
none_open o (l ∷ ls) h (inl k) = false≢true (sym k.1 ∙ h.0)
none_open o (l ∷ ls) h (inr k) = none_open o ls h.1 k

-- each conjunction keeps the rule exactly where none asks for a literal
keeps_none : (cs : List (List Tree)) → ((o : ℕ) → Has (DemandsOf o) cs → ⊥) → Keeps cs
keeps_none [] h = tt
keeps_none (es ∷ cs) h = (kept_by es (λ e. open_none (flat_map literals es) (λ o l. h o (inl (e, l)))), keeps_none cs (λ o k. h o (inr k)))

none_keeps : (o : ℕ) (cs : List (List Tree)) → Keeps cs → Has (DemandsOf o) cs → ⊥
none_keeps o [] h k = k
none_keeps o (es ∷ cs) h (inl k) = none_open o (flat_map literals es) (open_by es h.0 k.0) k.1
none_keeps o (es ∷ cs) h (inr k) = none_keeps o cs h.1 k

-- ---- files

abbrev numbered : ℕ → List ℕ → List (ℕ × ℕ)
numbered i os = map (λ o. (i, o)) os

numbered_none : (i : ℕ) (os : List ℕ) → numbered i os ≡ [] → os ≡ []
numbered_none i [] h = refl
numbered_none i (o ∷ os) h = cc

definitions-append : (rs : Refinements) (all : List Named) (ds es : List DefinitionTree) → unopened_definitions rs all (ds ++ es) ≡ unopened_definitions rs all ds ++ unopened_definitions rs all es
definitions-append rs all ds es = flat_map-append (λ d. unopened rs (demands_open (values (one (defined_name d)) all)) (body d)) ds es

files_none : (rs : Refinements) (i : ℕ) (all : List Named) (fs : List FileTree) → unopened_from rs i all fs ≡ [] → unopened_definitions rs all (flat_map definitions fs) ≡ []
files_none rs i all [] h = refl
files_none rs i all (f ∷ fs) h =
    let here = unopened_definitions rs all (definitions f) in
    definitions-append rs all (definitions f) (flat_map definitions fs)
    ∙ ap (λ os. os ++ unopened_definitions rs all (flat_map definitions fs)) (numbered_none i here (nil_left (numbered i here) (unopened_from rs (suc i) all fs) h))
    ∙ files_none rs (suc i) all fs (nil_right (numbered i here) (unopened_from rs (suc i) all fs) h)

none_files : (rs : Refinements) (i : ℕ) (all : List Named) (fs : List FileTree) → unopened_definitions rs all (flat_map definitions fs) ≡ [] → unopened_from rs i all fs ≡ []
none_files rs i all [] h = refl
none_files rs i all (f ∷ fs) h =
    let here = unopened_definitions rs all (definitions f) in
    let both = sym (definitions-append rs all (definitions f) (flat_map definitions fs)) ∙ h in
    ap (λ os. numbered i os ++ unopened_from rs (suc i) all fs) (nil_left here (unopened_definitions rs all (flat_map definitions fs)) both)
    ∙ none_files rs (suc i) all fs (nil_right here (unopened_definitions rs all (flat_map definitions fs)) both)

pub opened_law : (rs : Refinements) (fs : List FileTree) → (unopened_files rs fs ≡ []) ↔ IsOpened rs fs
opened_law rs fs = (to, from)
  where
    ds : List DefinitionTree
    ds = flat_map definitions fs

    to : unopened_files rs fs ≡ [] → IsOpened rs fs
    to h = keeps_none (all_conjunctions rs ds) (λ o a. subst (Has (IsAt o)) (files_none rs 0 (named_bodies ds) fs h) ((told_of_all o rs ds).1 a))

    from : IsOpened rs fs → unopened_files rs fs ≡ []
    from k = none_files rs 0 (named_bodies ds) fs (none_at (unopened_definitions rs (named_bodies ds) ds) (λ o t. none_keeps o (all_conjunctions rs ds) k ((told_of_all o rs ds).0 t)))

-- ---- a literal of a file

module _ (i o : ℕ) where
  abbrev IsPlace : ℕ × ℕ → Type 0
  IsPlace p = p ≡ (i, o)

  numbered-to : (n : ℕ) (os : List ℕ) → Has IsPlace (numbered n os) → (n ≡ i) × Has (IsAt o) os
  numbered-to n [] t = absurd t
  numbered-to n (p ∷ os) (inl e) = (ap (λ (q : ℕ × ℕ). q.0) e, inl (ap (λ (q : ℕ × ℕ). q.1) e))
  numbered-to n (p ∷ os) (inr t) = let r = numbered-to n os t in (r.0, inr r.1)

  numbered-from : (n : ℕ) (os : List ℕ) → n ≡ i → Has (IsAt o) os → Has IsPlace (numbered n os)
  numbered-from n [] e t = absurd t
  numbered-from n (p ∷ os) e (inl same) = inl (ap₂ (λ m q. (m, q)) e same)
  numbered-from n (p ∷ os) e (inr t) = inr (numbered-from n os e t)

  module _ (rs : Refinements) (all : List Named) where
    told_file : (n : ℕ) (fs : List FileTree) → Has IsPlace (unopened_from rs n all fs) → (k : ℕ) × (f : FileTree) × (slice_get fs k ≡ Some f) × (n + k ≡ i) × Has (DemandedOf o rs all) (definitions f)
    told_file n [] t = absurd t
    told_file n (f ∷ fs) t = by (has_cases IsPlace (numbered n (unopened_definitions rs all (definitions f))) (unopened_from rs (suc n) all fs) t) (told_file (suc n) fs)
      where
        by : Has IsPlace (numbered n (unopened_definitions rs all (definitions f))) ⊎ Has IsPlace (unopened_from rs (suc n) all fs)
            → (Has IsPlace (unopened_from rs (suc n) all fs) → (k : ℕ) × (g : FileTree) × (slice_get fs k ≡ Some g) × (suc n + k ≡ i) × Has (DemandedOf o rs all) (definitions g))
            → (k : ℕ) × (g : FileTree) × (slice_get (f ∷ fs) k ≡ Some g) × (n + k ≡ i) × Has (DemandedOf o rs all) (definitions g)
        by (inl a) rest = let r = numbered-to n (unopened_definitions rs all (definitions f)) a in let e = r.0 in (0, f, refl, omega (arith, e), (told_of_some o rs all (definitions f)).0 r.1)
        by (inr b) rest = let r = rest b in let e = r.3 in (suc r.0, r.1, r.2, omega (arith, e), r.4)

    file_told : (n : ℕ) (fs : List FileTree) (k : ℕ) (f : FileTree) → slice_get fs k ≡ Some f → n + k ≡ i → Has (DemandedOf o rs all) (definitions f) → Has IsPlace (unopened_from rs n all fs)
    file_told n [] k f e m a = cc
    file_told n (g ∷ fs) zero f e m a =
        let here = unopened_definitions rs all (definitions g) in
        let same : f ≡ g = cc in
        has_left IsPlace (numbered n here) (unopened_from rs (suc n) all fs) (numbered-from n here (omega (arith, m)) ((told_of_some o rs all (definitions g)).1 (subst (λ (h : FileTree). Has (DemandedOf o rs all) (definitions h)) same a)))
    file_told n (g ∷ fs) (suc k) f e m a = has_right IsPlace (numbered n (unopened_definitions rs all (definitions g))) (unopened_from rs (suc n) all fs) (file_told (suc n) fs k f e (omega (arith, m)) a)

-- a literal that a definition asks for
demanded-to : (o : ℕ) (rs : Refinements) (ds : List DefinitionTree) (d : DefinitionTree) → DemandedOf o rs (named_bodies ds) d → (l : Literal) × Lacks o l × IsDemanded rs ds d l
demanded-to o rs ds d (inl a) = let r = element_of (Lacks o) (literals (body d)) a.1 in (r.0, r.2, inl (a.0, r.1))
demanded-to o rs ds d (inr c) =
    let r = element_of (DemandsOf o) (conjunctions rs (body d)) c in
    let l = element_of (Lacks o) (flat_map literals r.0) r.2.1 in
    (l.0, l.2, inr (r.1.0, r.0, r.1.1, r.1.2, (r.2.0, l.1)))

demanded-from : (o : ℕ) (rs : Refinements) (ds : List DefinitionTree) (d : DefinitionTree) (l : Literal) → Lacks o l → IsDemanded rs ds d l → DemandedOf o rs (named_bodies ds) d
demanded-from o rs ds d l h (inl a) = inl (a.0, has_element (Lacks o) (literals (body d)) l a.1 h)
demanded-from o rs ds d l h (inr c) = inr (has_element (DemandsOf o) (conjunctions rs (body d)) c.1 (c.0, c.2, c.3) (c.4.0, has_element (Lacks o) (flat_map literals c.1) l c.4.1 h))

pub told_law : (rs : Refinements) (fs : List FileTree) (i o : ℕ) → Contains (unopened_files rs fs) (i, o) ↔ IsUnopenedAt rs fs i o
told_law rs fs i o = (to, from)
  where
    ds : List DefinitionTree
    ds = flat_map definitions fs

    to : Contains (unopened_files rs fs) (i, o) → IsUnopenedAt rs fs i o
    to c =
        let f = told_file i o rs (named_bodies ds) 0 fs (has_element (IsPlace i o) (unopened_files rs fs) (i, o) c refl) in
        let d = element_of (DemandedOf o rs (named_bodies ds)) (definitions f.1) f.4 in
        let l = demanded-to o rs ds d.0 d.2 in
        let e = f.3 in
        let same : f.0 ≡ i = omega (arith, e) in
        record { source = f.1; numbered = subst (λ k. slice_get fs k ≡ Some f.1) same f.2; declared = d.0; in_source = d.1; literal = l.0; at_offset = l.1.0; not_opened = l.1.1; demanded = l.2 }

    from : IsUnopenedAt rs fs i o → Contains (unopened_files rs fs) (i, o)
    from a =
        let d = has_element (DemandedOf o rs (named_bodies ds)) (definitions a.source) a.declared a.in_source (demanded-from o rs ds a.declared a.literal (a.at_offset, a.not_opened) a.demanded) in
        let r = element_of (IsPlace i o) (unopened_files rs fs) (file_told i o rs (named_bodies ds) 0 fs i a.source a.numbered (omega arith) d) in
        subst (λ p. Contains (unopened_files rs fs) p) r.2 r.1
