-- Definitions without their offsets keep the opening rule where the definitions do.
use Rattle.std.proofs.Common.{◌≡◌, ℕ, ◌+◌, ◌≤◌, Bool, true, false, cond, ◌↔◌, inl, inr, List, [], ◌∷◌, ◌++◌, map, filter, count_by, refl, sym, ap, ap₂, ◌∙◌, subst}
use Rattle.std.specs.List.{AllByRecursion, flat_map}
use Rattle.std.proofs.lemmas.List.Sums.{sum_by-cons}
use Rattle.cs_grammar.specs.declared.ast.FieldMark.{FieldMark}
use Rattle.cs_grammar.specs.declared.ast.FieldMark.TheVariants.{Regular, Optional, Required, Every}
use Rattle.cs_grammar.specs.Tree.{Label, Tree, atom, named, reference, conjunction, disjunction, paren, struct, list, wide, Trees, none, more, Fields, no_field, field, End, closed, any, each, DefinitionTree, definition, body}
use Rattle.cs_print.specs.Printed.{unplaced_mark, unplaced, unplaced_all, unplaced_fields, unplaced_end, unplaced_definition}
use Rattle.cs_resolve.specs.Opening.{Literal, literals, literals_all, literals_fields, literals_end, operands, Declared, one, Named, declared_for, named_fields, named_bodies, covers, values, values_of_each, joined, conjunctions, conjunctions_all, conjunctions_fields, conjunctions_end, all_conjunctions, KeepsRule}
use Rattle.cs_resolve.specs.Plain.{has_literal_or_reference}
use Rattle.cs_resolve.specs.Refinement.{Refinements}
use Rattle.cs_widen.proofs.UnplacedTrees.{behind, same_plain}

-- ---- literals

abbrev unplaced_literal : Literal → Literal
unplaced_literal l = record { at = 0; opened = l.opened }

mutual
  same_literals : (e : Tree) → literals (unplaced e) ≡ map unplaced_literal (literals e)
  same_literals (atom a) = refl
  same_literals (named s o) = refl
  same_literals (reference s o) = refl
  same_literals (conjunction es) = same_literals_all es
  same_literals (disjunction es) = same_literals_all es
  same_literals (paren e) = same_literals e
  same_literals (struct o fs b) = ap (λ ls. record { at = 0; opened = b } ∷ ls) (same_literals_fields fs)
  same_literals (list es end) = behind unplaced_literal (literals_all es) (literals_end end) (same_literals_all es) (same_literals_end end)
  same_literals (wide w) = refl

  same_literals_all : (es : Trees) → literals_all (unplaced_all es) ≡ map unplaced_literal (literals_all es)
  same_literals_all none = refl
  same_literals_all (more e es) = behind unplaced_literal (literals e) (literals_all es) (same_literals e) (same_literals_all es)

  same_literals_fields : (fs : Fields) → literals_fields (unplaced_fields fs) ≡ map unplaced_literal (literals_fields fs)
  same_literals_fields no_field = refl
  same_literals_fields (field l m e fs) = behind unplaced_literal (literals e) (literals_fields fs) (same_literals e) (same_literals_fields fs)

  same_literals_end : (end : End) → literals_end (unplaced_end end) ≡ map unplaced_literal (literals_end end)
  same_literals_end closed = refl
  same_literals_end any = refl
  same_literals_end (each e) = same_literals e

same_literals_of : (es : List Tree) → flat_map literals (map unplaced es) ≡ map unplaced_literal (flat_map literals es)
same_literals_of [] = refl
same_literals_of (e ∷ es) = behind unplaced_literal (literals e) (flat_map literals es) (same_literals e) (same_literals_of es)

-- ---- the rule

abbrev weight : Tree → ℕ
weight e = cond (has_literal_or_reference e) 1 0

same_count : (es : List Tree) → count_by has_literal_or_reference (map unplaced es) ≡ count_by has_literal_or_reference es
same_count [] = refl
same_count (e ∷ es) =
    sum_by-cons weight (unplaced e) (map unplaced es)
    ∙ ap₂ (λ b n. cond b 1 0 + n) (same_plain e) (same_count es)
    ∙ sym (sum_by-cons weight e es)

abbrev Open : List Literal → Type 0
Open ls = AllByRecursion (λ (l : Literal). l.opened ≡ true) ls

still_open : (ls : List Literal) → Open ls → Open (map unplaced_literal ls)
still_open [] h = tt
still_open (l ∷ ls) h = (h.0, still_open ls h.1)

open_before : (ls : List Literal) → Open (map unplaced_literal ls) → Open ls
open_before [] h = tt
open_before (l ∷ ls) h = (h.0, open_before ls h.1)

still_kept : (es : List Tree) → KeepsRule es → KeepsRule (map unplaced es)
still_kept es (inl few) = inl (subst (λ n. n ≤ 1) (sym (same_count es)) few)
still_kept es (inr all) = inr (subst Open (sym (same_literals_of es)) (still_open (flat_map literals es) all))

kept_before : (es : List Tree) → KeepsRule (map unplaced es) → KeepsRule es
kept_before es (inl few) = inl (subst (λ n. n ≤ 1) (same_count es) few)
kept_before es (inr all) = inr (open_before (flat_map literals es) (subst Open (same_literals_of es) all))

-- ---- conjunctions

abbrev pub Keeps : List (List Tree) → Type 0
Keeps cs = AllByRecursion KeepsRule cs

abbrev unplaced_conjunctions : List (List Tree) → List (List Tree)
unplaced_conjunctions cs = map (map unplaced) cs

all_still_kept : (cs : List (List Tree)) → Keeps cs → Keeps (unplaced_conjunctions cs)
all_still_kept [] h = tt
all_still_kept (es ∷ cs) h = (still_kept es h.0, all_still_kept cs h.1)

all_kept_before : (cs : List (List Tree)) → Keeps (unplaced_conjunctions cs) → Keeps cs
all_kept_before [] h = tt
all_kept_before (es ∷ cs) h = (kept_before es h.0, all_kept_before cs h.1)

abbrev unplaced_named : Named → Named
unplaced_named n = record { name = n.name; value = unplaced n.value }

same_operands : (es : Trees) → operands (unplaced_all es) ≡ map unplaced (operands es)
same_operands none = refl
same_operands (more e es) = ap (λ ts. unplaced e ∷ ts) (same_operands es)

same_declared : (l : Label) (m : FieldMark) → declared_for l (unplaced_mark m) ≡ declared_for l m
same_declared l Regular = refl
same_declared l Optional = refl
same_declared l Required = refl
same_declared l (Every o) = refl

same_named : (fs : Fields) → named_fields (unplaced_fields fs) ≡ map unplaced_named (named_fields fs)
same_named no_field = refl
same_named (field l m e fs) = ap₂ (λ (d : Declared) (ns : List Named). record { name = d; value = unplaced e } ∷ ns) (same_declared l m) (same_named fs)

same_named_bodies : (ds : List DefinitionTree) → named_bodies (map unplaced_definition ds) ≡ map unplaced_named (named_bodies ds)
same_named_bodies [] = refl
same_named_bodies (definition s o e ∷ ds) = ap (λ ns. unplaced_named (record { name = one s; value = e }) ∷ ns) (same_named_bodies ds)

-- the first of the values, if it is one, and the others
first_too : (b : Bool) (n : Named) (ns ms : List Named) → map (λ (m : Named). m.value) ms ≡ map unplaced (map (λ (m : Named). m.value) ns)
    → map (λ (m : Named). m.value) (cond b (unplaced_named n ∷ ms) ms) ≡ map unplaced (map (λ (m : Named). m.value) (cond b (n ∷ ns) ns))
first_too true n ns ms rest = ap (λ es. unplaced n.value ∷ es) rest
first_too false n ns ms rest = rest

abbrev of_name : Declared → List Named → List Named
of_name d ns = filter (λ (n : Named). covers n.name d) ns

same_values : (d : Declared) (ns : List Named) → values d (map unplaced_named ns) ≡ map unplaced (values d ns)
same_values d [] = refl
same_values d (n ∷ ns) = first_too (covers n.name d) n (of_name d ns) (of_name d (map unplaced_named ns)) (same_values d ns)

-- the values of the name of each of some
abbrev values_among : List Named → List Named → List (List Tree)
values_among all ns = map (λ (n : Named). values n.name all) ns

same_among : (all ns : List Named) → values_among (map unplaced_named all) (map unplaced_named ns) ≡ unplaced_conjunctions (values_among all ns)
same_among all [] = refl
same_among all (n ∷ ns) = ap₂ (λ es cs. es ∷ cs) (same_values n.name all) (same_among all ns)

same_values_of_each : (ns ms : List Named) → ms ≡ map unplaced_named ns → values_of_each ms ≡ unplaced_conjunctions (values_of_each ns)
same_values_of_each ns ms same = ap values_of_each same ∙ same_among ns ns

-- conjunctions one behind the other
next : {ps qs : List (List Tree)} (cs ds : List (List Tree)) → ps ≡ unplaced_conjunctions cs → qs ≡ unplaced_conjunctions ds
    → ps ++ qs ≡ unplaced_conjunctions (cs ++ ds)
next cs ds p q = behind (map unplaced) cs ds p q

-- those inside the bodies
abbrev inside : Refinements → List DefinitionTree → List (List Tree)
inside rs ds = flat_map (λ d. conjunctions rs (body d)) ds

-- the plain refinements of one are those of the other
module _ (rs qs : Refinements) (same : (es : Trees) → qs (unplaced_all es) ≡ rs es) where
  same_joined : (es : Trees) → joined qs (unplaced_all es) ≡ unplaced_conjunctions (joined rs es)
  same_joined es = ap₂ (λ b ts. cond b [] (ts ∷ [])) (same es) (same_operands es) ∙ by (rs es)
    where
      by : (b : Bool) → cond b [] (map unplaced (operands es) ∷ []) ≡ unplaced_conjunctions (cond b [] (operands es ∷ []))
      by true = refl
      by false = refl

  mutual
    same_conjunctions : (e : Tree) → conjunctions qs (unplaced e) ≡ unplaced_conjunctions (conjunctions rs e)
    same_conjunctions (atom a) = refl
    same_conjunctions (named s o) = refl
    same_conjunctions (reference s o) = refl
    same_conjunctions (conjunction es) = next (joined rs es) (conjunctions_all rs es) (same_joined es) (same_conjunctions_all es)
    same_conjunctions (disjunction es) = same_conjunctions_all es
    same_conjunctions (paren e) = same_conjunctions e
    same_conjunctions (struct o fs b) =
        let own = same_values_of_each (named_fields fs) (named_fields (unplaced_fields fs)) (same_named fs) in
        next (values_of_each (named_fields fs)) (conjunctions_fields rs fs) own (same_conjunctions_fields fs)
    same_conjunctions (list es end) =
        next (conjunctions_all rs es) (conjunctions_end rs end) (same_conjunctions_all es) (same_conjunctions_end end)
    same_conjunctions (wide w) = refl

    same_conjunctions_all : (es : Trees) → conjunctions_all qs (unplaced_all es) ≡ unplaced_conjunctions (conjunctions_all rs es)
    same_conjunctions_all none = refl
    same_conjunctions_all (more e es) = next (conjunctions rs e) (conjunctions_all rs es) (same_conjunctions e) (same_conjunctions_all es)

    same_conjunctions_fields : (fs : Fields) → conjunctions_fields qs (unplaced_fields fs) ≡ unplaced_conjunctions (conjunctions_fields rs fs)
    same_conjunctions_fields no_field = refl
    same_conjunctions_fields (field l m e fs) =
        next (conjunctions rs e) (conjunctions_fields rs fs) (same_conjunctions e) (same_conjunctions_fields fs)

    same_conjunctions_end : (end : End) → conjunctions_end qs (unplaced_end end) ≡ unplaced_conjunctions (conjunctions_end rs end)
    same_conjunctions_end closed = refl
    same_conjunctions_end any = refl
    same_conjunctions_end (each e) = same_conjunctions e

  -- ---- definitions

  same_inside : (ds : List DefinitionTree) → inside qs (map unplaced_definition ds) ≡ unplaced_conjunctions (inside rs ds)
  same_inside [] = refl
  same_inside (definition s o e ∷ ds) = next (conjunctions rs e) (inside rs ds) (same_conjunctions e) (same_inside ds)

  same_all : (ds : List DefinitionTree) → all_conjunctions qs (map unplaced_definition ds) ≡ unplaced_conjunctions (all_conjunctions rs ds)
  same_all ds =
      let names = same_values_of_each (named_bodies ds) (named_bodies (map unplaced_definition ds)) (same_named_bodies ds) in
      next (values_of_each (named_bodies ds)) (inside rs ds) names (same_inside ds)

  pub same_rule : (ds : List DefinitionTree) → Keeps (all_conjunctions qs (map unplaced_definition ds)) ↔ Keeps (all_conjunctions rs ds)
  same_rule ds = (
    λ h. all_kept_before (all_conjunctions rs ds) (subst Keeps (same_all ds) h),
    λ h. subst Keeps (sym (same_all ds)) (all_still_kept (all_conjunctions rs ds) h),
  )
