-- Declarations of struct literals, of maps that meet them and of maps that don't.
use Rattle.std.proofs.Common.{◌≡◌, ℕ, Bool, true, false, true≢false, not, ◌⊎◌, inl, inr, List, [], ◌∷◌, Option, Some, None, Bor, Contains, cond, map, refl, sym, ap, ◌∙◌, subst}
use Rattle.std.specs.Prelude.{IsSome, IsNone, IfSome, IsSomeAnd}
use Rattle.std.specs.List.{list_all, list_any}
use Rattle.std.specs.Str.{bytes_eq}
use Rattle.std.proofs.lemmas.Bool.{and_parts, cases_Bool}
use Rattle.std.proofs.lemmas.Option.{same_Some}
use Rattle.cs_document.specs.Document.{Document, Members, Entry, entries, under, AreMembers}
use Rattle.cs_package.specs.Expression.{Declaration, is_every}
use Rattle.cs_instance.specs.Constraint.{allows, may_be_absent, value_holds, declaration_holds, fields_hold}
use Rattle.cs_question.specs.Spread.{SomeOf, is_among, others}
use Rattle.cs_question.proofs.Some.{some_false, some_true, some_map, any_from, or_left, beq_same, all_contained}
use Rattle.cs_question.specs.declared.nodes.Literal.{Literal}
use Rattle.cs_question.specs.Nodes.{Judgement}
use Rattle.cs_question.specs.Asked.{meets}
use Rattle.std.proofs.lemmas.Slice.Eq.{bytes_eq-Decides}
use Rattle.cs_question.proofs.Mapped.{key_or_other}

module _ (inside : Document → ℕ → Bool) (ms : List (Entry Document)) (d : Declaration ℕ) where
  pub plain : is_every d.mark ≡ false → declaration_holds inside d ms ≡ value_holds inside d (under d.label ms)
  plain e = ap (λ b. cond b (list_all (λ (m : Entry Document). inside m.1 d.value) ms) (value_holds inside d (under d.label ms))) e

  pub for_all : is_every d.mark ≡ true → declaration_holds inside d ms ≡ list_all (λ (m : Entry Document). inside m.1 d.value) ms
  for_all e = ap (λ b. cond b (list_all (λ (m : Entry Document). inside m.1 d.value) ms) (value_holds inside d (under d.label ms))) e

  value_told : (o : Option Document) → value_holds inside d o ≡ true → IfSome o (λ y. inside y d.value ≡ true) × (may_be_absent d.mark ≡ false → IsSome o)
  value_told None h = (tt, λ e. absurd (true≢false (sym h ∙ e)))
  value_told (Some y) h = (h, λ e. refl)

  -- what a declaration with a label says of what is under it
  pub plain_told : is_every d.mark ≡ false → declaration_holds inside d ms ≡ true → IfSome (under d.label ms) (λ y. inside y d.value ≡ true) × (may_be_absent d.mark ≡ false → IsSome (under d.label ms))
  plain_told e h = value_told (under d.label ms) (sym (plain e) ∙ h)

  value_untold : (o : Option Document) → value_holds inside d o ≡ false → (IsNone o × (may_be_absent d.mark ≡ false)) ⊎ IsSomeAnd o (λ y. inside y d.value ≡ false)
  value_untold None h = inl (refl, h)
  value_untold (Some y) h = inr h

  pub plain_untold : is_every d.mark ≡ false → declaration_holds inside d ms ≡ false → (IsNone (under d.label ms) × (may_be_absent d.mark ≡ false)) ⊎ IsSomeAnd (under d.label ms) (λ y. inside y d.value ≡ false)
  plain_untold e h = value_untold (under d.label ms) (sym (plain e) ∙ h)

all_under : (p : Document → Bool) (k : List ℕ) (ms : List (Entry Document)) → list_all (λ (m : Entry Document). p m.1) ms ≡ true → IfSome (under k ms) (λ y. p y ≡ true)
all_under p k [] h = tt
all_under p k (m ∷ ms) h =
    let parts = and_parts (p m.1) (list_all (λ (e : Entry Document). p e.1) ms) h in
    elim (bytes_eq k m.0) as (λ b. IfSome (cond b (Some m.1) (under k ms)) (λ y. p y ≡ true)) [ true ↦ parts.0 | false ↦ all_under p k ms parts.1 ]

-- `[string]` says the same of what is under each key
pub every_told : (inside : Document → ℕ → Bool) (ms : List (Entry Document)) (d : Declaration ℕ) (k : List ℕ) → is_every d.mark ≡ true → declaration_holds inside d ms ≡ true → IfSome (under k ms) (λ y. inside y d.value ≡ true)
every_told inside ms d k e h = all_under (λ y. inside y d.value) k ms (sym (for_all inside ms d e) ∙ h)

-- where it doesn't hold, the value under a key or another one isn't as asked
pub every_untold : (p : Document → Bool) (ls : List (Bor (List ℕ))) (ms : Members) → AreMembers ms → list_all (λ (m : Entry Document). p m.1) (entries ms) ≡ false
    → SomeOf (λ l. IsSomeAnd (under l.now (entries ms)) (λ y. p y ≡ false)) ls ⊎ SomeOf (λ y. p y ≡ false) (others ls (entries ms))
every_untold p ls ms are h = elim (key_or_other ls ms (λ m. p m.1 ≡ false) are (some_false (λ (m : Entry Document). p m.1) (entries ms) h)) [
  | inl s ↦ inl (some_map _ (λ l. IsSomeAnd (under l.now (entries ms)) (λ y. p y ≡ false)) (λ l f. subst (λ o. IsSomeAnd o (λ y. p y ≡ false)) (sym f.1) f.2) ls s)
  | inr s ↦ inr (some_map _ (λ y. p y ≡ false) (λ y f. f.1) (others ls (entries ms)) s)
]

-- where not all keys are allowed, one of the labels isn't that is there, or another key isn't
pub extra_told : (ds : List (Declaration ℕ)) (ls : List (Bor (List ℕ))) (ms : Members) → AreMembers ms → list_all (λ (m : Entry Document). list_any (λ d. allows d m.0) ds) (entries ms) ≡ false
    → SomeOf (λ l. IsSome (under l.now (entries ms)) × (list_any (λ d. allows d l.now) ds ≡ false)) ls ⊎ SomeOf (λ y. (k : List ℕ) × (list_any (λ d. allows d k) ds ≡ false)) (others ls (entries ms))
extra_told ds ls ms are h = elim (key_or_other ls ms (λ m. list_any (λ d. allows d m.0) ds ≡ false) are (some_false (λ (m : Entry Document). list_any (λ d. allows d m.0) ds) (entries ms) h)) [
  | inl s ↦ inl (some_map _ (λ l. IsSome (under l.now (entries ms)) × (list_any (λ d. allows d l.now) ds ≡ false)) (λ l f. (subst (λ o. IsSome o) (sym f.1) refl, f.2)) ls s)
  | inr s ↦ inr (some_map _ (λ y. (k : List ℕ) × (list_any (λ d. allows d k) ds ≡ false)) (λ y f. f) (others ls (entries ms)) s)
]

-- where some declaration is for every key, each key is allowed
pub every_allows : (ds : List (Declaration ℕ)) (k : List ℕ) → list_any (λ d. is_every d.mark) ds ≡ true → list_any (λ d. allows d k) ds ≡ true
every_allows ds k e = any_from (λ d. allows d k) ds (some_map (λ d. is_every d.mark ≡ true) (λ d. allows d k ≡ true) (λ d f. or_left (is_every d.mark) (bytes_eq k d.label) f) ds (some_true (λ d. is_every d.mark) ds e))

-- a key that isn't allowed, where all are that are there
pub absent : (ds : List (Declaration ℕ)) (k : List ℕ) (ms : List (Entry Document)) → list_all (λ (m : Entry Document). list_any (λ d. allows d m.0) ds) ms ≡ true → list_any (λ d. allows d k) ds ≡ false → IsNone (under k ms)
absent ds k [] h e = refl
absent ds k (m ∷ ms) h e =
    let parts = and_parts (list_any (λ d. allows d m.0) ds) (list_all (λ (n : Entry Document). list_any (λ d. allows d n.0) ds) ms) h in
    elim (cases_Bool (bytes_eq k m.0)) [
      | inl b ↦ absurd (true≢false (sym parts.0 ∙ ap (λ j. list_any (λ d. allows d j) ds) (sym ((bytes_eq-Decides k m.0).0 b)) ∙ e))
      | inr b ↦ subst (λ t. IsNone (cond t (Some m.1) (under k ms))) (sym b) (absent ds k ms parts.1 e)
    ]

-- what is under any key is as `[string]` asks
pub every_met : (J : Judgement) (l v : Literal) (d : Declaration ℕ) (ms : List (Entry Document)) (m : Entry Document) → l.holds ≡ true → v ≡ record l { rule = d.value } → is_every d.mark ≡ true → declaration_holds (λ y p. J l.side p y) d ms ≡ true → Contains ms m → meets J m.1 v ≡ true
every_met J l v d ms m e is mark h there =
    subst (λ k. meets J m.1 k ≡ true) (sym is) (beq_same (J l.side d.value m.1) l.holds (all_contained (λ (n : Entry Document). J l.side d.value n.1) ms m (sym (for_all (λ y p. J l.side p y) ms d mark) ∙ h) there ∙ sym e))
