-- What chains of causes tell: each rule and value on them is refused, the value is where the ways say, and a leaf refuses it
-- by itself.
use Rattle.std.proofs.Common.{◌≡◌, ℕ, zero, suc, Bool, true, false, List, [], ◌∷◌, ◌++◌, append-nil, Option, Some, refl, sym, ap, ◌∙◌, subst, slice_get, bytes_eq, if◌then◌else◌}
use Rattle.std.proofs.lemmas.Option.{same_Some}
use Rattle.std.proofs.lemmas.Grind.{flat_map-append}
use Rattle.cs_document.specs.Document.{Document, null, boolean, integer, text, list, object, Documents, no_documents, document, Members, no_members, member as entry, elements, entries, under, IsDocument, AreDocuments, AreMembers}
use Rattle.cs_document.specs.Opened.{opened}
use Rattle.cs_rules.specs.Pointers.{Step, key, place, LeadsTo, At}
use Rattle.cs_package.specs.Environment.{Environment}
use Rattle.cs_instance_reasons.specs.Causes.{Cause, part, alternative, member, element, unmet, few, many, no_alternative, missing, extra}
use Rattle.cs_instance.specs.Constraint.{is_satisfied}
use Rattle.cs_instance.specs.Instance.{Rule}
use Rattle.cs_instance.proofs.Members.{ascends}
use Rattle.cs_instance_reasons.specs.Why.{asked_by, Way, to_part, to_alternative, to_member, to_element, way_of, end_of, steps_along, steps_of, IsRefused, whole, next, IsWhy, ReasonsHold}
use Rattle.cs_instance_reasons.proofs.Caused.{refused_for_a_cause}
use Rattle.cs_instance_reasons.proofs.Leaves.{Refuses, refuses, refuses_alone, Points, points}

-- ---- documents inside documents

element_is : (ds : Documents) (i : ℕ) (y : Document) → AreDocuments ds → slice_get (elements ds) i ≡ Some y → IsDocument y
element_is no_documents i y h e = cc
element_is (document d ds) zero y h e = subst IsDocument (same_Some d y e) h.0
element_is (document d ds) (suc i) y h e = element_is ds i y h.1 e

member_is : (ms : Members) (k : List ℕ) (y : Document) → AreMembers ms → under k (entries ms) ≡ Some y → IsDocument y
member_is no_members k y h e = cc
member_is (entry l d ms) k y h e =
    (elim (bytes_eq k l) as (λ b. (if b then Some d else under k (entries ms)) ≡ Some y → IsDocument y) [
      | true ↦ λ f. subst IsDocument (same_Some d y f) h.1
      | false ↦ λ f. member_is ms k y h.2 f
    ]) e

inside_is : (s : Step) (x y : Document) → IsDocument x → LeadsTo s (opened x) y → IsDocument y
inside_is (key k) (object ms) y h l = member_is ms k y h l
inside_is (place n) (list ds) y h l = element_is ds n y h l
inside_is (key k) null y h l = absurd l
inside_is (key k) (boolean b) y h l = absurd l
inside_is (key k) (integer z) y h l = absurd l
inside_is (key k) (text s) y h l = absurd l
inside_is (key k) (list ds) y h l = absurd l
inside_is (place n) null y h l = absurd l
inside_is (place n) (boolean b) y h l = absurd l
inside_is (place n) (integer z) y h l = absurd l
inside_is (place n) (text s) y h l = absurd l
inside_is (place n) (object ms) y h l = absurd l

pub at_is : (ss : List Step) (x y : Document) → IsDocument x → At ss x y → IsDocument y
at_is [] x y h a = subst IsDocument a h
at_is (s ∷ ss) x y h a = at_is ss a.0 y (inside_is s x a.0 h a.1) a.2

pub at_more : (ss ts : List Step) (x y z : Document) → At ss x y → At ts y z → At (ss ++ ts) x z
at_more [] ts x y z a b = subst (λ d. At ts d z) (sym a) b
at_more (s ∷ ss) ts x y z a b = (a.0, a.1, at_more ss ts a.0 y z a.2 b)

-- ---- one cause

-- the two parts of the end of a cause
pub same_end : {A D : Type 0} {r s : D} {x y : A} → ◌≡◌ {A = Option (D × A)} (Some (r, x)) (Some (s, y)) → (r ≡ s) × (x ≡ y)
same_end {r = r} {s = s} {x = x} {y = y} e = let same = same_Some (r, x) (s, y) e in (ap (λ p. p.0) same, ap (λ p. p.1) same)

module _ (I : Rule → Document → Bool) (x y : Document) (s : Rule) where
  moved : (r : Rule) (z : Document) → I r z ≡ false → ◌≡◌ {A = Option (Rule × Document)} (Some (r, z)) (Some (s, y)) → I s y ≡ false
  moved r z f e = let same = same_end e in subst (λ d. I s d ≡ false) same.1 (subst (λ q. I q z ≡ false) same.0 f)

  end_refused : (c : Cause Document Rule Rule) → Refuses (λ q. I q x) (λ z q. I q z) c → end_of x c ≡ Some (s, y) → I s y ≡ false
  end_refused (part k r) f e = moved r x f e
  end_refused (alternative k r) f e = moved r x f e
  end_refused (member j k z r) f e = moved r z f e
  end_refused (element k z r) f e = moved r z f e
  end_refused unmet f e = cc
  end_refused few f e = cc
  end_refused many f e = cc
  end_refused no_alternative f e = cc
  end_refused (missing j) f e = cc
  end_refused (extra k) f e = cc

  end_at : (c : Cause Document Rule Rule) (v : Way) → Points (opened x) c → way_of c ≡ Some v → end_of x c ≡ Some (s, y) → At (steps_along v) x y
  end_at (part k r) v p w e = subst (λ u. At (steps_along u) x y) (same_Some (to_part k) v w) (same_end e).1
  end_at (alternative k r) v p w e = subst (λ u. At (steps_along u) x y) (same_Some (to_alternative k) v w) (same_end e).1
  end_at (member j k z r) v p w e = subst (λ u. At (steps_along u) x y) (same_Some (to_member j k) v w) (z, p, (same_end e).1)
  end_at (element k z r) v p w e = subst (λ u. At (steps_along u) x y) (same_Some (to_element k) v w) (z, p, (same_end e).1)
  end_at unmet v p w e = cc
  end_at few v p w e = cc
  end_at many v p w e = cc
  end_at no_alternative v p w e = cc
  end_at (missing j) v p w e = cc
  end_at (extra k) v p w e = cc

-- ---- chains

module _ (E : Environment) (I : Rule → Document → Bool) (r0 : Rule) (x0 : Document) where
  -- all that a chain leads to is refused
  pub refused_is_false : {w : List Way} {r : Rule} {x : Document} → IsRefused E I r0 x0 w r x → I r x ≡ false
  refused_is_false (whole f) = f
  refused_is_false (next {s = s} {x = x} {y = y} {c = c} h is way end) = end_refused I x y s c (refuses (λ q. I q x) (λ z q. I q z) is) end

  -- and is where its ways say
  pub refused_at : IsDocument x0 → {w : List Way} {r : Rule} {x : Document} → IsRefused E I r0 x0 w r x → At (steps_of w) x0 x
  refused_at d (whole f) = refl
  refused_at d (next {w = w} {s = s} {x = x} {y = y} {c = c} {v = v} h is way end) =
      let before = refused_at d h in
      let one = end_at I x y s c v (points (ascends x (at_is (steps_of w) x0 x d before)) is) way end in
      let same : steps_of (w ++ v ∷ []) ≡ steps_of w ++ steps_along v = flat_map-append steps_along w (v ∷ []) ∙ ap (λ t. steps_of w ++ t) (append-nil (steps_along v)) in
      rw same (at_more (steps_of w) (steps_along v) x0 x y before one)

  -- a reason: its value is there, it is refused, and so it is whatever its parts are
  pub why_is_false : {w : List Way} {r : Rule} {x : Document} {c : Cause Document Rule Rule} → IsWhy E I r0 x0 w r x c → I r x ≡ false
  why_is_false h = refused_is_false h.refused

  pub why_at : IsDocument x0 → {w : List Way} {r : Rule} {x : Document} {c : Cause Document Rule Rule} → IsWhy E I r0 x0 w r x c → At (steps_of w) x0 x
  why_at d h = refused_at d h.refused

  pub why_alone : {w : List Way} {r : Rule} {x : Document} {c : Cause Document Rule Rule} → IsWhy E I r0 x0 w r x c → (here : Rule → Bool) (inside : Document → Rule → Bool) → is_satisfied here inside (asked_by E r) (opened x) ≡ false
  why_alone h here inside = refuses_alone h.cause h.leaf here inside

  pub refused_from_whole : {w : List Way} {r : Rule} {x : Document} → IsRefused E I r0 x0 w r x → I r0 x0 ≡ false
  refused_from_whole (whole f) = f
  refused_from_whole (next h is way end) = refused_from_whole h

pub reasons_hold : (E : Environment) → ReasonsHold E
reasons_hold E = record {
  told = λ I instance r0 x0 d w r x c h. record { whole = refused_from_whole E I r0 x0 h.refused; there = why_at E I r0 x0 d h; refused = why_is_false E I r0 x0 h; alone = why_alone E I r0 x0 h };
  caused = refused_for_a_cause E;
}
