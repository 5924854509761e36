-- What a loop tells of one element after another.
use Rattle.std.proofs.Common.{◌≡◌, ℕ, suc, ◌+◌, ◌<◌, Bool, true, false, List, [], ◌∷◌, ◌++◌, length, get_or, drop, Contains, sym, ap, ◌∙◌, subst, append_assoc, add-one, inl, inr}
use Rattle.std.proofs.Math.Seq.{drop-cons}
use Rattle.std.proofs.lemmas.List.{append-nil}
use Rattle.std.proofs.lemmas.List.Elements.{Contains-push_cases, Contains-get_or}
use Rattle.cs_instance_reasons.specs.CauseLists.{told_from, unless}
use Rattle.cs_instance_reasons.specs.declared.cause.InstanceCause.{InstanceCause}

-- the elements xs, seen as those that are told of: f of each
module _ {X Y : Type 0} (view : List Y → List X) (f : Y → X) (cons : (y : Y) (ys : List Y) → view (y ∷ ys) ≡ f y ∷ view ys) (tell : ℕ → X → List InstanceCause) (xs : List Y) (i : ℕ) (d : Y) (found found' whole : List InstanceCause) (l : i < length xs) (before : found ++ told_from tell i (view (drop i xs)) ≡ whole) where
  pub told_next : found' ≡ found ++ tell i (f (get_or xs i d)) → found' ++ told_from tell (i + 1) (view (drop (i + 1) xs)) ≡ whole
  told_next is =
      let x = f (get_or xs i d) in
      let rest = told_from tell (suc i) (view (drop (suc i) xs)) in
      let e : told_from tell i (view (drop i xs)) ≡ tell i x ++ rest = ap (λ ys. told_from tell i (view ys)) (drop-cons xs i d l) ∙ ap (told_from tell i) (cons (get_or xs i d) (drop (suc i) xs)) in
      let done : found' ++ rest ≡ whole = ap (λ t. t ++ rest) is ∙ append_assoc found (tell i x) rest ∙ ap (λ t. found ++ t) (sym e) ∙ before in
      rw add-one done

  pub told_none : tell i (f (get_or xs i d)) ≡ [] → found' ≡ found → found' ++ told_from tell (i + 1) (view (drop (i + 1) xs)) ≡ whole
  told_none none same = told_next (same ∙ sym (append-nil found) ∙ ap (λ t. found ++ t) (sym none))

  pub told_one : (c : InstanceCause) → tell i (f (get_or xs i d)) ≡ c ∷ [] → found' ≡ found ++ c ∷ [] → found' ++ told_from tell (i + 1) (view (drop (i + 1) xs)) ≡ whole
  told_one c one pushed = told_next (pushed ∙ ap (λ t. found ++ t) (sym one))

pub unless_yes : (b : Bool) (c : InstanceCause) → b ≡ true → unless b c ≡ []
unless_yes b c e = ap (λ t. unless t c) e

pub unless_no : (b : Bool) (c : InstanceCause) → b ≡ false → unless b c ≡ c ∷ []
unless_no b c e = ap (λ t. unless t c) e

-- ---- some of a list

abbrev pub AreSomeOf : List InstanceCause → List InstanceCause → Type 0
AreSomeOf xs ys = (c : InstanceCause) → Contains ys c → Contains xs c

pub some_pushed : (xs old new : List InstanceCause) (i : ℕ) (d : InstanceCause) → i < length xs → AreSomeOf xs old → new ≡ old ++ get_or xs i d ∷ [] → AreSomeOf xs new
some_pushed xs old new i d l some is c h =
    elim (Contains-push_cases old (get_or xs i d) c (subst (λ ys. Contains ys c) is h)) [
      | inl k ↦ some c k
      | inr e ↦ subst (Contains xs) e (Contains-get_or xs i d l)
    ]
