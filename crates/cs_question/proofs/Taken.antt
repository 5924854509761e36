-- What a way that is taken, and what is asked besides, change of a place.
use Rattle.std.proofs.Common.{◌≡◌, ℕ, Bool, true, false, true≢false, ◌⊎◌, inl, inr, List, [], ◌∷◌, Option, Some, None, refl, sym, ap, ◌∙◌, subst}
use Rattle.std.specs.Prelude.{IsSome, IsNone, IfSome, IsSomeAnd, slice_get, ◌<◌, take}
use Rattle.cs_question.proofs.Some.{beq_same}
use Rattle.cs_question.proofs.Listed.{got_taken}
use Rattle.std.specs.List.{list_all, AllZip, AllByRecursion as Each}
use Rattle.cs_document.specs.Document.{Document}
use Rattle.cs_question.specs.declared.nodes.Literal.{Literal}
use Rattle.cs_question.specs.declared.places.Key.{Key}
use Rattle.cs_question.specs.declared.places.Place.{Place}
use Rattle.cs_question.specs.declared.places.Further as further
use Rattle.cs_question.specs.declared.places.Way.{Way}
use Rattle.cs_question.specs.declared.places.Way.TheVariants.{Absent, Present, Optional, Behind}
use Rattle.cs_question.specs.declared.table.Entry.{Entry}
use Rattle.cs_question.specs.Nodes.{Judgement}
use Rattle.cs_question.specs.Asked.{meets, meets_all}
use Rattle.cs_question.specs.Spread.{Spread, SomeOf, HoldsAt, HoldsPlace, HoldsFurther, IsFurther, IsTaken, IsSuch, IsBehind, name_of}
use Rattle.cs_question.specs.Truth.{Truth, IsShut, IsInner}

pub behind_or_not : (w : Way) → IsBehind w ⊎ (IsBehind w → ⊥)
behind_or_not (Absent k) = inr (λ b. b)
behind_or_not (Present k o) = inr (λ b. b)
behind_or_not (Optional k l) = inr (λ b. b)
behind_or_not (Behind o) = inl tt

pub not_behind : (w : Way) → ((o : Option Literal) → w ≡ Behind o → ⊥) → IsBehind w → ⊥
not_behind (Absent k) f b = b
not_behind (Present k o) f b = b
not_behind (Optional k l) f b = b
not_behind (Behind o) f b = f o refl

-- all that is asked of the first is asked of the other, with one literal more
abbrev pub AsksMore : Option Literal → List Literal → List Literal → Type 0
AsksMore o ls ms = (f : Literal → Bool) → list_all f ls ≡ true → IfSome o (λ l. f l ≡ true) → list_all f ms ≡ true

module _ (J : Judgement) (n : ℕ) where
  asked_more : (o : Option Document) (more : Option Literal) (ls ms : List Literal) → AsksMore more ls ms → IfSome o (IsSuch J more) → IfSome o (λ y. IsInner n y × (meets_all J y ls ≡ true)) → IfSome o (λ y. IsInner n y × (meets_all J y ms ≡ true))
  asked_more None more ls ms f such h = tt
  asked_more (Some y) more ls ms f such h = (h.0, f (meets J y) h.1 such)

  -- the same place, with more asked
  pub held_more : (o : Option Document) (p q : Place) (more : Option Literal) → (q.is_needed ≡ true → (p.is_needed ≡ true) ⊎ IsSome o) → (q.is_barred ≡ true → (p.is_barred ≡ true) ⊎ IsNone o) → AsksMore more p.asked.items q.asked.items → IfSome o (IsSuch J more)
      → HoldsAt J n o p → HoldsAt J n o q
  held_more o p q more needed barred f such h = record {
    needed = λ e. elim (needed e) [ inl k ↦ h.needed k | inr k ↦ k ];
    barred = λ e. elim (barred e) [ inl k ↦ h.barred k | inr k ↦ k ];
    asked = asked_more o more p.asked.items q.asked.items f such h.asked;
  }

  pub if_some : {X : Type 0} (P : X → Type 0) (o : Option X) → IsSomeAnd o P → IsSome o × IfSome o P
  if_some P None h = absurd h
  if_some P (Some x) h = (refl, h)

  pub of_none : {X : Type 0} (P : X → Type 0) (o : Option X) → IsNone o → IfSome o P
  of_none P None e = tt
  of_none P (Some x) e = cc

  -- nothing is as a place asks whose question is shut
  pub dead_shut : (entries : List Entry) (t : Truth entries) (o : Option Document) (ls : List Literal) → IsShut entries ls → IsSome o → IfSome o (λ y. IsInner t.n y × (meets_all t.J y ls ≡ true)) → ⊥
  dead_shut entries t None ls shut e h = cc
  dead_shut entries t (Some y) ls shut e h = t.none ls shut y h.0 h.1

  pub both_ends : {X : Type 0} (o : Option X) → IsSome o → IsNone o → ⊥
  both_ends None e f = cc
  both_ends (Some x) e f = cc

  -- ---- further parts

  pub further_more : (f g : further.Further) (more : Option Literal) (y : Document) → (g.is_barred ≡ true → f.is_barred ≡ true) → AsksMore more f.asked.items g.asked.items → IsSuch J more y → IsFurther J n f y → IsFurther J n g y
  further_more f g more y barred asks such h = (not_barred g.is_barred refl, h.1, asks (meets J y) h.2 such)
    where
      not_barred : (b : Bool) → g.is_barred ≡ b → g.is_barred ≡ false
      not_barred false e = e
      not_barred true e = absurd (true≢false (sym (barred e) ∙ h.0))

  pub no_further : (entries : List Entry) (t : Truth entries) (f : further.Further) (more : Option Literal) (ms : List Literal) → AsksMore more f.asked.items ms → IsShut entries ms → (ys : List Document) → Each (IsFurther t.J t.n f) ys → SomeOf (IsSuch t.J more) ys → ⊥
  no_further entries t f more ms asks shut [] h s = s
  no_further entries t f more ms asks shut (y ∷ ys) h (inl s) = t.none ms shut y h.0.1 (asks (meets t.J y) h.0.2 s)
  no_further entries t f more ms asks shut (y ∷ ys) h (inr s) = no_further entries t f more ms asks shut ys h.1 s

  pub barred_further : (f : further.Further) (Q : Document → Type 0) → f.is_barred ≡ true → (ys : List Document) → Each (IsFurther J n f) ys → SomeOf Q ys → ⊥
  barred_further f Q e [] h s = s
  barred_further f Q e (y ∷ ys) h (inl s) = true≢false (sym e ∙ h.0.0)
  barred_further f Q e (y ∷ ys) h (inr s) = barred_further f Q e ys h.1 s

-- nothing is behind all places where no further part is as some way asks
pub none_behind : (J : Judgement) (s : Spread) (ws : List Way) → ((o : Option Literal) → SomeOf (IsSuch J o) s.further → ⊥) → SomeOf (λ way. IsBehind way × IsTaken J s way) ws → ⊥
none_behind J s [] h k = k
none_behind J s (w ∷ ws) h (inl k) = one w k.0 k.1
  where
    one : (w : Way) → IsBehind w → IsTaken J s w → ⊥
    one (Absent key) b taken = b
    one (Present key o) b taken = b
    one (Optional key l) b taken = b
    one (Behind o) b taken = h o taken
none_behind J s (w ∷ ws) h (inr k) = none_behind J s ws h k

-- a value at a place that is as asked
pub held_here : (J : Judgement) (n : ℕ) (o : Option Document) (p : Place) (y : Document) → o ≡ Some y → p.is_barred ≡ false → IsInner n y → meets_all J y p.asked.items ≡ true → HoldsAt J n o p
held_here J n o p y at barred inner met = subst (λ q. HoldsAt J n q p) (sym at) (record { needed = λ e. refl; barred = λ e. absurd (true≢false (sym e ∙ barred)); asked = (inner, met) })

-- a copy of a place
pub held_copy : (J : Judgement) (n : ℕ) (s : Spread) (p q : Place) → q.key ≡ p.key → q.is_needed ≡ p.is_needed → q.is_barred ≡ p.is_barred → q.asked.items ≡ p.asked.items → HoldsPlace J n s p → HoldsPlace J n s q
held_copy J n s p q key needed barred asked h =
    subst (λ k. HoldsAt J n (s.at (name_of k)) q) (sym key)
    (record { needed = λ e. h.needed (sym needed ∙ e); barred = λ e. h.barred (sym barred ∙ e); asked = subst (λ ls. IfSome (s.at (name_of p.key)) (λ y. IsInner n y × (meets_all J y ls ≡ true))) (sym asked) h.asked })

-- copies of elements, where a fact of each element is one of its copy
pub each_cloned : {X : Type 0} (R : X → X → Type 0) (P : X → Type 0) → ((x y : X) → R x y → P x → P y) → (xs ys : List X) → AllZip R xs ys → Each P xs → Each P ys
each_cloned R P f [] [] e h = tt
each_cloned R P f [] (y ∷ ys) e h = absurd e
each_cloned R P f (x ∷ xs) [] e h = absurd e
each_cloned R P f (x ∷ xs) (y ∷ ys) e h = (f x y e.0 h.0, each_cloned R P f xs ys e.1 h.1)

-- nothing is asked of a place yet
pub held_first : (J : Judgement) (n : ℕ) (o : Option Document) (p : Place) → p.is_needed ≡ false → p.is_barred ≡ false → p.asked.items ≡ [] → IfSome o (IsInner n) → HoldsAt J n o p
held_first J n o p needed barred asked h = record { needed = λ e. absurd (true≢false (sym e ∙ needed)); barred = λ e. absurd (true≢false (sym e ∙ barred)); asked = by o h }
  where
    by : (o : Option Document) → IfSome o (IsInner n) → IfSome o (λ y. IsInner n y × (meets_all J y p.asked.items ≡ true))
    by None h = tt
    by (Some y) h = (h, ap (meets_all J y) asked)

-- a rule that isn't met says this of a value that isn't as it asks
pub unmet : (J : Judgement) (l : Literal) (r : ℕ) (y : Document) → l.holds ≡ false → J l.side r y ≡ false → meets J y (record l { rule = r }) ≡ true
unmet J l r y e f = beq_same (J l.side r y) l.holds (f ∙ sym e)

-- a value at a place of a list
pub such_at : (J : Judgement) (ys : List Document) (count place : ℕ) (y : Document) (more : Option Literal) → place < count → slice_get ys place ≡ Some y → IsSuch J more y → IsSomeAnd (slice_get (take count ys) place) (IsSuch J more)
such_at J ys count place y more l got such = subst (λ o. IsSomeAnd o (IsSuch J more)) (sym (got_taken ys count place l ∙ got)) such

-- what is under a key is as a rule that is met asks
pub met_all : (J : Judgement) (l : Literal) (r : ℕ) (m : Literal) (o : Option Document) → l.holds ≡ true → m ≡ record l { rule = r } → IfSome o (λ y. J l.side r y ≡ true) → IfSome o (IsSuch J (Some m))
met_all J l r m None e is h = tt
met_all J l r m (Some y) e is h = subst (λ k. meets J y k ≡ true) (sym is) (beq_same (J l.side r y) l.holds (h ∙ sym e))

pub unmet_one : (J : Judgement) (l : Literal) (y : Document) → l.holds ≡ false → J l.side l.rule y ≡ false → meets J y l ≡ true
unmet_one J l y e f = beq_same (J l.side l.rule y) l.holds (f ∙ sym e)

pub such_under : (J : Judgement) (l : Literal) (o : Option Document) → l.holds ≡ false → IsSomeAnd o (λ y. J l.side l.rule y ≡ false) → IsSomeAnd o (IsSuch J (Some l))
such_under J l None e h = absurd h
such_under J l (Some y) e h = unmet_one J l y e h

pub some_and : {X : Type 0} (P : X → Type 0) (o : Option X) → IsSome o → IfSome o P → IsSomeAnd o P
some_and P None e h = cc
some_and P (Some x) e h = h

pub some_any : (J : Judgement) (o : Option Document) → IsSome o → IsSomeAnd o (IsSuch J None)
some_any J None e = cc
some_any J (Some y) e = tt

pub not_some : {X : Type 0} (P : X → Type 0) (o : Option X) → o ≡ None → IsSomeAnd o P → ⊥
not_some P None e h = h
not_some P (Some x) e h = cc

-- the same place, where nothing can be and nothing is
pub held_barred : (J : Judgement) (n : ℕ) (o : Option Document) (p q : Place) → IsNone o → (q.is_needed ≡ true → p.is_needed ≡ true) → AsksMore None p.asked.items q.asked.items → HoldsAt J n o p → HoldsAt J n o q
held_barred J n o p q none needed asks h = record { needed = λ e. h.needed (needed e); barred = λ e. none; asked = of_none J n (λ y. IsInner n y × (meets_all J y q.asked.items ≡ true)) o none }
