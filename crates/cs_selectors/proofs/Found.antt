-- What is found, and what a further selector adds.
use Rattle.std.proofs.Common.{◌≡◌, ℕ, ◌+◌, ◌<◌, true, false, cond, List, [], ◌∷◌, ◌++◌, Option, Some, None, is_some, Result, Ok, Err, map, take, length, get_or, slice_get, refl, sym, ap, ap₂, subst, ◌∙◌, OnOk}
use Rattle.std.specs.List.{list_any}
use Rattle.cs_grammar.specs.Tree.{Tree, DefinitionTree, FileTree}
use Rattle.cs_plain.specs.Bodies.{Body, values_of}
use Rattle.cs_plain.proofs.Folds.{folded_more}
use Rattle.cs_selectors.specs.Checks.{EndsAt, FailsAny, TellsGifts, lack_on, use_view}
use Rattle.cs_selectors.specs.Given as G
use Rattle.cs_selectors.specs.Given.{Path, path, known, given, with_given, with_all}
use Rattle.cs_selectors.specs.Reached.{is_left_out, texts, lack, lack_in, lack_here, values_in, step, or_else}
use Rattle.cs_selectors.specs.Selectors.{AreFew, IsRefusal, at_fault, fault_of, selector_faults}
use Rattle.cs_selectors.specs.Uses.{Place, Use}
use Rattle.cs_selectors.specs.declared.fault.SelectorFault.{SelectorFault}
use Rattle.cs_selectors.specs.declared.fault.SelectorFault.TheVariants as refused
use Rattle.cs_selectors.specs.declared.given.Giving.{Giving}
use Rattle.cs_selectors.specs.declared.lack.Lack.{Lack}
use Rattle.cs_selectors.specs.declared.lack.Lack.TheVariants as lacks
use Rattle.cs_selectors.specs.declared.lack.Stop.{Stop}
use Rattle.cs_selectors.specs.declared.lack.Stop.TheVariants as stops
use Rattle.cs_selectors.specs.declared.uses.Use as rust

-- the fault of the first that is found
pub fails_first : (e : SelectorFault) (x : Place × Lack) (xs : List (Place × Lack)) → FailsAny e (x ∷ []) → slice_get xs 0 ≡ Some x → FailsAny e xs
fails_first refused.OutOfMemory x xs h k = h
fails_first (refused.LeftOut i o) x xs h k = k ∙ h
fails_first (refused.UnknownName i o) x xs h k = k ∙ h
fails_first (refused.NotRegular i o) x xs h k = k ∙ h
fails_first refused.TooLarge x xs h k = h

pub refusal : (e : SelectorFault) (fs : List FileTree) → AreFew fs → FailsAny e (selector_faults fs) → IsRefusal e fs
refusal refused.OutOfMemory fs few h = h
refusal (refused.LeftOut i o) fs few h = (few, h)
refusal (refused.UnknownName i o) fs few h = (few, h)
refusal (refused.NotRegular i o) fs few h = (few, h)
refusal refused.TooLarge fs few h = absurd h

-- where nothing is at fault memory ran out
pub no_fault : (e : SelectorFault) (xs : List (Place × Lack)) → xs ≡ [] → FailsAny e xs → e ≡ refused.OutOfMemory
no_fault refused.OutOfMemory xs none h = refl
no_fault refused.TooLarge xs none h = absurd h
no_fault (refused.LeftOut i o) xs none h = let k : slice_get {X = Place × Lack} [] 0 ≡ Some ((i, o), lacks.LeftOut) = subst (λ ys. slice_get ys 0 ≡ Some ((i, o), lacks.LeftOut)) none h in cc
no_fault (refused.UnknownName i o) xs none h = let k : slice_get {X = Place × Lack} [] 0 ≡ Some ((i, o), lacks.Unknown) = subst (λ ys. slice_get ys 0 ≡ Some ((i, o), lacks.Unknown)) none h in cc
no_fault (refused.NotRegular i o) xs none h = let k : slice_get {X = Place × Lack} [] 0 ≡ Some ((i, o), lacks.NotRegular) = subst (λ ys. slice_get ys 0 ≡ Some ((i, o), lacks.NotRegular)) none h in cc

-- ---- a selector

pub lacking : (bs : List Body) (u : Use) (l : Lack) → lack bs u ≡ Some l → slice_get (fault_of bs u) 0 ≡ Some (u.place, l)
lacking bs u l h = ap (λ o. slice_get (at_fault u.place o) 0) h

pub lacking_nothing : (bs : List Body) (u : Use) → lack bs u ≡ None → fault_of bs u ≡ []
lacking_nothing bs u h = ap (at_fault u.place) h

pub left_out : (bs : List Body) (u : Use) → list_any is_left_out u.labels ≡ true → lack bs u ≡ Some lacks.LeftOut
left_out bs u h = ap (λ b. cond b (Some lacks.LeftOut) (lack_in (values_of u.head bs) (texts u.labels))) h

pub taken_in : (bs : List Body) (u : Use) → list_any is_left_out u.labels ≡ false → lack bs u ≡ lack_on bs (path u)
taken_in bs u h = ap (λ b. cond b (Some lacks.LeftOut) (lack_in (values_of u.head bs) (texts u.labels))) h

pub ends_as : (e : Stop) (o r : Option Lack) → o ≡ r → EndsAt e r → EndsAt e o
ends_as e o r is h = subst (EndsAt e) (sym is) h

-- what is made already lacks nothing
pub known_well : (g : Giving) (all : List DefinitionTree) (bs : List Body) (gs : List G.Given) (p : Path) → TellsGifts g all bs gs → is_some (known gs p) ≡ true → lack_on bs p ≡ None
known_well g all bs gs p told h = by (known gs p) refl h
  where
    by : (o : Option (List ℕ)) → known gs p ≡ o → is_some o ≡ true → lack_on bs p ≡ None
    by None e k = cc
    by (Some s) e k = told.well p s e

module _ (all : List DefinitionTree) (bs : List Body) (gs : List G.Given) (u : Use) where
  pub given_there : is_some (known gs (path u)) ≡ true → with_given all bs gs u ≡ gs
  given_there h = ap (λ b. cond b gs (gs ++ given all bs gs u ∷ [])) h

  pub given_new : is_some (known gs (path u)) ≡ false → with_given all bs gs u ≡ gs ++ given all bs gs u ∷ []
  given_new h = ap (λ b. cond b gs (gs ++ given all bs gs u ∷ [])) h

pub unknown : {X : Type 0} (o : Option X) → is_some o ≡ false → o ≡ None
unknown None h = refl
unknown (Some x) h = cc

pub given_more : (all : List DefinitionTree) (bs : List Body) (gs : List G.Given) (xs : List rust.Use) (i : ℕ) (x : rust.Use) → i < length xs → x ≡ get_or xs i x
    → with_all all bs gs (map use_view (take (i + 1) xs)) ≡ with_given all bs (with_all all bs gs (map use_view (take i xs))) (use_view x)
given_more all bs gs xs i x l is = folded_more (λ ys hs. with_all all bs hs (map use_view ys)) (λ v hs. with_given all bs hs (use_view v)) (λ hs. refl) (λ v vs hs. refl) xs i x gs l is

-- a definition that is made, part by part
abbrev pub made : Path → List ℕ → Place → List Tree → G.Given
made p n h v = record { path = p; name = n; home = h; values = v }

pub same_given : (p q : Path) (n m : List ℕ) (h : Place) (v w : List Tree) → p ≡ q → n ≡ m → v ≡ w → made p n h v ≡ made q m h w
same_given p q n m h v w a b c = cc

pub on_ok : {X Y P Q : Type 0} (r : Result X Y) → OnOk r P → (P → Q) → OnOk r Q
on_ok (Ok x) h f = f h
on_ok (Err e) h f = h

-- ---- label after label

module _ (start : List Tree) (all : List (List ℕ)) (es : List Tree) (ss : List (List ℕ)) (s : List ℕ) (rest : List (List ℕ)) (cut : ss ≡ s ∷ rest) (lacks : lack_in start all ≡ lack_in es ss) where
  pub reached_more : (next : List Tree) → values_in start all ≡ values_in es ss → lack_here s es ≡ None → next ≡ step s es → (lack_in start all ≡ lack_in next rest) × (values_in start all ≡ values_in next rest)
  reached_more next values none is =
      (lacks ∙ ap (lack_in es) cut ∙ ap₂ (λ o fs. or_else o (lack_in fs rest)) none (sym is), values ∙ ap (values_in es) cut ∙ ap (λ fs. values_in fs rest) (sym is))

  pub reached_not : (e : Stop) → EndsAt e (lack_here s es) → EndsAt e (lack_in start all)
  reached_not stops.OutOfMemory h = h
  reached_not (stops.Lacks l) h = lacks ∙ ap (lack_in es) cut ∙ ap (λ o. or_else o (lack_in (step s es) rest)) h
