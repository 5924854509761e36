use Rattle.std.proofs.Common.{◌≡◌, ℕ, zero, suc, ◌+◌, ◌<◌, List, [], ◌∷◌, ◌++◌, Bor, length, get_or, map, take, sym, ap, subst, ◌∙◌, arith}
use Rattle.std.specs.Prelude.{IsUtf8}
use Rattle.std.specs.List.{AllByRecursion}
use Rattle.std.proofs.lemmas.List.{map-append, take_more}
use Rattle.cs_tool.specs.First.{IsFirstOther}
use Rattle.cs_tool.proofs.Places.{inside, at_place, there, one_more}
use Rattle.cs_tool.proofs.packages.texts_of.Goals as goal

all_push : {X : Type 0} (P : X → Type 0) (xs : List X) (x : X) → AllByRecursion P xs → P x → AllByRecursion P (xs ++ x ∷ [])
all_push P [] x all here = (here, tt)
all_push P (y ∷ xs) x all here = (all.0, all_push P xs x all.1 here)

all_there : {X : Type 0} (P : X → Type 0) (xs : List X) (i : ℕ) (d : X) → i < length xs → AllByRecursion P xs → P (get_or xs i d)
all_there P [] i d lt all = absurd (omega arith)
all_there P (x ∷ xs) zero d lt all = all.0
all_there P (x ∷ xs) (suc i) d lt all = all_there P xs i d (omega arith) all.1

module _ {X : Type 0} (f : X → List ℕ) (xs : List X) (i : ℕ) (d : X) (lt : i < length xs) where
  first_other : ¬ (IsUtf8 (f (get_or xs i d))) → AllByRecursion IsUtf8 (take i (map f xs)) → IsFirstOther (map f xs) i
  first_other other before = record { source = f (get_or xs i d); there = there f xs i d lt; other = other; before = before }

  no_other : ¬ (IsUtf8 (f (get_or xs i d))) → ¬ (AllByRecursion IsUtf8 (map f xs))
  no_other other all = other (subst IsUtf8 (at_place f xs i d lt) (all_there IsUtf8 (map f xs) i (f d) (inside f xs i d lt) all))

  utf8_more : IsUtf8 (f (get_or xs i d)) → AllByRecursion IsUtf8 (take i (map f xs)) → AllByRecursion IsUtf8 (take (i + 1) (map f xs))
  utf8_more here before = subst (AllByRecursion IsUtf8) (sym (one_more f xs i d lt)) (all_push IsUtf8 (take i (map f xs)) (f (get_or xs i d)) before here)

  pushed : {Y : Type 0} (g : Y → List ℕ) (ys : List Y) (y : Y) → map g ys ≡ map f (take i xs) → g y ≡ f (get_or xs i d) → map g (ys ++ y ∷ []) ≡ map f (take (i + 1) xs)
  pushed g ys y before here =
      map-append g ys (y ∷ []) ∙ ap (λ zs. zs ++ g y ∷ []) before ∙ ap (λ z. map f (take i xs) ++ z ∷ []) here ∙ sym (map-append f (take i xs) (get_or xs i d ∷ [])) ∙ ap (map f) (sym (take_more xs i d lt))

pub returns-in-Err-clause-refused : goal.returns-in-Err-clause-refused
returns-in-Err-clause-refused c =
    first_other (λ (s : Bor (List ℕ)). s.now) c.args.sources.now c.loop-file.file (record { ref_ptr = (0, 0); now = [] }) c.loop-file-test.true c.in-Err.ensures.cases.0 c.loop-file.invariant.utf8

pub returns-in-Err-clause-only : goal.returns-in-Err-clause-only
returns-in-Err-clause-only c = λ all.
    absurd (no_other (λ (s : Bor (List ℕ)). s.now) c.args.sources.now c.loop-file.file (record { ref_ptr = (0, 0); now = [] }) c.loop-file-test.true c.in-Err.ensures.cases.0 all)

pub loop-file-preserved : goal.loop-file-preserved
loop-file-preserved c =
    let now : Bor (List ℕ) → List ℕ = λ s. s.now in
    let none : Bor (List ℕ) = record { ref_ptr = (0, 0); now = [] } in
    let read = c.in-Ok.ensures.cases in record {
      texts = ap (map now) c.in_ok-push-in-Ok.ensures.items ∙ pushed now c.args.sources.now c.loop-file.file none c.loop-file-test.true now c.loop-file.texts.items c.in-Ok.text c.loop-file.invariant.texts read.0;
      utf8 = utf8_more now c.args.sources.now c.loop-file.file none c.loop-file-test.true read.1 c.loop-file.invariant.utf8;
    }
