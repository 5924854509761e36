-- The limits of operands, one after the other, and whether a conjunction is an interval.
use Rattle.std.proofs.Common.{◌≡◌, ℕ, ◌+◌, ◌<◌, ◌^◌, ℤ, pos, neg_ℤ, List, [], ◌∷◌, ◌++◌, map, length, take, get_or, Bool, true, false, ◌&&◌, ◌||◌, Option, Some, None, option_to_list, refl, sym, ap, ◌∙◌, subst, arith, if◌then◌else◌}
use Rattle.std.specs.Prelude.{IfSome, FitsSigned, ◌≤ℤ◌, ◌<ℤ◌}
use Rattle.std.specs.Int.{w64, int_max, int_min}
use Rattle.std.specs.List.{list_all, list_any, filter_map, cons_option}
use Rattle.std.proofs.Math.Bool.{and-true, or-false}
use Rattle.std.proofs.lemmas.Int.{ints, clamps}
use Rattle.std.proofs.lemmas.List.{append-nil, map-append}
use Rattle.std.proofs.lemmas.List.Elements.{filter_map-append}
use Rattle.std.proofs.lemmas.List.Folds.{list_all-append, list_all-map, list_all_at, list_any-append}
use Rattle.std.proofs.lemmas.List.Sums.{fold-append}
use Rattle.cs_document.specs.Document.{Document, object}
use Rattle.cs_document.proofs.Maps.{take_at}
use Rattle.cs_package.specs.Expression as cue
use Rattle.cs_package.specs.Expression.{Expression}
use Rattle.cs_package.specs.View.{expressions_of}
use Rattle.cs_instance.proofs.Placed.{operands_of}
use Rattle.cs_compile.specs.Translation.{schema_of, schemas_of, all_of, greatest_of, least_of, are_apart, interval_schema, conjunction_schema, is_interval, lower_limit, upper_limit}

-- one limit more
pub greatest-last : (ns : List ℤ) (o : Option ℤ) → greatest_of (option_to_list (greatest_of ns) ++ option_to_list o) ≡ greatest_of (ns ++ option_to_list o)
greatest-last [] None = refl
greatest-last [] (Some m) = refl
greatest-last (n ∷ ns) None = ap (λ ms. greatest_of (n ∷ ms)) (sym (append-nil ns))
greatest-last (n ∷ ns) (Some m) = ap (λ k. Some k) (sym (fold-append int_max n ns (m ∷ [])))

pub least-last : (ns : List ℤ) (o : Option ℤ) → least_of (option_to_list (least_of ns) ++ option_to_list o) ≡ least_of (ns ++ option_to_list o)
least-last [] None = refl
least-last [] (Some m) = refl
least-last (n ∷ ns) None = ap (λ ms. least_of (n ∷ ms)) (sym (append-nil ns))
least-last (n ∷ ns) (Some m) = ap (λ k. Some k) (sym (fold-append int_min n ns (m ∷ [])))

-- the limits of operands, with those of one more
pub limits-more : {X Y : Type 0} (h : Y → Option ℤ) (view : X → Y) (xs : List X) (i : ℕ) (x : X) → i < length xs → x ≡ get_or xs i x
    → filter_map h (map view (take (i + 1) xs)) ≡ filter_map h (map view (take i xs)) ++ option_to_list (h (view x))
limits-more h view xs i x within is =
    ap (λ ys. filter_map h (map view ys)) (take_at xs i x within is)
    ∙ ap (filter_map h) (map-append view (take i xs) (x ∷ []))
    ∙ filter_map-append h (map view (take i xs)) (view x ∷ [])
    ∙ ap (λ ns. filter_map h (map view (take i xs)) ++ ns) (one (h (view x)))
  where
    one : (o : Option ℤ) → cons_option o [] ≡ option_to_list o
    one None = refl
    one (Some n) = refl

-- whether the operands pass a test, with one more, and where one doesn't
module _ {X Y : Type 0} (p : Y → Bool) (view : X → Y) (xs : List X) (i : ℕ) (x : X) (within : i < length xs) (is : x ≡ get_or xs i x) where
  next : map view (take (i + 1) xs) ≡ map view (take i xs) ++ view x ∷ []
  next = ap (map view) (take_at xs i x within is) ∙ map-append view (take i xs) (x ∷ [])

  pub all-more : list_all p (map view (take (i + 1) xs)) ≡ (list_all p (map view (take i xs)) && p (view x))
  all-more = ap (list_all p) next ∙ list_all-append p (map view (take i xs)) (view x ∷ []) ∙ ap (λ b. list_all p (map view (take i xs)) && b) (and-true (p (view x)))

  pub any-more : list_any p (map view (take (i + 1) xs)) ≡ (list_any p (map view (take i xs)) || p (view x))
  any-more = ap (list_any p) next ∙ list_any-append p (map view (take i xs)) (view x ∷ []) ∙ ap (λ b. list_any p (map view (take i xs)) || b) (or-false (p (view x)))

  pub all-fails : p (view x) ≡ false → list_all p (map view xs) ≡ false
  all-fails e = list_all-map p view xs ∙ list_all_at (λ y. p (view y)) xs i x within (subst (λ y. p (view y) ≡ false) is e)

pub low-greatest : (a b : Option ℤ) (k : ℤ) → IfSome a (λ l. k ≤ℤ l) → IfSome b (λ l. k ≤ℤ l) → IfSome (greatest_of (option_to_list a ++ option_to_list b)) (λ l. k ≤ℤ l)
low-greatest None None k h l = h
low-greatest (Some m) None k h l = h
low-greatest None (Some n) k h l = l
low-greatest (Some m) (Some n) k h l = omega (arith, ints, clamps)

pub high-least : (a b : Option ℤ) (k : ℤ) → IfSome a (λ u. u <ℤ k) → IfSome b (λ u. u <ℤ k) → IfSome (least_of (option_to_list a ++ option_to_list b)) (λ u. u <ℤ k)
high-least None None k h l = h
high-least (Some m) None k h l = h
high-least None (Some n) k h l = l
high-least (Some m) (Some n) k h l = omega (arith, ints, clamps)

-- the upper of limits that are not apart is an integer of 64 signed bits
pub upper_fits : (lower upper : Option ℤ) → are_apart lower upper ≡ false → IfSome lower (λ l. neg_ℤ (pos (2 ^ 63)) ≤ℤ l) → IfSome upper (λ u. u <ℤ pos (2 ^ 63)) → IfSome upper (λ u. FitsSigned w64 u)
upper_fits lower None e low high = tt
upper_fits None (Some u) e low high = grind (arith, ints)
upper_fits (Some l) (Some u) e low high = grind (arith, ints)

-- a conjunction that is an interval, and one that is none
conjoined : (es : List Expression) → schema_of (cue.conjunction (expressions_of es)) ≡ conjunction_schema es (schemas_of (expressions_of es))
conjoined es = ap (λ os. conjunction_schema os (schemas_of (expressions_of es))) (operands_of es)

module _ (es : List Expression) where
  abbrev by_fold : Bool → Document
  by_fold b = if b then interval_schema (greatest_of (filter_map lower_limit es)) (least_of (filter_map upper_limit es)) else object (all_of (schemas_of (expressions_of es)))

  pub folded : is_interval es ≡ true → schema_of (cue.conjunction (expressions_of es)) ≡ interval_schema (greatest_of (filter_map lower_limit es)) (least_of (filter_map upper_limit es))
  folded e = conjoined es ∙ ap by_fold e

  pub unfolded : is_interval es ≡ false → schema_of (cue.conjunction (expressions_of es)) ≡ object (all_of (schemas_of (expressions_of es)))
  unfolded e = conjoined es ∙ ap by_fold e
