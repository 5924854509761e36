-- Lists of faults of a schema's text of which no two are the same.
use Rattle.std.proofs.Common.{◌≡◌, ◌≤◌, length, arith, List, [], ◌∷◌, ◌++◌, Bool, true, false, ◌||◌, refl, sym, ap, subst, ◌∙◌}
use Rattle.std.specs.List.{AllByRecursion, IsDistinct, list_any}
use Rattle.std.proofs.lemmas.Map.Keys.{IsDistinct-cons, IsDistinct-head, IsDistinct-tail}
use Rattle.cs_document.specs.Document.{Document}
use Rattle.cs_profile.specs.declared.fault.SchemaFault.{SchemaFault}
use Rattle.cs_profile.specs.declared.fault.SchemaFault.TheVariants as fault
use Rattle.cs_profile.specs.declared.keyword.Vocabulary.{Vocabulary}
use Rattle.cs_tool.specs.Conversions.{of_schema}
use Rattle.cs_tool.specs.declared.fault.Fault.{Fault}
use Rattle.cs_check.specs.SchemaFaults.{AreDistinctFaults, BeginsWithFaultOf, IsFaultOf, is_of_schema, is_same}
use Rattle.cs_check.proofs.SchemaFaults.{of_schema_told}

each_push : {A : Type 0} (e : A → A → Bool) (x y : A) (xs : List A) → AllByRecursion (λ z. e x z ≡ false) xs → e x y ≡ false → AllByRecursion (λ z. e x z ≡ false) (xs ++ y ∷ [])
each_push e x y [] h k = (k, tt)
each_push e x y (z ∷ zs) h k = (h.0, each_push e x y zs h.1 k)

all_push : {A : Type 0} (P : A → Type 0) (y : A) (xs : List A) → AllByRecursion P xs → P y → AllByRecursion P (xs ++ y ∷ [])
all_push P y [] h k = (k, tt)
all_push P y (z ∷ zs) h k = (h.0, all_push P y zs h.1 k)

none_of : (a b : Bool) → (a || b) ≡ false → (a ≡ false) × (b ≡ false)
none_of false b h = (refl, h)
none_of true b h = cc

-- one more that none of a distinct list is the same as
distinct_push : {A : Type 0} (e : A → A → Bool) (xs : List A) (y : A) → IsDistinct e xs → list_any (λ x. e x y) xs ≡ false → IsDistinct e (xs ++ y ∷ [])
distinct_push e [] y d none = IsDistinct-cons e y [] tt d
distinct_push e (x ∷ xs) y d none =
    let parts = none_of (e x y) (list_any (λ z. e z y) xs) none in
    IsDistinct-cons e x (xs ++ y ∷ []) (each_push e x y xs (IsDistinct-head e x xs d) parts.0) (distinct_push e xs y (IsDistinct-tail e x xs d) parts.1)

-- the lists that code makes: none, one, and one more
nothing_twice : IsDistinct is_same []
unfolding IsDistinct
nothing_twice = tt

pub none_told : (fs : List Fault) → fs ≡ [] → AreDistinctFaults fs
none_told fs none = subst AreDistinctFaults (sym none) (record { told = tt; distinct = nothing_twice })

pub one_told : (f : Fault) (fs : List Fault) → is_of_schema f ≡ true → fs ≡ f ∷ [] → AreDistinctFaults fs
one_told f fs is one = subst AreDistinctFaults (sym one) (record { told = (is, tt); distinct = IsDistinct-cons is_same f [] tt nothing_twice })

pub further_told : (f : Fault) (fs gs : List Fault) → AreDistinctFaults fs → is_of_schema f ≡ true → list_any (λ g. is_same g f) fs ≡ false → gs ≡ fs ++ f ∷ [] → AreDistinctFaults gs
further_told f fs gs before is none pushed = subst AreDistinctFaults (sym pushed) (record { told = all_push (λ g. is_of_schema g ≡ true) f fs before.told is; distinct = distinct_push is_same fs f before.distinct none })

-- one more that a flaw of a document is, and that none of those before it is the same as
pub next_told : (fs gs : List Fault) (f : Fault) (e : SchemaFault) → AreDistinctFaults fs → f ≡ of_schema e → ¬ (e ≡ fault.OutOfMemory) → list_any (λ g. is_same g f) fs ≡ false
    → gs ≡ fs ++ f ∷ [] → AreDistinctFaults gs
next_told fs gs f e before is other none pushed = further_told f fs gs before (ap is_of_schema is ∙ of_schema_told e other) none pushed

-- the first one is that of the document as it was, which no fault was mended of
pub begins_pushed : (v : Vocabulary) (d now : Document) (fs gs : List Fault) (f : Fault) → BeginsWithFaultOf v d fs → (fs ≡ [] → now ≡ d) → IsFaultOf v now f → gs ≡ fs ++ f ∷ []
    → BeginsWithFaultOf v d gs
begins_pushed v d now [] gs f begins whole is pushed = subst (BeginsWithFaultOf v d) (sym pushed) (subst (λ x. IsFaultOf v x f) (whole refl) is)
begins_pushed v d now (x ∷ xs) gs f begins whole is pushed = subst (BeginsWithFaultOf v d) (sym pushed) begins

pub some_pushed : (fs gs : List Fault) (f : Fault) → gs ≡ fs ++ f ∷ [] → ¬ (gs ≡ [])
some_pushed [] gs f pushed none = let e : f ∷ [] ≡ [] = sym pushed ∙ none in absurd (cc e)
some_pushed (x ∷ xs) gs f pushed none = let e : x ∷ (xs ++ f ∷ []) ≡ [] = sym pushed ∙ none in absurd (cc e)

pub few_none : (fs : List Fault) → fs ≡ [] → length fs ≤ 50
few_none fs none = subst (λ gs. length gs ≤ 50) (sym none) (omega arith)
