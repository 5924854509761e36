-- Faults of names, and what is refused for the first of them.
use Rattle.std.proofs.Common.{◌≡◌, ℕ, List, [], ◌∷◌, ◌++◌, map, sym, ap, ◌∙◌, subst}
use Rattle.std.proofs.lemmas.Grind.{flat_map-append}
use Rattle.std.proofs.lemmas.List.{map-append}
use Rattle.cs_resolve.specs.Scopes.{Place, NameFault, faults, place_faults}
use Rattle.cs_resolve.specs.Steps.{faults_in, IsNameRefusal}
use Rattle.cs_resolve.specs.declared.fault.ResolveFault.{ResolveFault}
use Rattle.cs_resolve.specs.declared.fault.ResolveFault.TheVariants.{OutOfMemory, UnknownName, FieldReference}

abbrev pub Found : Type 0
Found = List (ℕ × NameFault)

pub faults_in-append : (i : ℕ) (ns : List (List ℕ)) (ps qs : List Place) → faults_in i ns (ps ++ qs) ≡ faults_in i ns ps ++ faults_in i ns qs
faults_in-append i ns ps qs =
    ap (map (λ x. (i, x))) (flat_map-append (place_faults ns) ps qs)
    ∙ map-append (λ (x : NameFault). (i, x)) (faults ns ps) (faults ns qs)

-- ---- refusals

pub refused-same : (e : ResolveFault) (xs ys : Found) → xs ≡ ys → IsNameRefusal e xs → IsNameRefusal e ys
refused-same e xs ys same h = subst (λ zs. IsNameRefusal e zs) same h

-- a fault of the first part comes first
pub refused-left : (e : ResolveFault) (xs ys : Found) → IsNameRefusal e xs → IsNameRefusal e (xs ++ ys)
refused-left OutOfMemory xs ys h = tt
refused-left (UnknownName f o) [] ys h = cc
refused-left (UnknownName f o) (x ∷ xs) ys h = h
refused-left (FieldReference f o) [] ys h = cc
refused-left (FieldReference f o) (x ∷ xs) ys h = h
refused-left _ xs ys h = h

-- the first of the second part, where the first has none
pub refused-right : (e : ResolveFault) (xs ys : Found) → xs ≡ [] → IsNameRefusal e ys → IsNameRefusal e (xs ++ ys)
refused-right e xs ys none h = subst (λ zs. IsNameRefusal e (zs ++ ys)) (sym none) h
