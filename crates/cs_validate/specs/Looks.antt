-- A rule looks at the verdicts on its parts alone.
use Rattle.std.specs.Prelude.{◌≡◌, ℕ, ◌<◌, Bool, true, false, not, ◌&&◌, ◌||◌, List, [], ◌∷◌, drop, Option, Some, None, option_to_list, if◌then◌else◌}
use Rattle.std.proofs.Common.{refl, ap, ap₂}
use Rattle.std.specs.Option.{option_map_or}
use Rattle.std.specs.List.{list_all, list_any, AllByRecursion as Each}
use Rattle.std.specs.Str.{bytes_eq}
use Rattle.cs_document.specs.Document.{Document, Entry, under}
use Rattle.cs_document.specs.Opened.{Opened, a_list, an_object}
use Rattle.cs_document.specs.Inside.{InsideBelow}
use Rattle.cs_document.proofs.Each.{each_map, each_drop, all_same, any_same}
use Rattle.cs_profile.specs.Constraint.{Assertion, valid_by, at_keys, at_other_keys, in_front, behind, valid_by_all, valid_by_any, not_valid_by, Constraint, always, never, conjunction}
use Rattle.cs_profile.specs.Validity.{if_there, front_holds, holds, is_satisfied}
use Rattle.cs_validate.specs.Numbering.{ClaimBelow, PartsBelow}

-- two ways to answer that agree below i, r and m
module _ (i r m : ℕ) (here here' : ℕ → Bool) (inside inside' : ℕ → ℕ → Bool) (h : (d : ℕ) → d < r → here d ≡ here' d) (k : (y p : ℕ) → y < i → p < m → inside y p ≡ inside' y p) where
  there_same : (p : ℕ) → p < m → (l : List ℕ) (ms : List (Entry ℕ)) → Each (λ (e : Entry ℕ). e.1 < i) ms → if_there (λ y. inside y p) (under l ms) ≡ if_there (λ y. inside' y p) (under l ms)
  there_same p q l [] w = refl
  there_same p q l (e ∷ ms) w =
      elim (bytes_eq l e.0) as (λ t. if_there (λ y. inside y p) (if t then Some e.1 else under l ms) ≡ if_there (λ y. inside' y p) (if t then Some e.1 else under l ms)) [
        | true ↦ k e.1 p w.0 q
        | false ↦ there_same p q l ms w.1
      ]

  keys_same : (ps : List (Entry ℕ)) (ms : List (Entry ℕ)) → Each (λ (e : Entry ℕ). e.1 < m) ps → Each (λ (e : Entry ℕ). e.1 < i) ms
      → list_all (λ (p : Entry ℕ). if_there (λ y. inside y p.1) (under p.0 ms)) ps ≡ list_all (λ (p : Entry ℕ). if_there (λ y. inside' y p.1) (under p.0 ms)) ps
  keys_same [] ms b w = refl
  keys_same (p ∷ ps) ms b w = ap₂ ◌&&◌ (there_same p.1 b.0 p.0 ms w) (keys_same ps ms b.1 w)

  others_same : (ks : List (List ℕ)) (p : ℕ) (ms : List (Entry ℕ)) → p < m → Each (λ (e : Entry ℕ). e.1 < i) ms
      → list_all (λ (e : Entry ℕ). list_any (bytes_eq e.0) ks || inside e.1 p) ms ≡ list_all (λ (e : Entry ℕ). list_any (bytes_eq e.0) ks || inside' e.1 p) ms
  others_same ks p [] q w = refl
  others_same ks p (e ∷ ms) q w = ap₂ ◌&&◌ (ap (λ b. list_any (bytes_eq e.0) ks || b) (k e.1 p w.0 q)) (others_same ks p ms q w.1)

  front_same : (ps ys : List ℕ) → Each (λ p. p < m) ps → Each (λ y. y < i) ys → front_holds here inside ps ys ≡ front_holds here' inside' ps ys
  front_same [] ys b w = refl
  front_same (p ∷ ps) [] b w = refl
  front_same (p ∷ ps) (y ∷ ys) b w = ap₂ ◌&&◌ (k y p w.0 b.0) (front_same ps ys b.1 w.1)

  here_same : (ds : List ℕ) → Each (λ d. d < r) ds → Each (λ d. here d ≡ here' d) ds
  here_same = each_map (λ d. d < r) (λ d. here d ≡ here' d) h

  named_same : (o : Option ℕ) → Each (λ d. d < r) (option_to_list o) → option_map_or here o false ≡ option_map_or here' o false
  named_same None b = refl
  named_same (Some d) b = h d b.0

  claim_same : (a : Assertion ℕ ℕ) (d : Document) (x : Opened ℕ) → ClaimBelow r m a → InsideBelow i x → holds here inside a d x ≡ holds here' inside' a d x
  claim_same (valid_by o) d x b w = named_same o b
  claim_same (valid_by_all ds) d x b w = all_same here here' ds (here_same ds b)
  claim_same (valid_by_any ds) d x b w = any_same here here' ds (here_same ds b)
  claim_same (not_valid_by q) d x b w = ap not (h q b)
  claim_same (at_keys ps) d (an_object ms) b w = keys_same ps ms b w
  claim_same (at_other_keys ks p) d (an_object ms) b w = others_same ks p ms b w
  claim_same (in_front ps) d (a_list ys) b w = front_same ps ys b w
  claim_same (behind n p) d (a_list ys) b w =
      all_same (λ y. inside y p) (λ y. inside' y p) (drop n ys) (each_map (λ y. y < i) (λ y. inside y p ≡ inside' y p) (λ y l. k y p l b) (drop n ys) (each_drop (λ y. y < i) n ys w))
  claim_same _ d _ b w = refl

  claims_same : (claims : List (Assertion ℕ ℕ)) (d : Document) (x : Opened ℕ) → Each (ClaimBelow r m) claims → InsideBelow i x → list_all (λ a. holds here inside a d x) claims ≡ list_all (λ a. holds here' inside' a d x) claims
  claims_same [] d x b w = refl
  claims_same (a ∷ claims) d x b w = ap₂ ◌&&◌ (claim_same a d x b.0 w) (claims_same claims d x b.1 w)

  pub numbers_same : (c : Constraint ℕ ℕ) (d : Document) (x : Opened ℕ) → PartsBelow r m c → InsideBelow i x → is_satisfied here inside c d x ≡ is_satisfied here' inside' c d x
  numbers_same always d x b w = refl
  numbers_same never d x b w = refl
  numbers_same (conjunction claims) d x b w = claims_same claims d x b w
