-- Names in order of first declaration.
use Rattle.std.proofs.Common.{◌≡◌, ℕ, Bool, true, false, cond, not, List, [], ◌∷◌, ◌++◌, map, filter, Some, is_some, String, string_bytes, Global, refl, sym, ap, ◌∙◌}
use Rattle.std.specs.Str.{bytes_eq}
use Rattle.std.specs.Map.{keys_of, lookup}
use Rattle.std.specs.String.{string_eq}
use Rattle.std.proofs.lemmas.Slice.Eq.{bytes_eq-Decides}
use Rattle.cs_package.proofs.Environments.{bytes_eq-sym}
use Rattle.indexmap.specs.IndexMap.{insert_entry}
use Rattle.cs_resolve.specs.Declarations.{distinct}
use Rattle.cs_package.specs.View.{names_of}

-- a name put behind the others, unless it is among them
abbrev pub put : List ℕ → List (List ℕ) → List (List ℕ)
put n [] = n ∷ []
put n (m ∷ ms) = cond (bytes_eq n m) (m ∷ ms) (m ∷ put n ms)

pub names_insert : {V : Type 0} (k : String Global) (v : V) (es : List (String Global × V)) → map string_bytes (keys_of (insert_entry string_eq es k v)) ≡ put (string_bytes k) (map string_bytes (keys_of es))
names_insert k v [] = refl
names_insert k v (e ∷ es) =
    elim (bytes_eq (string_bytes k) (string_bytes e.0)) as (λ b. map string_bytes (keys_of (cond b ((e.0, v) ∷ es) (e ∷ insert_entry string_eq es k v))) ≡ cond b (string_bytes e.0 ∷ map string_bytes (keys_of es)) (string_bytes e.0 ∷ put (string_bytes k) (map string_bytes (keys_of es)))) [ true ↦ refl | false ↦ ap (λ r. string_bytes e.0 ∷ r) (names_insert k v es) ]

-- a name that the table has is among them
pub put_there : {V : Type 0} (t : List ℕ) (es : List (String Global × V)) → is_some (lookup (λ k. bytes_eq t (string_bytes k)) es) ≡ true → put t (names_of es) ≡ names_of es
put_there t [] h = cc
put_there t (x ∷ es) h = by (bytes_eq t (string_bytes x.0)) h (put_there t es)
  where
    by : (b : Bool) → is_some (cond b (Some x.1) (lookup (λ k. bytes_eq t (string_bytes k)) es)) ≡ true → (is_some (lookup (λ k. bytes_eq t (string_bytes k)) es) ≡ true → put t (names_of es) ≡ names_of es) → cond b (names_of (x ∷ es)) (string_bytes x.0 ∷ put t (names_of es)) ≡ names_of (x ∷ es)
    by true is later = refl
    by false is later = ap (λ ns. string_bytes x.0 ∷ ns) (later is)

-- names other than y, after one more was put in
other : (y n : List ℕ) (ms : List (List ℕ)) → filter (λ m. not (bytes_eq y m)) (put n ms) ≡ cond (bytes_eq n y) (filter (λ m. not (bytes_eq y m)) ms) (put n (filter (λ m. not (bytes_eq y m)) ms))
other y n [] = by (bytes_eq n y) (bytes_eq-sym y n)
  where
    by : (b : Bool) → bytes_eq y n ≡ b → cond (not (bytes_eq y n)) (n ∷ []) [] ≡ cond b [] (n ∷ [])
    by true e = ap (λ c. cond (not c) (n ∷ []) []) e
    by false e = ap (λ c. cond (not c) (n ∷ []) []) e
other y n (m ∷ ms) = by (bytes_eq n m) (bytes_eq y m) (bytes_eq n y) refl refl refl (other y n ms)
  where
    F : List (List ℕ)
    F = filter (λ m. not (bytes_eq y m)) ms

    by : (a b c : Bool) → bytes_eq n m ≡ a → bytes_eq y m ≡ b → bytes_eq n y ≡ c → filter (λ m. not (bytes_eq y m)) (put n ms) ≡ cond (bytes_eq n y) (filter (λ m. not (bytes_eq y m)) ms) (put n (filter (λ m. not (bytes_eq y m)) ms)) → filter (λ m. not (bytes_eq y m)) (put n (m ∷ ms)) ≡ cond (bytes_eq n y) (filter (λ m. not (bytes_eq y m)) (m ∷ ms)) (put n (filter (λ m. not (bytes_eq y m)) (m ∷ ms)))
    by true b true ea eb ec ih = rw (ea, ec) refl
    by true true false ea eb ec ih = absurd (let e : bytes_eq n y ≡ true = ap (λ k. bytes_eq k y) ((bytes_eq-Decides n m).0 ea) ∙ bytes_eq-sym m y ∙ eb in let f : true ≡ false = sym e ∙ ec in cc)
    by true false false ea eb ec ih = rw (ea, ec, eb) (rw ea refl)
    by false true c ea eb ec ih = rw (ea, eb) ih
    by false false true ea eb ec ih = rw (ea, eb, ec) (ap (λ l. m ∷ l) (rw ec at ih))
    by false false false ea eb ec ih = rw (ea, eb, ec) (rw ea (ap (λ l. m ∷ l) (rw ec at ih)))

pub distinct_push : (xs : List (List ℕ)) (n : List ℕ) → distinct (xs ++ n ∷ []) ≡ put n (distinct xs)
distinct_push [] n = refl
distinct_push (y ∷ xs) n = ap (λ l. y ∷ filter (λ m. not (bytes_eq y m)) l) (distinct_push xs n) ∙ ap (λ l. y ∷ l) (other y n (distinct xs)) ∙ elim (bytes_eq n y) as (λ b. y ∷ cond b (filter (λ m. not (bytes_eq y m)) (distinct xs)) (put n (filter (λ m. not (bytes_eq y m)) (distinct xs))) ≡ cond b (y ∷ filter (λ m. not (bytes_eq y m)) (distinct xs)) (y ∷ put n (filter (λ m. not (bytes_eq y m)) (distinct xs)))) [ true ↦ refl | false ↦ refl ]
