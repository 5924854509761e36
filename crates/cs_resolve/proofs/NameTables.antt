-- The numbers of names in a table.
use Rattle.std.proofs.Common.{◌≡◌, ℕ, zero, suc, ◌<◌, Bool, true, ◌||◌, nat_lt, List, [], ◌∷◌, map, length, Some, is_some, slice_get, get_or, String, string_bytes, Global, refl, sym, ap, ◌∙◌, arith}
use Rattle.std.specs.List.{list_any}
use Rattle.std.specs.Map.{keys_of, lookup}
use Rattle.std.specs.Str.{bytes_eq}
use Rattle.std.proofs.lemmas.Bool.{lt-ltb}
use Rattle.std.proofs.lemmas.Map.Made.{is_some-lookup}
use Rattle.std.proofs.lemmas.Option.{same_Some}
use Rattle.cs_package.specs.View.{names_of}

any_mapped : {X Y : Type 0} (p : Y → Bool) (f : X → Y) (xs : List X) → list_any p (map f xs) ≡ list_any (λ x. p (f x)) xs
any_mapped p f [] = refl
any_mapped p f (x ∷ xs) = ap (λ b. p (f x) || b) (any_mapped p f xs)

-- a name is declared where the table has it
pub declared-is : {V : Type 0} (t : List ℕ) (es : List (String Global × V)) → list_any (bytes_eq t) (names_of es) ≡ is_some (lookup (λ k. bytes_eq t (string_bytes k)) es)
declared-is t es = any_mapped (bytes_eq t) string_bytes (keys_of es) ∙ sym (is_some-lookup (λ k. bytes_eq t (string_bytes k)) es)

-- the name at a place, whose number is known
pub name-there : (ns : List (List ℕ)) (i : ℕ) (t : List ℕ) → slice_get ns i ≡ Some t → get_or ns i [] ≡ t
name-there [] i t e = cc
name-there (n ∷ ns) zero t e = same_Some n t e
name-there (n ∷ ns) (suc i) t e = name-there ns i t e

there-below : (ns : List (List ℕ)) (i : ℕ) (t : List ℕ) → slice_get ns i ≡ Some t → i < length ns
there-below [] i t e = cc
there-below (n ∷ ns) zero t e = omega arith
there-below (n ∷ ns) (suc i) t e = let below = there-below ns i t e in omega (arith, below)

pub number-known : (ns : List (List ℕ)) (i : ℕ) (t : List ℕ) → slice_get ns i ≡ Some t → nat_lt i (length ns) ≡ true
number-known ns i t e = lt-ltb i (length ns) (there-below ns i t e)
