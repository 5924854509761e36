-- The numbers of definitions, by their places.
use Rattle.std.proofs.Common.{◌≡◌, ℕ, ◌<◌, Bool, true, false, refl, List, Option, Some, None, String, Global, length, get_or, slice_set, bytes_eq, sym, ap, ◌∙◌, subst, true≢false, if◌then◌else◌, arith}
use Rattle.std.specs.Prelude.{slice_get, option_and_then, string_bytes}
use Rattle.std.proofs.lemmas.List.{length-map, get_or-set_same, get_or-set_other}
use Rattle.std.proofs.lemmas.Option.{slice_get_within, same_Some}
use Rattle.std.proofs.lemmas.Slice.Eq.{bytes_eq-Decides}
use Rattle.cs_profile.specs.Numbered.{names_in, number_of_name}
use Rattle.cs_profile.specs.declared.schema.Schema.{Schema}
use Rattle.cs_profile.proofs.Ranked.{named_number, same_read}
use Rattle.cs_validate.specs.Placing.{number_in}

-- a name with the place i
module _ (ds : List (String Global × Schema)) (numbers : List (Option ℕ)) (n : List ℕ) (i : ℕ) (long : length numbers ≡ length ds) (at : number_of_name ds n ≡ Some i) where
  abbrev names : List (List ℕ)
  names = names_in ds

  pub place_within : i < length numbers
  place_within = let l = slice_get_within names i n (named_number names n i at) in omega (arith, l, long, length-map ds (λ (d : String Global × Schema). string_bytes d.0))

  pub number_there : (d : Option ℕ) → get_or numbers i d ≡ number_in (names, numbers) n
  number_there d = same_read numbers i d None place_within ∙ sym (ap (option_and_then (λ j. get_or numbers j None)) at)

  apart : (m : List ℕ) (j : ℕ) → bytes_eq n m ≡ false → number_of_name ds m ≡ Some j → j ≡ i → ⊥
  apart m j e there same =
      let is : m ≡ n = same_Some m n (sym (named_number names m j there) ∙ ap (slice_get names) same ∙ named_number names n i at) in
      true≢false (sym ((bytes_eq-Decides n m).1 (sym is)) ∙ e)

  -- it gets its number
  pub number_set : (k : ℕ) (m : List ℕ) → number_in (names, slice_set numbers i (Some k)) m ≡ (if bytes_eq n m then Some k else number_in (names, numbers) m)
  number_set k m = by (bytes_eq n m) refl (number_of_name ds m) refl
    where
      old : Option ℕ → Option ℕ
      old = option_and_then (λ j. get_or numbers j None)

      new : Option ℕ → Option ℕ
      new = option_and_then (λ j. get_or (slice_set numbers i (Some k)) j None)

      by : (b : Bool) → bytes_eq n m ≡ b → (o : Option ℕ) → number_of_name ds m ≡ o → new (number_of_name ds m) ≡ (if b then Some k else old (number_of_name ds m))
      by true e o q =
          ap new (subst (λ l. number_of_name ds l ≡ Some i) ((bytes_eq-Decides n m).0 e) at) ∙ get_or-set_same numbers i (Some k) None place_within
      by false e None q = ap new q ∙ sym (ap old q)
      by false e (Some j) q = ap new q ∙ get_or-set_other numbers i j (Some k) None (apart m j e q) ∙ sym (ap old q)
