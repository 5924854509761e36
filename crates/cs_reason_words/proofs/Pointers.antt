-- Pointers, a character and a step at a time.
use Rattle.std.proofs.Common.{◌≡◌, ◌≢◌, ℕ, suc, ◌<◌, ◌≤◌, List, [], ◌∷◌, ◌++◌, length, get_or, append-nil, append_assoc, ⊎_elim, ◌∙◌, refl, sym, ap, arith, nat_eq, false}
use Rattle.std.proofs.Math.Utf8.{encode}
use Rattle.std.proofs.lemmas.Bool.{cases_lt}
use Rattle.std.proofs.lemmas.Bool.Decides.{nat_tests}
use Rattle.std.proofs.lemmas.Str.{encode_ascii, inside_one}
use Rattle.cs_profile.specs.Places.{escaped_code, escaped}

pub escaped_append : (xs ys : List ℕ) → escaped (xs ++ ys) ≡ escaped xs ++ escaped ys
escaped_append [] ys = refl
escaped_append (x ∷ xs) ys = ap (λ l. escaped_code x ++ l) (escaped_append xs ys) ∙ sym (append_assoc (escaped_code x) (escaped xs) (escaped ys))

is_other : (b n : ℕ) → b ≢ n → nat_eq b n ≡ false
is_other b n other = grind (arith, nat_tests)

plain_code : (c : ℕ) → c ≢ 126 → c ≢ 47 → escaped_code c ≡ c ∷ []
plain_code c no_tilde no_slash = rw (is_other c 126 no_tilde, is_other c 47 no_slash) refl

wide_codes : (bs : List ℕ) → ((k : ℕ) → k < length bs → 128 ≤ get_or bs k 0) → escaped bs ≡ bs
wide_codes [] wide = refl
wide_codes (b ∷ bs) wide =
    let here : 128 ≤ b = wide 0 (omega arith) in
    let later = wide_codes bs (λ k lt. wide (suc k) (omega arith)) in
    rw (plain_code b (omega arith) (omega arith), later) refl

wide_bytes : (c : ℕ) → 128 ≤ c → (k : ℕ) → k < length (encode c) → 128 ≤ get_or (encode c) k 0
wide_bytes c wide k lt = ⊎_elim (λ h. let e = inside_one c [] (encode c) k (sym (append-nil (encode c))) lt h in absurd (omega arith)) (λ h. h) (cases_lt (get_or (encode c) k 0) 128)

-- a character that isn't escaped stands for itself
pub plain_character : (c : ℕ) → c ≢ 126 → c ≢ 47 → escaped (encode c) ≡ encode c
plain_character c no_tilde no_slash =
    ⊎_elim (λ low. rw (encode_ascii c low) (rw (plain_code c no_tilde no_slash) refl)) (λ wide. wide_codes (encode c) (wide_bytes c wide)) (cases_lt c 128)

-- a character more of a key
pub one_more : (place new rest later whole : List ℕ) (c : ℕ) → place ++ escaped rest ≡ whole → rest ≡ encode c ++ later → new ≡ place ++ escaped (encode c) → new ++ escaped later ≡ whole
one_more place new rest later whole c before is put = rw (put, append_assoc place (escaped (encode c)) (escaped later), sym (escaped_append (encode c) later), sym is) before
