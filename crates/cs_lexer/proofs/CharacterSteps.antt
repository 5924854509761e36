-- The characters of a text, one by one.
use Rattle.std.proofs.Common.{◌≡◌, ℕ, suc, ◌<◌, ◌≤◌, List, [], ◌∷◌, ◌++◌, Bool, true, false, cond, length, get_or, append-nil, append_assoc, ⊎_elim, ◌⊎◌, inl, inr, ◌∙◌, refl, sym, ap, arith}
use Rattle.std.proofs.Math.Utf8.{encode}
use Rattle.std.proofs.lemmas.Bool.{cases_lt}
use Rattle.std.proofs.lemmas.Bool.Decides.{nat_tests}
use Rattle.std.proofs.lemmas.Str.{encode_ascii, inside_one, len_utf8_bounds, length-encode}
use Rattle.std.specs.Char.{is_ascii}
use Rattle.std.specs.Prelude.{◌==◌, if◌then◌else◌}
use Rattle.cs_lexer.specs.declared.text.TextState.{TextState}
use Rattle.cs_lexer.specs.declared.text.TextState.TheVariants.{Inside, Escaped, Digits}
use Rattle.cs_lexer.specs.declared.text.TextStep.{TextStep}
use Rattle.cs_lexer.specs.declared.text.TextStep.TheVariants.{More, Ends, Fails}
use Rattle.cs_grammar.specs.Spelling.{is_hex_digit, is_nothing}
use Rattle.cs_lexer.specs.Automaton.{text_step, character_at, closes, characters}
use Rattle.cs_lexer.specs.Quoted.{begins_quote}

-- the characters that were found and those that follow, where the bytes are the rest of a text
abbrev pub value_behind : List ℕ → TextState → List ℕ → List ℕ
value_behind found s xs = if closes s xs then found ++ characters s xs else []

-- some characters more
more : (found cs : List ℕ) (b c : Bool) (xs ys : List ℕ) → b ≡ c → xs ≡ cs ++ ys → cond b (found ++ xs) [] ≡ cond c ((found ++ cs) ++ ys) []
more found cs b c xs ys same is = rw (same, is, append_assoc found cs ys) refl

-- ---- past ASCII

wide_is : (b n : ℕ) → 128 ≤ b → n < 128 → (b == n) ≡ false
wide_is b n wide low = grind (arith, nat_tests)

wide_goes_on : (b : ℕ) → 128 ≤ b → text_step Inside b ≡ More Inside
wide_goes_on b wide = rw (wide_is b 34 wide (omega arith), wide_is b 92 wide (omega arith), wide_is b 10 wide (omega arith)) refl

wide_stands : (b : ℕ) → 128 ≤ b → character_at Inside b ≡ b ∷ []
wide_stands b wide = rw (wide_is b 92 wide (omega arith)) refl

all_wide : (bs rest : List ℕ) → ((k : ℕ) → k < length bs → 128 ≤ get_or bs k 0) → (closes Inside (bs ++ rest) ≡ closes Inside rest) × (characters Inside (bs ++ rest) ≡ bs ++ characters Inside rest)
all_wide [] rest wide = (refl, refl)
all_wide (b ∷ bs) rest wide =
    let here : 128 ≤ b = wide 0 (omega arith) in
    let later = all_wide bs rest (λ k lt. wide (suc k) (omega arith)) in
    rw (wide_goes_on b here, wide_stands b here) (later.0, ap (λ l. b ∷ l) later.1)

wide_bytes : (c : ℕ) → 128 ≤ c → (k : ℕ) → k < length (encode c) → 128 ≤ get_or (encode c) k 0
wide_bytes c wide k lt = ⊎_elim (λ h. let e = inside_one c [] (encode c) k (sym (append-nil (encode c))) lt h in absurd (omega arith)) (λ h. h) (cases_lt (get_or (encode c) k 0) 128)

-- a character past ASCII stands for itself
pub wide_more : (found : List ℕ) (s : TextState) (c : ℕ) (bs rest behind : List ℕ) → s ≡ Inside → 128 ≤ c → bs ≡ encode c ++ rest → value_behind found s (bs ++ behind) ≡ value_behind (found ++ encode c) s (rest ++ behind)
wide_more found s c bs rest behind inside wide e =
    let h = all_wide (encode c) (rest ++ behind) (wide_bytes c wide) in
    rw (inside, e, append_assoc (encode c) rest behind) (more found (encode c) _ _ _ _ h.0 h.1)

wide_escape : (b : ℕ) → 128 ≤ b → text_step Escaped b ≡ Fails
wide_escape b wide = rw (wide_is b 117 wide (omega arith), wide_is b 85 wide (omega arith), wide_is b 97 wide (omega arith), wide_is b 98 wide (omega arith), wide_is b 102 wide (omega arith), wide_is b 110 wide (omega arith), wide_is b 114 wide (omega arith), wide_is b 116 wide (omega arith), wide_is b 118 wide (omega arith), wide_is b 47 wide (omega arith), wide_is b 92 wide (omega arith), wide_is b 34 wide (omega arith)) refl

wide_hex : (b : ℕ) → 128 ≤ b → is_hex_digit b ≡ false
wide_hex b wide = grind (arith, nat_tests)

first_fails : (s : TextState) (bs rest : List ℕ) → (s ≡ Inside → ⊥) → 0 < length bs → ((k : ℕ) → k < length bs → 128 ≤ get_or bs k 0) → closes s (bs ++ rest) ≡ false
first_fails s [] rest out some wide = absurd (omega arith)
first_fails Inside (b ∷ bs) rest out some wide = absurd (out refl)
first_fails Escaped (b ∷ bs) rest out some wide = rw (wide_escape b (wide 0 (omega arith))) refl
first_fails (Digits left n) (b ∷ bs) rest out some wide = rw (wide_hex b (wide 0 (omega arith))) refl

-- within an escape the text fails there
pub wide_failed : (found : List ℕ) (s : TextState) (c : ℕ) (bs rest behind : List ℕ) → (s ≡ Inside → ⊥) → 128 ≤ c → bs ≡ encode c ++ rest → value_behind found s (bs ++ behind) ≡ []
wide_failed found s c bs rest behind out wide e =
    rw (e, append_assoc (encode c) rest behind, first_fails s (encode c) (rest ++ behind) out (omega (arith, length-encode c, (len_utf8_bounds c).0)) (wide_bytes c wide)) refl

-- ---- in ASCII

pub is_low : (c : ℕ) → is_ascii c ≡ true → c < 128
is_low c h = grind (arith, nat_tests)

-- bytes behind which the last quote stands
ends_late : (rest : List ℕ) → is_nothing (rest ++ 34 ∷ []) ≡ false
ends_late [] = refl
ends_late (x ∷ rest) = refl

pub ascii_over : (found : List ℕ) (s : TextState) (c : ℕ) (bs rest : List ℕ) (step : TextStep) → c < 128 → bs ≡ encode c ++ rest → step ≡ text_step s c → (step ≡ Ends) ⊎ (step ≡ Fails) → value_behind found s (bs ++ 34 ∷ []) ≡ []
ascii_over found s c bs rest step lt e is (inl ends) = rw (e, encode_ascii c lt, sym is ∙ ends, ends_late rest) refl
ascii_over found s c bs rest step lt e is (inr fails) = rw (e, encode_ascii c lt, sym is ∙ fails) refl

pub ascii_more : (found : List ℕ) (s next : TextState) (c : ℕ) (bs rest : List ℕ) (step : TextStep) → c < 128 → bs ≡ encode c ++ rest → step ≡ text_step s c → step ≡ More next → value_behind found s (bs ++ 34 ∷ []) ≡ value_behind (found ++ character_at s c) next (rest ++ 34 ∷ [])
ascii_more found s next c bs rest step lt e is goes = rw (e, encode_ascii c lt, sym is ∙ goes) (more found (character_at s c) _ _ _ _ refl refl)

-- ---- the first quote

pub first_byte : (bs : List ℕ) → begins_quote bs ≡ true → (0 < length bs) × (get_or bs 0 0 < 128)
first_byte [] h = absurd cc
first_byte (b ∷ bs) h = let is : b ≡ 34 = grind (arith, nat_tests) in (omega arith, omega arith)
