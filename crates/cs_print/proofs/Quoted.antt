-- Texts in quotes, as they are printed.
use Rattle.std.proofs.Common.{◌≡◌, ℕ, suc, ◌/◌, ◌%◌, ◌<◌, ◌≤◌, List, [], ◌∷◌, ◌++◌, length, get_or, Bool, true, false, cond, Option, Some, None, refl, sym, ap, subst, ◌∙◌, append_assoc, append-nil, arith}
use Rattle.std.proofs.Math.Utf8.{encode, encodes, scalar, scalars}
use Rattle.std.proofs.lemmas.Bool.Decides.{nat_tests}
use Rattle.std.proofs.lemmas.Bool.{and_parts}
use Rattle.std.proofs.lemmas.Str.{encodes-chars, scalars-chars, encodes-append, encode_ascii, inside_one}
use Rattle.std.specs.Prelude.{◌==◌, ◌||◌, chars, IsUtf8, nat_lt, nat_le, encode_utf8}
use Rattle.std.specs.List.{list_all, flat_map}
use Rattle.cs_place.specs.Shown.{is_hidden, last_digit, letter_or_digits, quoted_by, quoted}
use Rattle.cs_grammar.specs.declared.token.Sort.TheVariants as sorts
use Rattle.cs_grammar.specs.declared.line.LineState.{LineState}
use Rattle.cs_grammar.specs.declared.line.LineState.TheVariants.{WantsComma}
use Rattle.cs_grammar.specs.Spelling.{is_hex_digit, digit_value, escape_value, is_character, hex_number, numbered, text_value, followed}
use Rattle.cs_grammar.specs.Cut.{begins_quotes}
use Rattle.cs_grammar.specs.TextParts.{IsNumber, TextParts, ends, plain, escape, four, eight}
use Rattle.cs_grammar.specs.Words as W
use Rattle.cs_lexer.proofs.Literals.{plain_step, escape_letter}
use Rattle.cs_lexer.proofs.TextValues.{parts_text}
use Rattle.cs_lexer.proofs.ByteClasses.{no_comment_at}
use Rattle.cs_print.proofs.Fronts.{a_stop, Follows, Front, One, token_front}
use Rattle.cs_print.proofs.Tokens.{Ends, longest, stop_bytes}

-- ---- the parts of a text, a character at a time

kept_parts : (xs ts cs : List ℕ) → list_all (λ x. nat_le 128 x) xs ≡ true → TextParts ts cs → TextParts (xs ++ ts) (xs ++ cs)
kept_parts [] ts cs h k = k
kept_parts (x ∷ xs) ts cs h k =
    let p = and_parts (nat_le 128 x) (list_all (λ y. nat_le 128 y) xs) h in
    let e : (x == 34 || x == 92 || x == 10) ≡ false = grind (arith, nat_tests) in
    plain e (kept_parts xs ts cs p.1 k)

-- the UTF-8 of a character past ASCII has no byte of ASCII
wide_each : (xs : List ℕ) → ((k : ℕ) → k < length xs → 128 ≤ get_or xs k 0) → list_all (λ x. nat_le 128 x) xs ≡ true
wide_each [] h = refl
wide_each (x ∷ xs) h =
    let first : nat_le 128 x ≡ true = let k = h 0 (omega arith) in grind (arith, nat_tests) in
    rw (first, wide_each xs (λ k lt. h (suc k) (omega arith))) refl

wide_bytes : (c : ℕ) → 128 ≤ c → list_all (λ x. nat_le 128 x) (encode c) ≡ true
wide_bytes c h = wide_each (encode c) at
  where
    at : (k : ℕ) → k < length (encode c) → 128 ≤ get_or (encode c) k 0
    at k lt = by (nat_lt (get_or (encode c) k 0) 128) refl
      where
        by : (b : Bool) → nat_lt (get_or (encode c) k 0) 128 ≡ b → 128 ≤ get_or (encode c) k 0
        by true e =
            let low : get_or (encode c) k 0 < 128 = grind (arith, nat_tests) in
            let is : c ≡ get_or (encode c) k 0 = inside_one c [] (encode c) k (sym (append-nil (encode c))) lt low in
            omega (arith, is)
        by false e = grind (arith, nat_tests)

digit_is : (n : ℕ) → (is_hex_digit (last_digit n) ≡ true) × (digit_value (last_digit n) ≡ n % 16) × (last_digit n < 128)
digit_is n = (grind (arith, nat_tests), grind (arith, nat_tests), grind (arith, nat_tests))

number_is : (c : ℕ) → c < 65536 → hex_number 0 (last_digit (c / 4096) ∷ last_digit (c / 256) ∷ last_digit (c / 16) ∷ last_digit c ∷ []) ≡ c
number_is c h = rw ((digit_is (c / 4096)).1, (digit_is (c / 256)).1, (digit_is (c / 16)).1, (digit_is c).1) (omega arith)

-- ---- a character, as it is shown in quotes

ascii_all : (cs : List ℕ) → list_all (λ x. nat_lt x 128) cs ≡ true → encodes cs ≡ cs
ascii_all [] h = refl
ascii_all (c ∷ cs) h =
    let p = and_parts (nat_lt c 128) (list_all (λ x. nat_lt x 128) cs) h in
    let low : c < 128 = let e = p.0 in grind (arith, nat_tests) in
    rw (encode_ascii c low, ascii_all cs p.1) refl

escape_parts : (x c : ℕ) (ts cs : List ℕ) → escape_value x ≡ Some c → x < 128 → c < 128 → TextParts ts cs → TextParts (encodes (92 ∷ x ∷ []) ++ ts) (encode c ++ cs)
escape_parts x c ts cs e low small k = rw (encode_ascii 92 (omega arith), encode_ascii x low, encode_ascii c small) (escape e k)

digits_parts : (c : ℕ) (ts cs : List ℕ) → c < 65536 → is_character c ≡ true → TextParts ts cs → TextParts (encodes (92 ∷ 117 ∷ last_digit (c / 4096) ∷ last_digit (c / 256) ∷ last_digit (c / 16) ∷ last_digit c ∷ []) ++ ts) (encode c ++ cs)
digits_parts c ts cs small good k =
    let a = digit_is (c / 4096) in
    let b = digit_is (c / 256) in
    let d = digit_is (c / 16) in
    let e = digit_is c in
    let n = number_is c small in
    let character : is_character (hex_number 0 (last_digit (c / 4096) ∷ last_digit (c / 256) ∷ last_digit (c / 16) ∷ last_digit c ∷ [])) ≡ true = subst (λ v. is_character v ≡ true) (sym n) good in
    let is : IsNumber (last_digit (c / 4096) ∷ last_digit (c / 256) ∷ last_digit (c / 16) ∷ last_digit c ∷ []) = record { digits = rw (a.0, b.0, d.0, e.0) refl; character = character } in
    rw (encode_ascii 92 (omega arith), encode_ascii 117 (omega arith), encode_ascii _ a.2, encode_ascii _ b.2, encode_ascii _ d.2, encode_ascii _ e.2)
    (subst (λ v. TextParts (92 ∷ 117 ∷ last_digit (c / 4096) ∷ last_digit (c / 256) ∷ last_digit (c / 16) ∷ last_digit c ∷ ts) (encode v ++ cs)) n (four is k))

hidden_small : (c : ℕ) → is_hidden c ≡ true → c < 65536
hidden_small c h = grind (arith, nat_tests)

letter_parts : (c : ℕ) (ts cs : List ℕ) → is_hidden c ≡ true → is_character c ≡ true → TextParts ts cs → TextParts (encodes (92 ∷ letter_or_digits c) ++ ts) (encode c ++ cs)
letter_parts c ts cs h good k = by (c == 10) (c == 13) (c == 9) refl refl refl
  where
    by : (n r t : Bool) → (c == 10) ≡ n → (c == 13) ≡ r → (c == 9) ≡ t → TextParts (encodes (92 ∷ cond n (110 ∷ []) (cond r (114 ∷ []) (cond t (116 ∷ []) (117 ∷ last_digit (c / 4096) ∷ last_digit (c / 256) ∷ last_digit (c / 16) ∷ last_digit c ∷ [])))) ++ ts) (encode c ++ cs)
    by true r t en er et = let is : c ≡ 10 = grind (arith, nat_tests) in subst (λ v. TextParts (encodes (92 ∷ 110 ∷ []) ++ ts) (encode v ++ cs)) (sym is) (escape_parts 110 10 ts cs refl (omega arith) (omega arith) k)
    by false true t en er et = let is : c ≡ 13 = grind (arith, nat_tests) in subst (λ v. TextParts (encodes (92 ∷ 114 ∷ []) ++ ts) (encode v ++ cs)) (sym is) (escape_parts 114 13 ts cs refl (omega arith) (omega arith) k)
    by false false true en er et = let is : c ≡ 9 = grind (arith, nat_tests) in subst (λ v. TextParts (encodes (92 ∷ 116 ∷ []) ++ ts) (encode v ++ cs)) (sym is) (escape_parts 116 9 ts cs refl (omega arith) (omega arith) k)
    by false false false en er et = digits_parts c ts cs (hidden_small c h) good k

plain_parts : (c : ℕ) (ts cs : List ℕ) → is_hidden c ≡ false → (c == 34) ≡ false → (c == 92) ≡ false → TextParts ts cs → TextParts (encodes (c ∷ []) ++ ts) (encode c ++ cs)
plain_parts c ts cs h q b k = by (nat_lt c 128) refl
  where
    by : (a : Bool) → nat_lt c 128 ≡ a → TextParts (encodes (c ∷ []) ++ ts) (encode c ++ cs)
    by true e =
        let low : c < 128 = grind (arith, nat_tests) in
        let p : (c == 34 || c == 92 || c == 10) ≡ false = grind (arith, nat_tests) in
        rw (encode_ascii c low) (plain p k)
    by false e = rw (append-nil (encode c)) (kept_parts (encode c) ts cs (wide_bytes c (grind (arith, nat_tests))) k)

quoted_parts : (c : ℕ) (ts cs : List ℕ) → is_character c ≡ true → TextParts ts cs → TextParts (encodes (quoted_by c) ++ ts) (encode c ++ cs)
quoted_parts c ts cs good k = by (c == 34) (c == 92) (is_hidden c) refl refl refl
  where
    by : (q b h : Bool) → (c == 34) ≡ q → (c == 92) ≡ b → is_hidden c ≡ h → TextParts (encodes (cond q (92 ∷ 34 ∷ []) (cond b (92 ∷ 92 ∷ []) (cond h (92 ∷ letter_or_digits c) (c ∷ [])))) ++ ts) (encode c ++ cs)
    by true b h eq eb eh = let is : c ≡ 34 = grind (arith, nat_tests) in subst (λ v. TextParts (encodes (92 ∷ 34 ∷ []) ++ ts) (encode v ++ cs)) (sym is) (escape_parts 34 34 ts cs refl (omega arith) (omega arith) k)
    by false true h eq eb eh = let is : c ≡ 92 = grind (arith, nat_tests) in subst (λ v. TextParts (encodes (92 ∷ 92 ∷ []) ++ ts) (encode v ++ cs)) (sym is) (escape_parts 92 92 ts cs refl (omega arith) (omega arith) k)
    by false false true eq eb eh = letter_parts c ts cs eh good k
    by false false false eq eb eh = plain_parts c ts cs eh eq eb k

-- ---- a text

scalar_character : (c : ℕ) → scalar c ≡ true → is_character c ≡ true
scalar_character c h = grind (arith, nat_tests)

all_parts : (cs : List ℕ) → scalars cs ≡ true → TextParts (encodes (flat_map quoted_by cs) ++ 34 ∷ []) (encodes cs)
all_parts [] h = ends
all_parts (c ∷ cs) h =
    let p = and_parts (scalar c) (scalars cs) h in
    let is : encodes (flat_map quoted_by (c ∷ cs)) ++ 34 ∷ [] ≡ encodes (quoted_by c) ++ (encodes (flat_map quoted_by cs) ++ 34 ∷ []) =
    ap (λ t. t ++ 34 ∷ []) (encodes-append (quoted_by c) (flat_map quoted_by cs)) ∙ append_assoc (encodes (quoted_by c)) (encodes (flat_map quoted_by cs)) (34 ∷ []) in
    rw is (quoted_parts c (encodes (flat_map quoted_by cs) ++ 34 ∷ []) (encodes cs) (scalar_character c p.0) (all_parts cs p.1))

abbrev body : List ℕ → List ℕ
body s = encodes (flat_map quoted_by (chars s)) ++ 34 ∷ []

body_parts : (s : List ℕ) → IsUtf8 s → TextParts (body s) s
body_parts s h = subst (TextParts (body s)) (encodes-chars s h) (all_parts (chars s) (scalars-chars s h))

-- no text goes on behind its last quote
number_value : (ds : List ℕ) → IsNumber ds → numbered ds ≡ Some (encode_utf8 (hex_number 0 ds))
number_value ds h = rw (h.digits, h.character) refl

none_followed : (o : Option (List ℕ)) → followed o None ≡ None
none_followed None = refl
none_followed (Some c) = refl

longer_none : {xs cs : List ℕ} → TextParts xs cs → (y : ℕ) (ys : List ℕ) → text_value (xs ++ y ∷ ys) ≡ None
unfolding text_value
longer_none ends y ys = refl
longer_none (plain {x} {xs} {cs} h k) y ys = let p = plain_step x h in rw (p.0, p.1, p.2, longer_none k y ys) refl
longer_none (escape {x} {c} {xs} {cs} h k) y ys = let p = escape_letter x c h in rw (p.0, p.1, h, longer_none k y ys) refl
longer_none (four {a} {b} {c} {d} {xs} {cs} h k) y ys = rw (longer_none k y ys) (none_followed (numbered (a ∷ b ∷ c ∷ d ∷ [])))
longer_none (eight {a} {b} {c} {d} {e} {f} {g} {h} {xs} {cs} i k) y ys = rw (longer_none k y ys) (none_followed (numbered (a ∷ b ∷ c ∷ d ∷ e ∷ f ∷ g ∷ h ∷ [])))

text_ends : {xs cs : List ℕ} → TextParts xs cs → Ends a_stop (34 ∷ xs)
text_ends k y ys stop = rw (longer_none k y ys) refl

no_quotes : {xs cs : List ℕ} → TextParts xs cs → (rest : List ℕ) → Follows a_stop rest → begins_quotes ((34 ∷ xs) ++ rest) ≡ false
no_quotes ends [] ok = absurd ok
no_quotes ends (y ∷ ys) ok = rw (stop_bytes y ok).5 refl
no_quotes (plain {x} {xs} {cs} h k) rest ok = second x (xs ++ rest) (plain_step x h).0
  where
    second : (x : ℕ) (ys : List ℕ) → (x == 34) ≡ false → begins_quotes (34 ∷ x ∷ ys) ≡ false
    second x [] e = refl
    second x (y ∷ ys) e = rw e refl
no_quotes (escape {x} {c} {xs} {cs} h k) rest ok = refl
no_quotes (four {a} {b} {c} {d} {xs} {cs} h k) rest ok = refl
no_quotes (eight {a} {b} {c} {d} {e} {f} {g} {h} {xs} {cs} i k) rest ok = refl

text_front : (l : LineState) (xs cs : List ℕ) → TextParts xs cs → Front a_stop (34 ∷ xs) l WantsComma (One (W.quoted cs))
text_front l xs cs k =
    let p = parts_text xs cs k in
    token_front a_stop (34 ∷ xs) l WantsComma sorts.Text (W.quoted cs) refl (λ o. ap (λ v. W.quoted v o) p.1) (λ rest ok. record {
      no_bad_number = refl;
      no_quotes = no_quotes k rest ok;
      no_comment = no_comment_at 34 (xs ++ rest) refl;
      in_range = refl;
      token = longest a_stop (34 ∷ xs) rest sorts.Text p.0 (text_ends k) ok;
    })

pub quoted_front : (s : List ℕ) {l : LineState} → IsUtf8 s → Front a_stop (quoted s) l WantsComma (One (W.quoted s))
quoted_front s {l} h = text_front l (body s) s (body_parts s h)
