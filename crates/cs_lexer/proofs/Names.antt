-- Names, names of definitions, and what begins with `_`, at the front of a text.
use Rattle.std.proofs.Common.{◌≡◌, ℕ, zero, suc, ◌+◌, ◌-◌, ◌<◌, ◌≤◌, List, [], ◌∷◌, length, take, drop, get_or, Bool, true, false, cond, None, refl, sym, subst, arith}
use Rattle.std.proofs.Math.Numerals.{one-add, add-one}
use Rattle.std.proofs.lemmas.Bool.Decides.{nat_tests}
use Rattle.std.proofs.lemmas.List.{take_all}
use Rattle.std.specs.Prelude.{◌==◌, ◌&&◌}
use Rattle.std.specs.List.{list_all, prefix_len}
use Rattle.std.specs.Str.{bytes_eq}
use Rattle.std.proofs.lemmas.Bool.{and_parts}
use Rattle.cs_grammar.specs.declared.line.LineState.{LineState}
use Rattle.cs_grammar.specs.declared.token.Sort.TheVariants as sorts
use Rattle.cs_grammar.specs.Spelling.{is_letter, is_name_byte, begins_definition, is_definition_rest, sort_if, underscore_sort, sort_of}
use Rattle.cs_grammar.specs.Cut.{Begins}
use Rattle.cs_grammar.specs.Stuck.{BeginsNone, NoneBegins, nothing}
use Rattle.cs_lexer.specs.Pieces.{Edges, begins_name, begins_definition_name, begins_bottom_rest}
use Rattle.cs_lexer.proofs.Runs.{all_prefix, past_prefix, prefix_within}
use Rattle.cs_lexer.proofs.ByteClasses.{letter_not_digit, letter_not_quote, letter_not_slash, letter_names, definition_names, name_byte_ascii, no_quotes_at, no_comment_at, run_edges, edges_behind}

-- ---- a name

abbrev name_len : List ℕ → ℕ
name_len xs = prefix_len is_name_byte xs

module _ (l : LineState) (x : ℕ) (xs : List ℕ) (letter : is_letter x ≡ true) where
  name_longer : (m : ℕ) → suc (name_len xs) < m → m ≤ length (x ∷ xs) → sort_of (take m (x ∷ xs)) ≡ None
  name_longer zero lt le = let never : ⊥ = omega arith in absurd never
  name_longer (suc m) lt le = rw (letter, past_prefix is_name_byte xs m (omega arith) (omega arith)) refl

  name_begins : Begins l (x ∷ xs) (suc (name_len xs)) sorts.Name
  name_begins = record {
    no_bad_number = rw (letter_not_digit x letter) refl;
    no_quotes = no_quotes_at x xs (letter_not_quote x letter);
    no_comment = no_comment_at x xs (letter_not_slash x letter);
    in_range = refl;
    token = record { within = omega (arith, prefix_within is_name_byte xs); spelled = rw (letter, all_prefix is_name_byte xs) refl; longest = name_longer };
  }

pub name_case : (l : LineState) (bs : List ℕ) → 0 < length bs → is_letter (get_or bs 0 0) ≡ true → (n : ℕ) → n ≡ prefix_len is_name_byte bs → Begins l bs n sorts.Name × Edges bs n
name_case l [] h a n e = let never : ⊥ = omega arith in absurd never
name_case l (x ∷ xs) h a n e =
    let is : prefix_len is_name_byte (x ∷ xs) ≡ suc (name_len xs) = rw (letter_names x a, one-add) refl in
    rw e (rw is (name_begins l x xs a), run_edges is_name_byte name_byte_ascii (x ∷ xs) (omega (arith, is)))

-- ---- the name of a definition

module _ (l : LineState) (y : ℕ) (ys : List ℕ) (good : begins_definition y ≡ true) where
  rest_len : name_len (y ∷ ys) ≡ suc (name_len ys)
  rest_len = rw (definition_names y good, one-add) refl

  rest_good : is_definition_rest (y ∷ take (name_len ys) ys) ≡ true
  rest_good = rw (good, all_prefix is_name_byte ys) refl

  rest_longer : (m : ℕ) → name_len ys < m → m ≤ length ys → is_definition_rest (y ∷ take m ys) ≡ false
  rest_longer m lt le = rw (good, past_prefix is_name_byte ys m lt le) refl

  rest_edges : Edges (y ∷ ys) (suc (name_len ys))
  rest_edges = rw rest_len at (run_edges is_name_byte name_byte_ascii (y ∷ ys) (omega (arith, rest_len)))

  definition_longer : (m : ℕ) → suc (suc (name_len ys)) < m → m ≤ length (35 ∷ y ∷ ys) → sort_of (take m (35 ∷ y ∷ ys)) ≡ None
  definition_longer zero lt le = let never : ⊥ = omega arith in absurd never
  definition_longer (suc zero) lt le = refl
  definition_longer (suc (suc m)) lt le = rw (rest_longer m (omega arith) (omega arith)) refl

  definition_begins : Begins l (35 ∷ y ∷ ys) (suc (suc (name_len ys))) sorts.Definition
  definition_begins = record {
    no_bad_number = refl;
    no_quotes = no_quotes_at 35 (y ∷ ys) refl;
    no_comment = refl;
    in_range = refl;
    token = record { within = omega (arith, prefix_within is_name_byte ys); spelled = rw rest_good refl; longest = definition_longer };
  }

  -- a hidden name, which has a `#` behind its `_`
  hidden_longer : (m : ℕ) → suc (suc (suc (name_len ys))) < m → m ≤ length (95 ∷ 35 ∷ y ∷ ys) → sort_of (take m (95 ∷ 35 ∷ y ∷ ys)) ≡ None
  hidden_longer zero lt le = let never : ⊥ = omega arith in absurd never
  hidden_longer (suc zero) lt le = let never : ⊥ = omega arith in absurd never
  hidden_longer (suc (suc zero)) lt le = refl
  hidden_longer (suc (suc (suc m))) lt le = rw (rest_longer m (omega arith) (omega arith)) refl

  hidden_begins : Begins l (95 ∷ 35 ∷ y ∷ ys) (suc (suc (suc (name_len ys)))) sorts.Hidden
  hidden_begins = record {
    no_bad_number = refl;
    no_quotes = refl;
    no_comment = refl;
    in_range = refl;
    token = record { within = omega (arith, prefix_within is_name_byte ys); spelled = rw rest_good refl; longest = hidden_longer };
  }

-- what is behind the `#` of a name
behind_hash : (P : List ℕ → Type 0) (xs : List ℕ) → begins_definition_name xs ≡ true → ((y : ℕ) (ys : List ℕ) → begins_definition y ≡ true → P (35 ∷ y ∷ ys)) → P xs
behind_hash P [] h k = absurd cc
behind_hash P (x ∷ []) h k = absurd cc
behind_hash P (x ∷ y ∷ ys) h k =
    let p = and_parts (x == 35) (begins_definition y) h in
    let is : x ≡ 35 = grind (arith, nat_tests) in
    rw is (k y ys p.1)

pub definition_case : (l : LineState) (bs : List ℕ) → begins_definition_name bs ≡ true → (n : ℕ) → n ≡ prefix_len is_name_byte (take (length bs - 1) (drop 1 bs)) → Begins l bs (n + 1) sorts.Definition × Edges bs (n + 1)
definition_case l bs h = behind_hash (λ t. (n : ℕ) → n ≡ prefix_len is_name_byte (take (length t - 1) (drop 1 t)) → Begins l t (n + 1) sorts.Definition × Edges t (n + 1)) bs h made
  where
    made : (y : ℕ) (ys : List ℕ) → begins_definition y ≡ true → (n : ℕ) → n ≡ prefix_len is_name_byte (take (length (35 ∷ y ∷ ys) - 1) (drop 1 (35 ∷ y ∷ ys))) → Begins l (35 ∷ y ∷ ys) (n + 1) sorts.Definition × Edges (35 ∷ y ∷ ys) (n + 1)
    made y ys good n e =
        let is : n ≡ suc (name_len ys) = rw (e, take_all (length (35 ∷ y ∷ ys) - 1) (y ∷ ys) (omega arith)) (rest_len l y ys good) in
        rw (is, add-one) (definition_begins l y ys good, rw add-one at (edges_behind 35 (y ∷ ys) (suc (name_len ys)) (omega arith) (rest_edges l y ys good)))

no_definition_rest : (xs : List ℕ) → begins_definition_name (35 ∷ xs) ≡ false → (m : ℕ) → is_definition_rest (take m xs) ≡ false
no_definition_rest xs h zero = refl
no_definition_rest [] h (suc m) = refl
no_definition_rest (y ∷ ys) h (suc m) = rw h refl

definition_none : (xs : List ℕ) → begins_definition_name (35 ∷ xs) ≡ false → BeginsNone (35 ∷ xs)
definition_none xs h zero le = refl
definition_none xs h (suc m) le = rw (no_definition_rest xs h m) refl

pub bad_definition_case : (bs : List ℕ) → 0 < length bs → get_or bs 0 0 ≡ 35 → begins_definition_name bs ≡ false → NoneBegins bs
bad_definition_case [] some is h = let never : ⊥ = omega arith in absurd never
bad_definition_case (x ∷ xs) some is h = subst (λ k. NoneBegins (k ∷ xs)) (sym is) (nothing refl refl (no_comment_at 35 xs refl) (definition_none xs (subst (λ k. begins_definition_name (k ∷ xs) ≡ false) is h)))

-- ---- a hidden name, `_|_` and `_`

module _ (l : LineState) (y : ℕ) (ys : List ℕ) (good : is_name_byte y ≡ true) where
  named_len : name_len (y ∷ ys) ≡ suc (name_len ys)
  named_len = rw (good, one-add) refl

  named_longer : (m : ℕ) → suc (suc (name_len ys)) < m → m ≤ length (95 ∷ y ∷ ys) → sort_of (take m (95 ∷ y ∷ ys)) ≡ None
  named_longer zero lt le = let never : ⊥ = omega arith in absurd never
  named_longer (suc zero) lt le = let never : ⊥ = omega arith in absurd never
  named_longer (suc (suc m)) lt le = rw (good, past_prefix is_name_byte ys m (omega arith) (omega arith)) refl

  named_begins : Begins l (95 ∷ y ∷ ys) (suc (suc (name_len ys))) sorts.Hidden
  named_begins = record {
    no_bad_number = refl;
    no_quotes = no_quotes_at 95 (y ∷ ys) refl;
    no_comment = refl;
    in_range = refl;
    token = record { within = omega (arith, prefix_within is_name_byte ys); spelled = rw (good, all_prefix is_name_byte ys) refl; longest = named_longer };
  }

  named_edges : Edges (y ∷ ys) (suc (name_len ys))
  named_edges = rw named_len at (run_edges is_name_byte name_byte_ascii (y ∷ ys) (omega (arith, named_len)))

pub hidden_name_case : (l : LineState) (xs : List ℕ) → begins_name xs ≡ true → (n : ℕ) → n ≡ prefix_len is_name_byte xs → Begins l (95 ∷ xs) (n + 1) sorts.Hidden × Edges (95 ∷ xs) (n + 1)
hidden_name_case l [] h n e = absurd cc
hidden_name_case l (y ∷ ys) h n e =
    let is : n ≡ suc (name_len ys) = rw e (named_len l y ys h) in
    rw (is, add-one) (named_begins l y ys h, rw add-one at (edges_behind 95 (y ∷ ys) (suc (name_len ys)) (omega arith) (named_edges l y ys h)))

pub hidden_definition_case : (l : LineState) (xs : List ℕ) → begins_definition_name xs ≡ true → (n : ℕ) → n ≡ prefix_len is_name_byte (take (length xs - 1) (drop 1 xs)) → Begins l (95 ∷ xs) (n + 2) sorts.Hidden × Edges (95 ∷ xs) (n + 2)
hidden_definition_case l xs h = behind_hash (λ t. (n : ℕ) → n ≡ prefix_len is_name_byte (take (length t - 1) (drop 1 t)) → Begins l (95 ∷ t) (n + 2) sorts.Hidden × Edges (95 ∷ t) (n + 2)) xs h made
  where
    made : (y : ℕ) (ys : List ℕ) → begins_definition y ≡ true → (n : ℕ) → n ≡ prefix_len is_name_byte (take (length (35 ∷ y ∷ ys) - 1) (drop 1 (35 ∷ y ∷ ys))) → Begins l (95 ∷ 35 ∷ y ∷ ys) (n + 2) sorts.Hidden × Edges (95 ∷ 35 ∷ y ∷ ys) (n + 2)
    made y ys good n e =
        let is : n ≡ suc (name_len ys) = rw (e, take_all (length (35 ∷ y ∷ ys) - 1) (y ∷ ys) (omega arith)) (rest_len l y ys good) in
        let more : n + 2 ≡ suc (suc (suc (name_len ys))) = omega arith in
        let one : Edges (35 ∷ y ∷ ys) (suc (suc (name_len ys))) = rw add-one at (edges_behind 35 (y ∷ ys) (suc (name_len ys)) (omega arith) (rest_edges l y ys good)) in
        rw more (hidden_begins l y ys good, rw add-one at (edges_behind 95 (35 ∷ y ∷ ys) (suc (suc (name_len ys))) (omega arith) one))

bottom_longer : (zs : List ℕ) (m : ℕ) → 3 < m → m ≤ length (95 ∷ 124 ∷ 95 ∷ zs) → sort_of (take m (95 ∷ 124 ∷ 95 ∷ zs)) ≡ None
bottom_longer zs zero lt le = let never : ⊥ = omega arith in absurd never
bottom_longer zs (suc zero) lt le = let never : ⊥ = omega arith in absurd never
bottom_longer zs (suc (suc zero)) lt le = let never : ⊥ = omega arith in absurd never
bottom_longer zs (suc (suc (suc zero))) lt le = let never : ⊥ = omega arith in absurd never
bottom_longer [] (suc (suc (suc (suc m)))) lt le = let never : ⊥ = omega arith in absurd never
bottom_longer (z ∷ zs) (suc (suc (suc (suc m)))) lt le = refl

bottom_begins : (l : LineState) (zs : List ℕ) → Begins l (95 ∷ 124 ∷ 95 ∷ zs) 3 sorts.Bottom × Edges (95 ∷ 124 ∷ 95 ∷ zs) 3
bottom_begins l zs = (record { no_bad_number = refl; no_quotes = refl; no_comment = refl; in_range = refl; token = record { within = omega arith; spelled = refl; longest = bottom_longer zs } }, record { some = omega arith; within = omega arith; first = omega arith; last = omega arith })

pub bottom_case : (l : LineState) (xs : List ℕ) → begins_bottom_rest xs ≡ true → Begins l (95 ∷ xs) 3 sorts.Bottom × Edges (95 ∷ xs) 3
bottom_case l [] h = absurd cc
bottom_case l (x ∷ []) h = absurd cc
bottom_case l (x ∷ y ∷ ys) h =
    let p = and_parts (x == 124) (y == 95) h in
    let first : x ≡ 124 = grind (arith, nat_tests) in
    let second : y ≡ 95 = grind (arith, nat_tests) in
    rw (first, second) (bottom_begins l ys)

-- none of the longer fronts is a token
top_alone : (y : ℕ) → is_name_byte y ≡ false → underscore_sort (y ∷ []) ≡ None
top_alone y h = rw h (alone (y == 35) (y == 124))
  where
    alone : (b c : Bool) → cond b None (sort_if (c && false) sorts.Bottom) ≡ None
    alone true c = refl
    alone false true = refl
    alone false false = refl

top_before : (y z : ℕ) (ts : List ℕ) → is_name_byte y ≡ false → begins_definition_name (y ∷ z ∷ ts) ≡ false → begins_bottom_rest (y ∷ z ∷ ts) ≡ false → (us : List ℕ) → underscore_sort (y ∷ z ∷ us) ≡ None
top_before y z ts h d b us = rw h (before (y == 35) (begins_definition z) (y == 124) (z == 95) d b (list_all is_name_byte us) (bytes_eq us []))
  where
    before : (h d p q : Bool) → (h && d) ≡ false → (p && q) ≡ false → (r s : Bool) → cond h (sort_if (d && r) sorts.Hidden) (sort_if (p && (q && s)) sorts.Bottom) ≡ None
    before true true p q e f r s = absurd cc
    before true false p q e f r s = refl
    before false d true true e f r s = absurd cc
    before false d true false e f r s = refl
    before false d false q e f r s = refl

top_longer : (xs : List ℕ) → begins_name xs ≡ false → begins_definition_name xs ≡ false → begins_bottom_rest xs ≡ false → (m : ℕ) → 1 < m → m ≤ length (95 ∷ xs) → sort_of (take m (95 ∷ xs)) ≡ None
top_longer xs h d b zero lt le = let never : ⊥ = omega arith in absurd never
top_longer xs h d b (suc zero) lt le = let never : ⊥ = omega arith in absurd never
top_longer [] h d b (suc (suc m)) lt le = let never : ⊥ = omega arith in absurd never
top_longer (y ∷ ys) h d b (suc (suc zero)) lt le = top_alone y h
top_longer (y ∷ []) h d b (suc (suc (suc m))) lt le = let never : ⊥ = omega arith in absurd never
top_longer (y ∷ z ∷ zs) h d b (suc (suc (suc m))) lt le = top_before y z zs h d b (take m zs)

pub top_case : (l : LineState) (xs : List ℕ) → begins_name xs ≡ false → begins_definition_name xs ≡ false → begins_bottom_rest xs ≡ false → Begins l (95 ∷ xs) 1 sorts.Top × Edges (95 ∷ xs) 1
top_case l xs h d b = (record { no_bad_number = refl; no_quotes = no_quotes_at 95 xs refl; no_comment = no_comment_at 95 xs refl; in_range = refl; token = record { within = omega arith; spelled = refl; longest = top_longer xs h d b } }, record { some = omega arith; within = omega arith; first = omega arith; last = omega arith })
