-- Names as texts: of which bytes they are, and the names of definitions that are made of them.
use Rattle.std.proofs.Common.{◌≡◌, ◌≢◌, ◌⊎◌, inl, inr, ℕ, zero, suc, ◌+◌, ◌/◌, ◌%◌, ◌<◌, Bool, true, false, ◌||◌, ◌&&◌, nat_le, nat_lt, cond, List, [], ◌∷◌, ◌++◌, Option, Some, None, is_some, codes, refl, sym, subst, ap, ap₂, ◌∙◌, arith}
use Rattle.std.specs.Fmt.{decimal, digits, digits_onto, digit_glyph}
use Rattle.std.specs.List.{list_all}
use Rattle.std.specs.Prelude.{◌==◌}
use Rattle.std.specs.Str.{bytes_eq}
use Rattle.std.proofs.lemmas.Bool.{eqb-true}
use Rattle.std.proofs.lemmas.Bool.Decides.{nat_tests, Decides-eqb}
use Rattle.std.proofs.lemmas.List.Folds.{list_all-append}
use Rattle.cs_grammar.specs.Spelling.{is_letter, is_digit, is_name_byte, begins_definition, is_definition_rest, is_integer, text_value, mark_sort, sort_if, underscore_sort, sort_of}
use Rattle.cs_grammar.specs.Namable.{IsHiddenName, IsScopeName, IsFileName, IsOperandName}
use Rattle.cs_grammar.specs.Written.{IsName, IsDefinitionName}
use Rattle.cs_grammar.specs.declared.token.Sort.{Sort}
use Rattle.cs_grammar.specs.declared.token.Sort.TheVariants as sorts
use Rattle.cs_names.specs.Having.{is_hidden}
use Rattle.cs_names.specs.Lifted.{drop_byte, bare, as_definition, top_name, inner_name, numbered, first_free, all_numbers, free}
use Rattle.cs_names.specs.Scopes.{begins_hash}

abbrev pub AreNameBytes : List ℕ → Type 0
AreNameBytes s = list_all is_name_byte s ≡ true

-- ---- truth values

pub both_true : (a b : Bool) → a ≡ true → b ≡ true → (a && b) ≡ true
both_true a b p q = ap₂ (λ x y. x && y) p q

pub left_true : (a b : Bool) → (a && b) ≡ true → a ≡ true
left_true true b h = refl
left_true false b h = cc

pub right_true : (a b : Bool) → (a && b) ≡ true → b ≡ true
right_true true b h = h
right_true false b h = cc

some_true : (a b : Bool) → a ≡ true → (a || b) ≡ true
some_true a b h = ap (λ x. x || b) h

begun : (x : ℕ) → begins_definition x ≡ true → is_name_byte x ≡ true
begun x h = by (is_letter x) (is_digit x) (x == 95) h
  where
    by : (a b c : Bool) → (a || c) ≡ true → ((a || b) || c) ≡ true
    by true b c k = refl
    by false true c k = refl
    by false false c k = k

rest_bytes : (s : List ℕ) → is_definition_rest s ≡ true → AreNameBytes s
rest_bytes [] h = refl
rest_bytes (x ∷ xs) h = both_true (is_name_byte x) (list_all is_name_byte xs) (begun x (left_true _ _ h)) (right_true _ _ h)

dropped : (b : ℕ) (s : List ℕ) → AreNameBytes s → AreNameBytes (drop_byte b s)
dropped b [] h = refl
dropped b (x ∷ xs) h = by (x == b)
  where
    by : (c : Bool) → AreNameBytes (cond c xs (x ∷ xs))
    by true = right_true (is_name_byte x) (list_all is_name_byte xs) h
    by false = h

-- ---- by the first byte

-- what the sort of a text is, by its first byte
data SortIs (x : ℕ) (xs : List ℕ) : Option Sort → Type 0 where
  of_letter : is_letter x ≡ true → SortIs x xs (sort_if (list_all is_name_byte xs) sorts.Name)
  of_hash : x ≡ 35 → SortIs x xs (sort_if (is_definition_rest xs) sorts.Definition)
  of_underscore : x ≡ 95 → SortIs x xs (underscore_sort xs)
  of_digit : SortIs x xs (sort_if (is_integer (x ∷ xs)) sorts.Integer)
  of_quote : SortIs x xs (sort_if (is_some (text_value xs)) sorts.Text)
  of_mark : SortIs x xs (mark_sort (x ∷ xs))

sort_is : (x : ℕ) (xs : List ℕ) → SortIs x xs (sort_of (x ∷ xs))
sort_is x xs = letter (is_letter x) refl
  where
    quote : (b : Bool) → SortIs x xs (cond b (sort_if (is_some (text_value xs)) sorts.Text) (mark_sort (x ∷ xs)))
    quote true = of_quote
    quote false = of_mark

    digit : (b : Bool) → SortIs x xs (cond b (sort_if (is_integer (x ∷ xs)) sorts.Integer) (cond (x == 34) (sort_if (is_some (text_value xs)) sorts.Text) (mark_sort (x ∷ xs))))
    digit true = of_digit
    digit false = quote (x == 34)

    underscore : (b : Bool) → (x == 95) ≡ b
        → SortIs x xs (cond b (underscore_sort xs) (cond (is_digit x) (sort_if (is_integer (x ∷ xs)) sorts.Integer) (cond (x == 34) (sort_if (is_some (text_value xs)) sorts.Text) (mark_sort (x ∷ xs)))))
    underscore true h = of_underscore (eqb-true x 95 h)
    underscore false h = digit (is_digit x)

    hash : (b : Bool) → (x == 35) ≡ b
        → SortIs x xs (cond b (sort_if (is_definition_rest xs) sorts.Definition)
        (cond (x == 95) (underscore_sort xs) (cond (is_digit x) (sort_if (is_integer (x ∷ xs)) sorts.Integer) (cond (x == 34) (sort_if (is_some (text_value xs)) sorts.Text) (mark_sort (x ∷ xs))))))
    hash true h = of_hash (eqb-true x 35 h)
    hash false h = underscore (x == 95) refl

    letter : (b : Bool) → is_letter x ≡ b
        → SortIs x xs (cond b (sort_if (list_all is_name_byte xs) sorts.Name) (cond (x == 35) (sort_if (is_definition_rest xs) sorts.Definition)
        (cond (x == 95) (underscore_sort xs) (cond (is_digit x) (sort_if (is_integer (x ∷ xs)) sorts.Integer) (cond (x == 34) (sort_if (is_some (text_value xs)) sorts.Text) (mark_sort (x ∷ xs)))))))
    letter true h = of_letter h
    letter false h = hash (x == 35) refl

if_sort : (b : Bool) (s : Sort) → sort_if b s ≡ Some s → b ≡ true
if_sort true s h = refl
if_sort false s h = cc

other_sort : (b : Bool) (s t : Sort) → (s ≡ t → ⊥) → sort_if b s ≡ Some t → ⊥
other_sort true s t apart h = apart cc
other_sort false s t apart h = cc

no_mark : (t : List ℕ) (s : Sort) → (sorts.Mark ≡ s → ⊥) → (sorts.LeftOut ≡ s → ⊥) → mark_sort t ≡ Some s → ⊥
no_mark t s p q h = by _ _ h
  where
    by : (a b : Bool) → cond a (Some sorts.Mark) (cond b (Some sorts.LeftOut) None) ≡ Some s → ⊥
    by true b k = p cc
    by false true k = q cc
    by false false k = cc

-- what begins with `_` is hidden, `_` or `_|_`
data UnderscoreIs : List ℕ → Option Sort → Type 0 where
  nothing_else : UnderscoreIs [] (Some sorts.Top)
  of_name : (ys : List ℕ) (y : ℕ) → is_name_byte y ≡ true → UnderscoreIs (y ∷ ys) (sort_if (list_all is_name_byte ys) sorts.Hidden)
  of_definition : (ys : List ℕ) → UnderscoreIs (35 ∷ ys) (sort_if (is_definition_rest ys) sorts.Hidden)
  of_bottom : (ys : List ℕ) (y : ℕ) (b : Bool) → UnderscoreIs (y ∷ ys) (sort_if b sorts.Bottom)

underscore_is : (xs : List ℕ) → UnderscoreIs xs (underscore_sort xs)
underscore_is [] = nothing_else
underscore_is (y ∷ ys) = name (is_name_byte y) refl
  where
    hash : (b : Bool) (c : Bool) → (y == 35) ≡ b → UnderscoreIs (y ∷ ys) (cond b (sort_if (is_definition_rest ys) sorts.Hidden) (sort_if c sorts.Bottom))
    hash true c h = rw (eqb-true y 35 h) (of_definition ys)
    hash false c h = of_bottom ys y c

    name : (b : Bool) → is_name_byte y ≡ b → UnderscoreIs (y ∷ ys) (cond b (sort_if (list_all is_name_byte ys) sorts.Hidden) (cond (y == 35) (sort_if (is_definition_rest ys) sorts.Hidden) (sort_if (bytes_eq (y ∷ ys) (codes "|_")) sorts.Bottom)))
    name true h = of_name ys y h
    name false h = hash (y == 35) (bytes_eq (y ∷ ys) (codes "|_")) refl

-- ---- names

module _ (x : ℕ) (xs : List ℕ) where
  name_letter : (r : Option Sort) → SortIs x xs r → r ≡ Some sorts.Name → (is_letter x ≡ true) × AreNameBytes xs
  name_letter _ (of_letter l) h = (l, if_sort (list_all is_name_byte xs) sorts.Name h)
  name_letter _ (of_hash e) h = absurd (other_sort (is_definition_rest xs) sorts.Definition sorts.Name (λ k. cc) h)
  name_letter _ (of_underscore e) h = absurd (by _ (underscore_is xs) h)
    where
      by : {ys : List ℕ} (r : Option Sort) → UnderscoreIs ys r → r ≡ Some sorts.Name → ⊥
      by _ nothing_else k = cc
      by _ (of_name ys y n) k = other_sort _ sorts.Hidden sorts.Name (λ q. cc) k
      by _ (of_definition ys) k = other_sort _ sorts.Hidden sorts.Name (λ q. cc) k
      by _ (of_bottom ys y b) k = other_sort b sorts.Bottom sorts.Name (λ q. cc) k
  name_letter _ of_digit h = absurd (other_sort _ sorts.Integer sorts.Name (λ k. cc) h)
  name_letter _ of_quote h = absurd (other_sort _ sorts.Text sorts.Name (λ k. cc) h)
  name_letter _ of_mark h = absurd (no_mark (x ∷ xs) sorts.Name (λ k. cc) (λ k. cc) h)

  hidden_underscore : (r : Option Sort) → SortIs x xs r → r ≡ Some sorts.Hidden → (x ≡ 95) × AreNameBytes (drop_byte 35 xs)
  hidden_underscore _ (of_letter l) h = absurd (other_sort _ sorts.Name sorts.Hidden (λ k. cc) h)
  hidden_underscore _ (of_hash e) h = absurd (other_sort _ sorts.Definition sorts.Hidden (λ k. cc) h)
  hidden_underscore _ (of_underscore e) h = (e, by xs _ (underscore_is xs) h)
    where
      by : (ys : List ℕ) (r : Option Sort) → UnderscoreIs ys r → r ≡ Some sorts.Hidden → AreNameBytes (drop_byte 35 ys)
      by _ _ nothing_else k = cc
      by _ _ (of_name ys y n) k = dropped 35 (y ∷ ys) (both_true (is_name_byte y) (list_all is_name_byte ys) n (if_sort _ sorts.Hidden k))
      by _ _ (of_definition ys) k = rest_bytes ys (if_sort _ sorts.Hidden k)
      by _ _ (of_bottom ys y b) k = absurd (other_sort b sorts.Bottom sorts.Hidden (λ q. cc) k)
  hidden_underscore _ of_digit h = absurd (other_sort _ sorts.Integer sorts.Hidden (λ k. cc) h)
  hidden_underscore _ of_quote h = absurd (other_sort _ sorts.Text sorts.Hidden (λ k. cc) h)
  hidden_underscore _ of_mark h = absurd (no_mark (x ∷ xs) sorts.Hidden (λ k. cc) (λ k. cc) h)

  definition_hash : (r : Option Sort) → SortIs x xs r → r ≡ Some sorts.Definition → (x ≡ 35) × (is_definition_rest xs ≡ true)
  definition_hash _ (of_letter l) h = absurd (other_sort _ sorts.Name sorts.Definition (λ k. cc) h)
  definition_hash _ (of_hash e) h = (e, if_sort _ sorts.Definition h)
  definition_hash _ (of_underscore e) h = absurd (by _ (underscore_is xs) h)
    where
      by : {ys : List ℕ} (r : Option Sort) → UnderscoreIs ys r → r ≡ Some sorts.Definition → ⊥
      by _ nothing_else k = cc
      by _ (of_name ys y n) k = other_sort _ sorts.Hidden sorts.Definition (λ q. cc) k
      by _ (of_definition ys) k = other_sort _ sorts.Hidden sorts.Definition (λ q. cc) k
      by _ (of_bottom ys y b) k = other_sort b sorts.Bottom sorts.Definition (λ q. cc) k
  definition_hash _ of_digit h = absurd (other_sort _ sorts.Integer sorts.Definition (λ k. cc) h)
  definition_hash _ of_quote h = absurd (other_sort _ sorts.Text sorts.Definition (λ k. cc) h)
  definition_hash _ of_mark h = absurd (no_mark (x ∷ xs) sorts.Definition (λ k. cc) (λ k. cc) h)

-- `#` is no letter, and no `_`
no_letter : is_letter 35 ≡ true → ⊥
no_letter h = cc

no_underscore : (x : ℕ) → x ≡ 35 → x ≡ 95 → ⊥
no_underscore x h k = cc

-- behind the `#` of a definition's name is the name of a definition
pub hash_name : (s : List ℕ) → IsOperandName s ⊎ IsScopeName s → begins_hash s ≡ true → IsDefinitionName (drop_byte 35 s)
hash_name [] n h = cc
hash_name (x ∷ xs) n h = rw (eqb-true x 35 h) (by (subst (λ y. IsOperandName (y ∷ xs) ⊎ IsScopeName (y ∷ xs)) (eqb-true x 35 h) n))
  where
    by : IsOperandName (35 ∷ xs) ⊎ IsScopeName (35 ∷ xs) → IsDefinitionName xs
    by (inl k) = absurd (no_letter (name_letter 35 xs (sort_of (35 ∷ xs)) (sort_is 35 xs) k.0).0)
    by (inr (inl k)) = k
    by (inr (inr k)) = absurd (no_underscore 35 refl (hidden_underscore 35 xs (sort_of (35 ∷ xs)) (sort_is 35 xs) k).0)

-- a name is no hidden one
pub name_shown : (s : List ℕ) → IsName s → is_hidden s ≡ false
name_shown [] h = refl
name_shown (x ∷ xs) h = by (x == 95) refl
  where
    letter : is_letter x ≡ true
    letter = (name_letter x xs (sort_of (x ∷ xs)) (sort_is x xs) h).0

    by : (b : Bool) → (x == 95) ≡ b → b ≡ false
    by false e = refl
    by true e = let is : is_letter 95 ≡ true = subst (λ y. is_letter y ≡ true) (eqb-true x 95 e) letter in cc

pub hidden_is_hidden : (s : List ℕ) → sort_of s ≡ Some sorts.Hidden → is_hidden s ≡ true
hidden_is_hidden [] h = cc
hidden_is_hidden (x ∷ xs) h = rw (hidden_underscore x xs (sort_of (x ∷ xs)) (sort_is x xs) h).0 refl

-- ---- names of definitions

-- what a scope declares under a name: a field or a `let`, a definition, or a hidden one
pub data IsScoped (s : List ℕ) : Type 0 where
  field_is : IsName s → IsScoped s
  definition_is : sort_of s ≡ Some sorts.Definition → IsScoped s
  concealed_is : IsHiddenName s → IsScoped s

pub scope_name : (s : List ℕ) → IsName s ⊎ IsScopeName s → IsScoped s
scope_name s (inl h) = field_is h
scope_name s (inr (inl h)) = definition_is h
scope_name s (inr (inr h)) = concealed_is h

pub file_name : (b : Bool) (s : List ℕ) → IsFileName b s → IsScoped s
file_name true s h = field_is h
file_name false s (inl h) = field_is h
file_name false s (inr h) = concealed_is h

pub bare_bytes : (s : List ℕ) → IsScoped s → AreNameBytes (bare s)
bare_bytes [] h = refl
bare_bytes (x ∷ xs) (field_is h) =
    let l = name_letter x xs (sort_of (x ∷ xs)) (sort_is x xs) h in
    dropped 35 (drop_byte 95 (x ∷ xs)) (dropped 95 (x ∷ xs) (both_true (is_name_byte x) (list_all is_name_byte xs) (some_true (is_letter x || is_digit x) (x == 95) (some_true (is_letter x) (is_digit x) l.0)) l.1))
bare_bytes (x ∷ xs) (definition_is h) = let d = definition_hash x xs (sort_of (x ∷ xs)) (sort_is x xs) h in rw d.0 (rest_bytes xs d.1)
bare_bytes (x ∷ xs) (concealed_is h) = let u = hidden_underscore x xs (sort_of (x ∷ xs)) (sort_is x xs) h in rw u.0 u.1

-- more name bytes behind the name of a definition
pub longer : (s t : List ℕ) → IsDefinitionName s → AreNameBytes t → IsDefinitionName (s ++ t)
longer [] t h k = cc
longer (x ∷ xs) t h k =
    let rest : (begins_definition x && list_all is_name_byte xs) ≡ true = if_sort (begins_definition x && list_all is_name_byte xs) sorts.Definition h in
    let all : list_all is_name_byte (xs ++ t) ≡ true = list_all-append is_name_byte xs t ∙ both_true _ _ (right_true (begins_definition x) (list_all is_name_byte xs) rest) k in
    ap (λ b. sort_if b sorts.Definition) (both_true (begins_definition x) (list_all is_name_byte (xs ++ t)) (left_true (begins_definition x) (list_all is_name_byte xs) rest) all)

pub inner_good : (outer s : List ℕ) → IsDefinitionName outer → IsScoped s → IsDefinitionName (inner_name outer s)
inner_good outer s h k = longer outer (95 ∷ bare s) h (bare_bytes s k)

pub top_good : (s : List ℕ) → IsScoped s → IsDefinitionName (top_name s)
top_good s k = by (bare s) (bare_bytes s k)
  where
    by : (t : List ℕ) → AreNameBytes t → IsDefinitionName (as_definition t)
    by [] h = refl
    by (x ∷ xs) h = either (begins_definition x) refl
      where
        either : (b : Bool) → begins_definition x ≡ b → IsDefinitionName (cond b (x ∷ xs) (95 ∷ x ∷ xs))
        either true e = ap (λ c. sort_if (c && list_all is_name_byte xs) sorts.Definition) e ∙ ap (λ c. sort_if c sorts.Definition) (right_true (is_name_byte x) (list_all is_name_byte xs) h)
        either false e = ap (λ c. sort_if c sorts.Definition) h

-- ---- numbers

glyph : (d : ℕ) → d < 10 → is_name_byte (digit_glyph false d) ≡ true
glyph d l = by (nat_lt d 10) refl
  where
    any_digit : (a b c : Bool) → b ≡ true → ((a || b) || c) ≡ true
    any_digit true b c h = refl
    any_digit false b c h = ap (λ x. x || c) h

    by : (b : Bool) → nat_lt d 10 ≡ b → is_name_byte (cond b (48 + d) (87 + d)) ≡ true
    by true e =
        let low : nat_le 48 (48 + d) ≡ true = grind (arith, nat_tests) in
        let high : nat_le (48 + d) 57 ≡ true = grind (arith, nat_tests) in
        let digit : is_digit (48 + d) ≡ true = both_true _ _ low high in
        any_digit (is_letter (48 + d)) (is_digit (48 + d)) ((48 + d) == 95) digit
    by false e = absurd (grind (arith, nat_tests))

onto : (k n : ℕ) (acc : List ℕ) → AreNameBytes acc → AreNameBytes (digits_onto k 10 false n acc)
onto zero n acc h = h
onto (suc k) n acc h = by (λ q. onto k (n / 10) (digit_glyph false (n % 10) ∷ acc) q) (n / 10 == 0)
  where
    here : AreNameBytes (digit_glyph false (n % 10) ∷ acc)
    here = both_true (is_name_byte (digit_glyph false (n % 10))) (list_all is_name_byte acc) (glyph (n % 10) (omega arith)) h

    by : (AreNameBytes (digit_glyph false (n % 10) ∷ acc) → AreNameBytes (digits_onto k 10 false (n / 10) (digit_glyph false (n % 10) ∷ acc))) → (b : Bool) → AreNameBytes (cond b (digit_glyph false (n % 10) ∷ acc) (digits_onto k 10 false (n / 10) (digit_glyph false (n % 10) ∷ acc)))
    by ih true = here
    by ih false = ih here

decimal_bytes : (n : ℕ) → AreNameBytes (decimal n)
unfolding digits
decimal_bytes n = onto 64 n [] refl

pub numbered_good : (s : List ℕ) (n : ℕ) → IsDefinitionName s → IsDefinitionName (numbered s n)
numbered_good s n h = longer s (decimal n) h (decimal_bytes n)

first_good : (is_taken : List ℕ → Bool) (s : List ℕ) (n more : ℕ) → IsDefinitionName s → IsDefinitionName (first_free is_taken s n more)
unfolding first_free
first_good is_taken s n zero h = numbered_good s n h
first_good is_taken s n (suc more) h = by (first_good is_taken s (n + 1) more h) (is_taken (numbered s n))
  where
    by : IsDefinitionName (first_free is_taken s (n + 1) more) → (b : Bool) → IsDefinitionName (cond b (first_free is_taken s (n + 1) more) (numbered s n))
    by ih true = ih
    by ih false = numbered_good s n h

pub free_good : (is_taken : List ℕ → Bool) (s : List ℕ) → IsDefinitionName s → IsDefinitionName (free is_taken s)
free_good is_taken s h = by (is_taken s)
  where
    by : (b : Bool) → IsDefinitionName (cond b (first_free is_taken s 1 all_numbers) s)
    by true = first_good is_taken s 1 all_numbers h
    by false = h

-- ---- names without their marks

-- what begins with another byte stays
pub unstripped : (b : ℕ) (bs : List ℕ) → ((rest : List ℕ) → bs ≢ b ∷ rest) → bs ≡ drop_byte b bs
unstripped b [] h = refl
unstripped b (x ∷ xs) h = by (x == b) refl
  where
    by : (c : Bool) → (x == b) ≡ c → x ∷ xs ≡ cond c xs (x ∷ xs)
    by true e = absurd (h xs (ap (λ y. y ∷ xs) (eqb-true x b e)))
    by false e = refl

pub stripped : (b : ℕ) (bs rest : List ℕ) → bs ≡ b ∷ rest → rest ≡ drop_byte b bs
stripped b bs rest e = ap (λ c. cond c rest (b ∷ rest)) (sym ((Decides-eqb b b).1 refl)) ∙ ap (drop_byte b) (sym e)
