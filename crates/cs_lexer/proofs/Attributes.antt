-- Attributes: what begins with one, and the loop that finds where it ends.
use Rattle.std.proofs.Common.{◌≡◌, ℕ, zero, suc, ◌+◌, ◌-◌, ◌<◌, ◌≤◌, List, [], ◌∷◌, length, take, drop, get_or, drop-cons, Bool, true, false, cond, Option, Some, None, option_map, refl, sym, ap, subst, ◌∙◌, arith}
use Rattle.std.proofs.Math.Numerals.{add-one}
use Rattle.std.proofs.Math.ListN.{drop_of_length-le}
use Rattle.std.proofs.lemmas.Bool.{and_parts}
use Rattle.std.proofs.lemmas.Bool.Decides.{nat_tests}
use Rattle.std.proofs.lemmas.List.{length-drop, take_all}
use Rattle.std.specs.Prelude.{◌==◌}
use Rattle.cs_grammar.specs.declared.attribute.AttributeStep.{AttributeStep}
use Rattle.cs_grammar.specs.declared.attribute.AttributeStep.TheVariants.{Opens, Closes, Stays, Fails}
use Rattle.cs_grammar.specs.declared.attribute.Opened.{Opened}
use Rattle.cs_grammar.specs.declared.attribute.Opened.TheVariants as opened
use Rattle.cs_grammar.specs.declared.profile.Profile.{Profile}
use Rattle.cs_grammar.specs.declared.profile.Profile.TheVariants as profiles
use Rattle.std.specs.List.{prefix_len}
use Rattle.cs_grammar.specs.Spelling.{begins_definition, is_name_byte, sort_of}
use Rattle.cs_lexer.proofs.Runs.{prefix_within}
use Rattle.cs_grammar.specs.Attribute.{attribute_step, open_len_by, open_len, parenthesis_len, begins_attribute, head_len, attribute_len, attribute_in}

-- ---- what begins with an attribute

attribute_begins_by : (b : Bool) (bs : List ℕ) (n : ℕ) → begins_attribute bs ≡ b → cond b (option_map (λ n. head_len bs + n) (parenthesis_len (drop (head_len bs) bs))) None ≡ Some n → begins_attribute bs ≡ true
attribute_begins_by true bs n e h = e
attribute_begins_by false bs n e h = absurd cc

pub attribute_begins : (bs : List ℕ) (n : ℕ) → attribute_len bs ≡ Some n → begins_attribute bs ≡ true
attribute_begins bs n h = attribute_begins_by (begins_attribute bs) bs n refl h

is_at_sign : (x : ℕ) → (x == 64) ≡ true → x ≡ 64
is_at_sign x h = grind (arith, nat_tests)

-- no token begins with `@`
at_sign_sort : (x : ℕ) (xs : List ℕ) → (x == 64) ≡ true → sort_of (x ∷ xs) ≡ None
at_sign_sort x xs h = subst (λ k. sort_of (k ∷ xs) ≡ None) (sym (is_at_sign x h)) refl

pub at_sign_none : (bs : List ℕ) → begins_attribute bs ≡ true → (m : ℕ) → sort_of (take m bs) ≡ None
at_sign_none [] h m = absurd cc
at_sign_none (x ∷ []) h m = absurd cc
at_sign_none (x ∷ y ∷ xs) h zero = refl
at_sign_none (x ∷ y ∷ xs) h (suc m) = at_sign_sort x (take m (y ∷ xs)) (and_parts (x == 64) (begins_definition y) h).0

-- ---- how long it is

whole_rest : (bs : List ℕ) (i : ℕ) → take (length bs - i) (drop i bs) ≡ drop i bs
whole_rest bs i = take_all (length bs - i) (drop i bs) (omega (arith, length-drop i bs))

attribute_some : (bs : List ℕ) → begins_attribute bs ≡ true → 0 < length bs
attribute_some [] h = absurd cc
attribute_some (x ∷ xs) h = omega arith

pub head_within : (bs : List ℕ) (n : ℕ) → begins_attribute bs ≡ true → n ≡ prefix_len is_name_byte (take (length bs - 1) (drop 1 bs)) → n + 1 ≤ length bs
head_within bs n h e =
    let rest = take (length bs - 1) (drop 1 bs) in
    omega (arith, attribute_some bs h, e, prefix_within is_name_byte rest, ap length (whole_rest bs 1), length-drop 1 bs)

abbrev pub IsWithin : Option ℕ → ℕ → Type 0
IsWithin None n = Unit {0}
IsWithin (Some m) n = (0 < m) × (m ≤ n)

longer : (o : Option ℕ) (n : ℕ) → IsWithin o n → IsWithin (option_map suc o) (suc n)
longer None n h = tt
longer (Some m) n h = let a = h.0 in let b = h.1 in (omega arith, omega arith)

within_by : (step : AttributeStep) (o : Opened) (os : List Opened) (n : ℕ) (again : Opened → List Opened → Option ℕ) → ((p : Opened) (ps : List Opened) → IsWithin (again p ps) n) → IsWithin (open_len_by step o os again) (suc n)
within_by (Opens i) o os n again h = longer (again i (o ∷ os)) n (h i (o ∷ os))
within_by Closes o [] n again h = (omega arith, omega arith)
within_by Closes o (p ∷ os) n again h = longer (again p os) n (h p os)
within_by Stays o os n again h = longer (again o os) n (h o os)
within_by Fails o os n again h = tt

pub open_within : (bs : List ℕ) (o : Opened) (os : List Opened) → IsWithin (open_len o os bs) (length bs)
unfolding open_len
open_within [] o os = tt
open_within (x ∷ xs) o os = within_by (attribute_step o (x ∷ xs)) o os (length xs) (λ p ps. open_len p ps xs) (λ p ps. open_within xs p ps)

pub some_within : (o : Option ℕ) (m n : ℕ) → IsWithin o n → o ≡ Some m → m ≤ n
some_within o m n h e = let w : IsWithin (Some m) n = subst (λ r. IsWithin r n) e h in w.1

parenthesis_by : (b : Bool) (o : Option ℕ) (n : ℕ) → IsWithin o n → IsWithin (cond b (option_map suc o) None) (suc n)
parenthesis_by true o n h = longer o n h
parenthesis_by false o n h = tt

pub parenthesis_within : (bs : List ℕ) → IsWithin (parenthesis_len bs) (length bs)
parenthesis_within [] = tt
parenthesis_within (x ∷ xs) = parenthesis_by (x == 40) (open_len opened.Paren [] xs) (length xs) (open_within xs opened.Paren [])

attribute_by : (b : Bool) (h : ℕ) (bs : List ℕ) (o : Option ℕ) → IsWithin o (length (drop h bs)) → IsWithin (cond b (option_map (λ n. h + n) o) None) (length bs)
attribute_by true h bs None w = tt
attribute_by true h bs (Some m) w = let a = w.0 in let b = w.1 in (omega arith, omega (arith, length-drop h bs))
attribute_by false h bs o w = tt

attribute_is_within : (bs : List ℕ) → IsWithin (attribute_len bs) (length bs)
attribute_is_within bs = attribute_by (begins_attribute bs) (head_len bs) bs (parenthesis_len (drop (head_len bs) bs)) (parenthesis_within (drop (head_len bs) bs))

within_is : (p : Profile) (bs : List ℕ) (n : ℕ) → attribute_in p bs ≡ Some n → IsWithin (Some n) (length bs)
within_is profiles.Default bs n h = absurd cc
within_is profiles.Wide bs n h = subst (λ o. IsWithin o (length bs)) h (attribute_is_within bs)

pub attribute_in_within : (p : Profile) (bs : List ℕ) (n : ℕ) → attribute_in p bs ≡ Some n → n ≤ length bs
attribute_in_within p bs n h = (within_is p bs n h).1

pub attribute_in_some : (p : Profile) (bs : List ℕ) (n : ℕ) → attribute_in p bs ≡ Some n → 0 < n
attribute_in_some p bs n h = (within_is p bs n h).0

-- ---- the loop over what is in parentheses

abbrev pub open_from : List ℕ → ℕ → Opened → List Opened → Option ℕ
open_from bs i o os = option_map (λ n. i + n) (open_len o os (drop i bs))

added : (i : ℕ) (o : Option ℕ) → option_map (λ n. i + n) (option_map suc o) ≡ option_map (λ n. suc i + n) o
added i None = refl
added i (Some n) = ap Some (omega arith)

module _ (bs : List ℕ) (i : ℕ) (o : Opened) (os : List Opened) (lt : i < length bs) where
  abbrev again : Opened → List Opened → Option ℕ
  again p ps = open_len p ps (drop (suc i) bs)

  here : drop i bs ≡ get_or bs i 0 ∷ drop (suc i) bs
  here = drop-cons bs i 0 lt

  stepped : (step : AttributeStep) → attribute_step o (take (length bs - i) (drop i bs)) ≡ step → open_from bs i o os ≡ option_map (λ n. i + n) (open_len_by step o os again)
  unfolding open_len
  stepped step is =
      let same : attribute_step o (get_or bs i 0 ∷ drop (suc i) bs) ≡ step = ap (attribute_step o) (sym (whole_rest bs i ∙ here)) ∙ is in
      rw (here, same) refl

  pub open_opens : (p : Opened) → attribute_step o (take (length bs - i) (drop i bs)) ≡ Opens p → open_from bs i o os ≡ open_from bs (i + 1) p (o ∷ os)
  open_opens p is = stepped (Opens p) is ∙ rw add-one (added i (again p (o ∷ os)))

  pub open_closes : (p : Opened) (ps : List Opened) → attribute_step o (take (length bs - i) (drop i bs)) ≡ Closes → os ≡ p ∷ ps → open_from bs i o os ≡ open_from bs (i + 1) p ps
  open_closes p ps is e = stepped Closes is ∙ rw (e, add-one) (added i (again p ps))

  pub open_ends : attribute_step o (take (length bs - i) (drop i bs)) ≡ Closes → os ≡ [] → open_from bs i o os ≡ Some (i + 1)
  open_ends is e = stepped Closes is ∙ rw e refl

  pub open_stays : attribute_step o (take (length bs - i) (drop i bs)) ≡ Stays → open_from bs i o os ≡ open_from bs (i + 1) o os
  open_stays is = stepped Stays is ∙ rw add-one (added i (again o os))

  pub open_fails : attribute_step o (take (length bs - i) (drop i bs)) ≡ Fails → open_from bs i o os ≡ None
  open_fails is = stepped Fails is

pub open_out : (bs : List ℕ) (i : ℕ) (o : Opened) (os : List Opened) → length bs ≤ i → open_from bs i o os ≡ None
unfolding open_len
open_out bs i o os le = rw (drop_of_length-le bs le) refl
