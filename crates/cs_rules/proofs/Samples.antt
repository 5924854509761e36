-- Verdicts by kind, worked by the definitions on samples.
use Rattle.std.proofs.Common.{◌≡◌, ◌<◌, ℕ, zero, suc, inl, inr, ℤ, pos, negsuc, nat_le, nat_lt, int_lt, Bool, true, false, not, List, [], ◌∷◌, ◌++◌, Option, Some, None, Equal, Greater, map, refl, sym, ap, ◌∙◌, subst, arith}
use Rattle.std.specs.Prelude.{slice_get}
use Rattle.std.specs.Ordering.{int_cmp}
use Rattle.cs_document.specs.Document.{null, text, boolean, integer}
use Rattle.cs_document.specs.Opened.{Opened, a_null, a_boolean, an_integer, a_text, a_list, an_object}
use Rattle.cs_document.specs.Sizes.{text_length}
use Rattle.cs_table.specs.Decided.{IsNoneOf}
use Rattle.cs_rules.specs.Alike.{Compared, AreAlike, IsToldBy, HasMore}
use Rattle.cs_rules.specs.Lengths.{TellsLength, AreLengths}
use Rattle.cs_rules.specs.Classed.{HasClass, HasClassAt, IsPlace, IsTextPlace, IsReached, by_place}
use Rattle.cs_rules.specs.Steps.{Step}
use Rattle.cs_rules.specs.Kinds.{verdict_of, row_of, kind_place, both, either, Decides, decided_by, all_decided, any_decided, AreDecided, IsItem, Foretells}
use Rattle.cs_rules.specs.Rows.{verdict_at, kind_answer, AreOpen, AreRowsOf}
use Rattle.cs_rules.specs.declared.by_kind.ByKind.{ByKind}
use Rattle.cs_rules.proofs.Decided.{one_open, one_decided}

-- ---- a value of each kind

abbrev values : List (Opened ℕ)
values = a_null ∷ a_boolean true ∷ an_integer (pos 0) ∷ a_text [] ∷ a_list [] ∷ an_object [] ∷ []

abbrev yes : Option Bool
yes = Some true

abbrev no : Option Bool
no = Some false

-- two of the kinds have a verdict of yes, two of no, and two none
abbrev mixed : ByKind
mixed = record { null = yes; boolean = no; integer = None; text = yes; list = no; object = None }

by_kind : map (verdict_of mixed) values ≡ yes ∷ no ∷ None ∷ yes ∷ no ∷ None ∷ []
by_kind = refl

in_a_row : row_of mixed ≡ map (verdict_of mixed) values
in_a_row = refl

places : map kind_place values ≡ 0 ∷ 1 ∷ 2 ∷ 3 ∷ 4 ∷ 5 ∷ []
places = refl

-- ---- two verdicts together

abbrev each_verdict : List (Option Bool)
each_verdict = no ∷ yes ∷ None ∷ []

both_with_no : map (both no) each_verdict ≡ no ∷ no ∷ no ∷ []
both_with_no = refl

both_with_yes : map (both yes) each_verdict ≡ no ∷ yes ∷ None ∷ []
both_with_yes = refl

both_with_none : map (both None) each_verdict ≡ no ∷ None ∷ None ∷ []
both_with_none = refl

either_with_no : map (either no) each_verdict ≡ no ∷ yes ∷ None ∷ []
either_with_no = refl

either_with_yes : map (either yes) each_verdict ≡ yes ∷ yes ∷ yes ∷ []
either_with_yes = refl

either_with_none : map (either None) each_verdict ≡ None ∷ yes ∷ None ∷ []
either_with_none = refl

yes_decides : Decides yes true
yes_decides b e = cc

yes_decides_no_other : ¬ (Decides yes false)
yes_decides_no_other h = let clash : false ≡ true = h true refl in cc

none_decides : (v : Bool) → Decides None v
none_decides v b e = cc

-- ---- earlier rules

-- every value; no value; texts alone, where lists aren't decided
abbrev every : ByKind
every = record { null = yes; boolean = yes; integer = yes; text = yes; list = yes; object = yes }

abbrev texts : ByKind
texts = record { null = no; boolean = no; integer = no; text = yes; list = None; object = no }

abbrev others : ByKind
others = record { null = yes; boolean = yes; integer = yes; text = no; list = None; object = yes }

by_number : map (decided_by (every ∷ texts ∷ []) (an_integer (pos 7))) (0 ∷ 1 ∷ 2 ∷ []) ≡ yes ∷ no ∷ None ∷ []
by_number = refl

all_of_none : all_decided [] a_null [] ≡ yes
all_of_none = refl

any_of_none : any_decided [] a_null [] ≡ no
any_of_none = refl

all_by_the_last : all_decided (every ∷ texts ∷ []) a_null (0 ∷ 0 ∷ 1 ∷ []) ≡ no
all_by_the_last = refl

all_by_the_first : all_decided (every ∷ texts ∷ []) a_null (1 ∷ 0 ∷ []) ≡ no
all_by_the_first = refl

all_in_spite_of_an_open_one : all_decided (every ∷ texts ∷ []) a_null (2 ∷ 1 ∷ []) ≡ no
all_in_spite_of_an_open_one = refl

all_left_open : all_decided (every ∷ texts ∷ []) (a_list []) (0 ∷ 1 ∷ []) ≡ None
all_left_open = refl

any_by_the_first : any_decided (every ∷ texts ∷ []) a_null (0 ∷ 1 ∷ []) ≡ yes
any_by_the_first = refl

any_by_the_last : any_decided (every ∷ texts ∷ []) a_null (1 ∷ 0 ∷ []) ≡ yes
any_by_the_last = refl

any_in_spite_of_an_open_one : any_decided (every ∷ texts ∷ []) a_null (2 ∷ 0 ∷ []) ≡ yes
any_in_spite_of_an_open_one = refl

any_left_open : any_decided (every ∷ texts ∷ []) (a_list []) (1 ∷ 1 ∷ []) ≡ None
any_left_open = refl

-- ---- what is foretold: the first rule asks for a text, and each further one that the one before it doesn't hold

abbrev is_text : Opened ℕ → Bool
is_text (a_text s) = true
is_text _ = false

abbrev step : ℕ → Step
step zero here inside d x = is_text x
step (suc r) here inside d x = not (here r)

an_item : IsItem (text []) (a_text [])
an_item = (λ y. null, refl)

no_item : ¬ (IsItem (boolean true) a_null)
no_item h = let clash : a_boolean true ≡ a_null = h.1 in cc

told_of_texts : Foretells (step 0) [] texts
told_of_texts d a_null is here inside all b e = cc
told_of_texts d (a_boolean t) is here inside all b e = cc
told_of_texts d (an_integer z) is here inside all b e = cc
told_of_texts d (a_text s) is here inside all b e = cc
told_of_texts d (a_list ys) is here inside all b e = cc
told_of_texts d (an_object ms) is here inside all b e = cc

-- by the verdicts of the rule before
told_of_others : Foretells (step 1) (texts ∷ []) others
told_of_others d a_null is here inside all b e = ap not (all 0 false refl) ∙ (let f : Some true ≡ Some b = e in cc)
told_of_others d (a_boolean t) is here inside all b e = ap not (all 0 false refl) ∙ (let f : Some true ≡ Some b = e in cc)
told_of_others d (an_integer z) is here inside all b e = ap not (all 0 false refl) ∙ (let f : Some true ≡ Some b = e in cc)
told_of_others d (a_text s) is here inside all b e = ap not (all 0 true refl) ∙ (let f : Some false ≡ Some b = e in cc)
told_of_others d (a_list ys) is here inside all b e = let f : None ≡ Some b = e in cc
told_of_others d (an_object ms) is here inside all b e = ap not (all 0 false refl) ∙ (let f : Some true ≡ Some b = e in cc)

-- nothing is known of the rule before
untold_alone : ¬ (Foretells (step 1) [] others)
untold_alone h =
    let clash : true ≡ false = h (text []) (a_text []) an_item (λ r. false) (λ y p. false) (λ q b e. (let f : None ≡ Some b = e in cc)) false refl in cc

-- on texts the first rule holds
first_holds : AreDecided (texts ∷ []) (a_text []) (λ r. true)
first_holds zero b e = cc
first_holds (suc q) b e = let f : None ≡ Some b = e in cc

turned : ¬ (Foretells (step 1) (texts ∷ []) texts)
turned h = let clash : false ≡ true = h (text []) (a_text []) an_item (λ r. true) (λ y p. false) first_holds true refl in cc

-- ---- the rows of kinds

rules_at_texts : map (verdict_at (mixed ∷ texts ∷ []) 3) (0 ∷ 1 ∷ 2 ∷ []) ≡ yes ∷ yes ∷ None ∷ []
rules_at_texts = refl

rules_at_objects : map (verdict_at (mixed ∷ texts ∷ []) 5) (0 ∷ 1 ∷ []) ≡ None ∷ no ∷ []
rules_at_objects = refl

past_the_kinds : verdict_at (mixed ∷ []) 6 0 ≡ None
past_the_kinds = refl

-- yes, no, and none
answers : map (λ p. kind_answer (mixed ∷ []) p 0 (λ i r. true)) (0 ∷ 1 ∷ 2 ∷ []) ≡ true ∷ false ∷ false ∷ []
answers = refl

-- ---- the rules that are open

abbrev verdict : ℕ → Option Bool
verdict zero = None
verdict (suc zero) = yes
verdict (suc (suc r)) = None

below_none : AreOpen 0 verdict []
below_none = record {
  within = λ k l. absurd (omega (arith, l));
  ascends = λ j k m l. absurd (omega (arith, l));
  undecided = λ k l. absurd (omega (arith, l));
  decided = λ r l none. absurd (omega (arith, l));
}

the_open : AreOpen 3 verdict (0 ∷ 2 ∷ [])
the_open = one_open 2 verdict (0 ∷ []) (one_decided 1 verdict (0 ∷ []) (one_open 0 verdict [] below_none refl) refl) refl

not_the_first : IsNoneOf (0 ∷ []) 2
not_the_first zero l e = cc
not_the_first (suc k) l e = omega (arith, l)

left_out : ¬ (AreOpen 3 verdict (0 ∷ []))
left_out h = let clash : false ≡ true = h.decided 2 (omega arith) not_the_first in cc

not_open : ¬ (AreOpen 3 verdict (0 ∷ 1 ∷ 2 ∷ []))
not_open h = let clash : yes ≡ None = h.undecided 1 (omega arith) in cc

out_of_order : ¬ (AreOpen 3 verdict (2 ∷ 0 ∷ []))
out_of_order h = let l : 2 < 0 = h.ascends 0 1 (omega arith) (omega arith) in omega (arith, l)

-- there are no rows only where six times the rules are more than a table takes
not_without_rows : ¬ (AreRowsOf step (0 ∷ 1 ∷ []) None)
not_without_rows l = omega (arith, l)

-- ---- scalars that no mark tells apart: the marks are the text a, the integer 5 and the lengths 1 and 3

abbrev marks : Compared
marks = record { texts = (97 ∷ []) ∷ []; integers = pos 5 ∷ []; lengths = 1 ∷ 3 ∷ [] }

abbrev none : Compared
none = record { texts = []; integers = []; lengths = [] }

null_is_like_null : AreAlike none a_null a_null
null_is_like_null = tt

a_boolean_is_like_itself : AreAlike none (a_boolean true) (a_boolean true)
a_boolean_is_like_itself = refl

true_is_not_like_false : ¬ (AreAlike none (a_boolean true) (a_boolean false))
true_is_not_like_false h = let clash : true ≡ false = h in cc

null_is_not_like_false : ¬ (AreAlike none a_null (a_boolean false))
null_is_not_like_false h = h

an_integer_is_not_like_a_text : ¬ (AreAlike none (an_integer (pos 0)) (a_text []))
an_integer_is_not_like_a_text h = h

a_list_is_like_nothing : ¬ (AreAlike none (a_list []) (a_list []))
a_list_is_like_nothing h = h

a_map_is_like_nothing : ¬ (AreAlike none (an_object []) (an_object []))
a_map_is_like_nothing h = h

below_the_mark : AreAlike marks (an_integer (negsuc 0)) (an_integer (pos 4))
below_the_mark = ((refl, refl), tt)

above_the_mark : AreAlike marks (an_integer (pos 6)) (an_integer (pos 7))
above_the_mark = ((refl, refl), tt)

a_mark_between : ¬ (AreAlike marks (an_integer (pos 4)) (an_integer (pos 6)))
a_mark_between h = let clash : true ≡ false = h.0.0 in cc

below_and_at_the_mark : ¬ (AreAlike marks (an_integer (pos 4)) (an_integer (pos 5)))
below_and_at_the_mark h = let clash : true ≡ false = h.0.0 in cc

at_the_mark_and_above : ¬ (AreAlike marks (an_integer (pos 5)) (an_integer (pos 6)))
at_the_mark_and_above h = let clash : false ≡ true = h.0.1 in cc

no_mark_between : AreAlike none (an_integer (pos 4)) (an_integer (pos 6))
no_mark_between = tt

-- texts of one, two, three and four characters, of which the last has two bytes
abbrev b : List ℕ
b = 98 ∷ []

abbrev bc : List ℕ
bc = 98 ∷ 99 ∷ []

abbrev bcd : List ℕ
bcd = 98 ∷ 99 ∷ 100 ∷ []

abbrev bcdé : List ℕ
bcdé = 98 ∷ 99 ∷ 100 ∷ 195 ∷ 169 ∷ []

between_the_lengths : AreAlike marks (a_text b) (a_text bc)
between_the_lengths = ((refl, tt), (refl, (refl, tt)))

at_the_greatest_length_and_above : AreAlike marks (a_text bcd) (a_text bcdé)
at_the_greatest_length_and_above = ((refl, tt), (refl, (refl, tt)))

below_a_length_and_at_it : ¬ (AreAlike marks (a_text bc) (a_text bcd))
below_a_length_and_at_it h = let clash : false ≡ true = h.1.1.0 in cc

below_the_least_length_and_at_it : ¬ (AreAlike marks (a_text []) (a_text b))
below_the_least_length_and_at_it h = let clash : false ≡ true = h.1.0 in cc

no_length_between : AreAlike none (a_text []) (a_text bcd)
no_length_between = (tt, tt)

a_text_at_a_mark : ¬ (AreAlike marks (a_text (97 ∷ [])) (a_text b))
a_text_at_a_mark h = let clash : true ≡ false = h.0.0 in cc

-- ---- what marks tell: this rule asks for integers below 5

abbrev is_low : Opened ℕ → Bool
is_low (an_integer z) = int_lt z (pos 5)
is_low _ = false

abbrev low : Step
low here inside d x = is_low x

same_low : (x y : Opened ℕ) → AreAlike marks x y → is_low x ≡ is_low y
same_low a_null a_null h = refl
same_low (a_boolean b) (a_boolean c) h = refl
same_low (an_integer z) (an_integer w) h = h.0.0
same_low (a_text s) (a_text t) h = refl
same_low a_null (a_boolean c) h = absurd h
same_low a_null (an_integer w) h = absurd h
same_low a_null (a_text t) h = absurd h
same_low a_null (a_list v) h = absurd h
same_low a_null (an_object v) h = absurd h
same_low (a_boolean b) a_null h = absurd h
same_low (a_boolean b) (an_integer w) h = absurd h
same_low (a_boolean b) (a_text t) h = absurd h
same_low (a_boolean b) (a_list v) h = absurd h
same_low (a_boolean b) (an_object v) h = absurd h
same_low (an_integer z) a_null h = absurd h
same_low (an_integer z) (a_boolean c) h = absurd h
same_low (an_integer z) (a_text t) h = absurd h
same_low (an_integer z) (a_list v) h = absurd h
same_low (an_integer z) (an_object v) h = absurd h
same_low (a_text s) a_null h = absurd h
same_low (a_text s) (a_boolean c) h = absurd h
same_low (a_text s) (an_integer w) h = absurd h
same_low (a_text s) (a_list v) h = absurd h
same_low (a_text s) (an_object v) h = absurd h
same_low (a_list v) y h = absurd h
same_low (an_object v) y h = absurd h

told_by_its_limit : IsToldBy low marks
told_by_its_limit here inside inside' d d' x y is is' like = same_low x y like

not_told_by_none : ¬ (IsToldBy low none)
not_told_by_none h =
    let clash : true ≡ false = h (λ r. false) (λ y p. false) (λ y p. false) (integer (pos 4)) (integer (pos 6)) (an_integer (pos 4)) (an_integer (pos 6)) (λ y. null, refl) (λ y. null, refl) tt in cc

more_marks : HasMore none marks
more_marks = ((97 ∷ []) ∷ [], pos 5 ∷ [], 1 ∷ 3 ∷ [], refl, refl, refl)

fewer_marks : ¬ (HasMore marks none)
fewer_marks h = let clash : [] ≡ pos 5 ∷ [] ++ h.1 = h.4 in cc

fewer_lengths : ¬ (HasMore marks (record { texts = marks.texts; integers = marks.integers; lengths = 1 ∷ [] }))
fewer_lengths h = let clash : 1 ∷ [] ≡ 1 ∷ 3 ∷ [] ++ h.2 = h.5 in cc

-- ---- classes: null, false and true; three of integers, below the mark, at it and above it; of texts one at the mark, and three of others, below the first
-- length, from it on and from the second on

null_false_true : HasClass marks a_null 0 × HasClass marks (a_boolean false) 1 × HasClass marks (a_boolean true) 2
null_false_true = (refl, refl, refl)

false_is_not_true : ¬ (HasClass marks (a_boolean false) 2)
false_is_not_true h = let clash : 2 ≡ 1 = h in absurd (omega (arith, clash))

first_integers : (k : ℕ) (x : ℤ) → slice_get (pos 5 ∷ []) k ≡ Some x → int_cmp x (pos 4) ≡ by_place k 0
first_integers zero x e = let same : pos 5 ≡ x = cc in subst (λ y. int_cmp y (pos 4) ≡ Greater) same refl
first_integers (suc k) x e = let clash : None ≡ Some x = e in cc

below_has_the_first : HasClass marks (an_integer (pos 4)) 3
below_has_the_first = (0, refl, omega arith, inr (0, refl, first_integers))

at_the_mark_has_the_second : HasClass marks (an_integer (pos 5)) 4
at_the_mark_has_the_second = (1, refl, omega arith, inl (0, pos 5, refl, refl, refl))

at_the_mark_has_not_the_first : ¬ (HasClass marks (an_integer (pos 5)) 3)
at_the_mark_has_not_the_first h = not_between h.0 (omega (arith, h.1)) h.3
  where
    not_between : (p : ℕ) → p ≡ 0 → IsPlace (λ k. int_cmp k (pos 5)) (pos 5 ∷ []) p → ⊥
    not_between p z (inl a) = omega (arith, z, a.2)
    not_between p z (inr a) =
        let first : a.0 ≡ 0 = omega (arith, z, a.1) in
        let clash : Equal ≡ Greater = a.2 0 (pos 5) refl ∙ ap (by_place 0) first in cc

text_at_the_mark : HasClass marks (a_text (97 ∷ [])) 6
text_at_the_mark = (0, refl, inl refl)

reaches_none : IsReached (1 ∷ 3 ∷ []) 0 0
reaches_none zero x e = let is : 1 ≡ x = cc in subst (λ y. nat_le y 0 ≡ false) is refl
reaches_none (suc zero) x e = let is : 3 ≡ x = cc in subst (λ y. nat_le y 0 ≡ false) is refl
reaches_none (suc (suc k)) x e = let clash : None ≡ Some x = e in cc

reaches_one : (n : ℕ) → nat_le 1 n ≡ true → nat_le 3 n ≡ false → IsReached (1 ∷ 3 ∷ []) n 1
reaches_one n one three zero x e = let is : 1 ≡ x = cc in subst (λ y. nat_le y n ≡ true) is one
reaches_one n one three (suc zero) x e = let is : 3 ≡ x = cc in subst (λ y. nat_le y n ≡ false) is three
reaches_one n one three (suc (suc k)) x e = let clash : None ≡ Some x = e in cc

reaches_both : (n : ℕ) → nat_le 1 n ≡ true → nat_le 3 n ≡ true → IsReached (1 ∷ 3 ∷ []) n 2
reaches_both n one three zero x e = let is : 1 ≡ x = cc in subst (λ y. nat_le y n ≡ true) is one
reaches_both n one three (suc zero) x e = let is : 3 ≡ x = cc in subst (λ y. nat_le y n ≡ true) is three
reaches_both n one three (suc (suc k)) x e = let clash : None ≡ Some x = e in cc

text_below_the_lengths : HasClass marks (a_text []) 7
text_below_the_lengths = (1, refl, inr (0, refl, (refl, tt), reaches_none))

-- two texts of one class, at the first length and just below the second
texts_between_the_lengths : HasClass marks (a_text b) 8 × HasClass marks (a_text bc) 8
texts_between_the_lengths = ((2, refl, inr (1, refl, (refl, tt), reaches_one 1 refl refl)), (2, refl, inr (1, refl, (refl, tt), reaches_one 2 refl refl)))

texts_at_the_second_length_and_above : HasClass marks (a_text bcd) 9 × HasClass marks (a_text bcdé) 9
texts_at_the_second_length_and_above = ((3, refl, inr (2, refl, (refl, tt), reaches_both 3 refl refl)), (3, refl, inr (2, refl, (refl, tt), reaches_both 4 refl refl)))

at_a_length_is_not_below_it : ¬ (HasClass marks (a_text bcd) 8)
at_a_length_is_not_below_it h = not_there h.0 (omega (arith, h.1)) h.2
  where
    not_there : (p : ℕ) → p ≡ 2 → IsTextPlace marks bcd p → ⊥
    not_there p z (inl a) = let past : None ≡ Some bcd = subst (λ i. slice_get marks.texts i ≡ Some bcd) z a in cc
    not_there p z (inr a) =
        let one : a.0 ≡ 1 = omega (arith, z, a.1) in
        let clash : true ≡ false = a.3 1 3 refl ∙ ap (nat_lt 1) one in cc

a_marked_text_is_not_behind : ¬ (HasClass marks (a_text (97 ∷ [])) 8)
a_marked_text_is_not_behind h = not_there h.0 (omega (arith, h.1)) h.2
  where
    not_there : (p : ℕ) → p ≡ 2 → IsTextPlace marks (97 ∷ []) p → ⊥
    not_there p z (inl a) = let past : None ≡ Some (97 ∷ []) = subst (λ i. slice_get marks.texts i ≡ Some (97 ∷ [])) z a in cc
    not_there p z (inr a) = let clash : true ≡ false = a.2.0 in cc

no_class_of_lists : ¬ (HasClassAt marks (Some (a_list [])) 0)
no_class_of_lists h = h

no_class_past_the_items : ¬ (HasClassAt marks None 0)
no_class_past_the_items h = h

-- ---- how long the texts of a document are: of its first items, of which two are texts

abbrev items : List (Opened ℕ)
items = a_text bcd ∷ a_null ∷ a_text b ∷ []

all_known : AreLengths items (3 ∷ 0 ∷ 1 ∷ [])
all_known zero s e n f =
    let same : bcd ≡ s = cc in
    let is : 3 ≡ n = cc in
    sym is ∙ ap text_length same
all_known (suc zero) s e n f = cc
all_known (suc (suc zero)) s e n f =
    let same : b ≡ s = cc in
    let is : 1 ≡ n = cc in
    sym is ∙ ap text_length same
all_known (suc (suc (suc i))) s e n f = cc

none_known : AreLengths items []
none_known i s e n f = let clash : None ≡ Some n = f in cc

not_of_another : ¬ (AreLengths items (3 ∷ 0 ∷ 3 ∷ []))
not_of_another h = let clash : 3 ≡ 1 = h 2 b refl 3 refl in omega (arith, clash)

not_the_bytes : ¬ (TellsLength (5 ∷ []) 0 bcdé)
not_the_bytes h = let clash : 5 ≡ 4 = h 5 refl in omega (arith, clash)

known_or_not : TellsLength (4 ∷ []) 0 bcdé × TellsLength (4 ∷ []) 1 b
known_or_not = ((λ n f. let is : 4 ≡ n = cc in sym is), (λ n f. let clash : None ≡ Some n = f in cc))
