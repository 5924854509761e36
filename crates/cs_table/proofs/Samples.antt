-- The definitions, worked on samples.
use Rattle.std.proofs.Common.{◌≡◌, ℕ, zero, suc, inl, inr, ◌<◌, Bool, true, false, not, ◌*◌, ◌%◌, nat_eq, List, [], ◌∷◌, Some, None, slice_index, refl, sym, ap, ◌∙◌, subst, arith}
use Rattle.cs_table.specs.Classes.{AnswersByClass, AreFirsts}
use Rattle.cs_table.specs.Decided.{IsNoneOf, HasDecided, IsDecided}
use Rattle.cs_table.specs.Judged.{AllVerdicts, Judgement, IsEarlier, LooksBack, IsJudged, Table, verdicts}
use Rattle.cs_table.specs.Kept.{width_of, is_yes, kept}
use Rattle.cs_table.specs.Limit.{most_pairs}
use Rattle.cs_table.specs.Refused.{IsRefusal}
use Rattle.cs_table.specs.declared.fault.TableFault.TheVariants.{TooManyPairs}
use Rattle.cs_table.specs.declared.judging.Row.{Row}

-- ---- the order of pairs: by item, then by rule

earlier_item : IsEarlier 0 9 1 0
earlier_item = inl (omega arith)

earlier_rule : IsEarlier 1 0 1 1
earlier_rule = inr (refl, omega arith)

not_itself : ¬ (IsEarlier 1 1 1 1)
not_itself (inl l) = absurd (omega (arith, l))
not_itself (inr l) = let m = l.1 in absurd (omega (arith, m))

not_by_rule_first : ¬ (IsEarlier 1 0 0 1)
not_by_rule_first (inl l) = absurd (omega (arith, l))
not_by_rule_first (inr l) = let m = l.0 in absurd (omega (arith, m))

-- ---- the places of verdicts

abbrev table : Table
table = record { items = 2; rules = 3; given = true ∷ false ∷ false ∷ false ∷ true ∷ [] }

first : verdicts table 0 0 ≡ true
first = refl

by_item : verdicts table 1 1 ≡ true
by_item = refl

by_rule : verdicts table 0 1 ≡ false
by_rule = refl

not_given_yet : verdicts table 1 2 ≡ false
not_given_yet = refl

-- ---- the bits of verdicts: eight to a byte, from the lowest on, and each item from a byte of its own on

no_rules : width_of 0 ≡ 0
no_rules = refl

a_byte_of_rules : width_of 8 ≡ 1
a_byte_of_rules = refl

a_rule_more : width_of 9 ≡ 2
a_rule_more = refl

byte_for_each_item : kept (5 ∷ 2 ∷ []) 1 2 3 ≡ true ∷ false ∷ true ∷ false ∷ true ∷ false ∷ []
byte_for_each_item = refl

bytes_for_each_item : kept (5 ∷ 2 ∷ 128 ∷ 1 ∷ []) 2 2 9 ≡ true ∷ false ∷ true ∷ false ∷ false ∷ false ∷ false ∷ false ∷ false ∷ false ∷ false ∷ false ∷ false ∷ false ∷ false ∷ false ∷ true ∷ true ∷ []
bytes_for_each_item = refl

last_of_a_byte : is_yes (5 ∷ 130 ∷ []) 1 1 7 ≡ true
last_of_a_byte = refl

past_the_bytes : is_yes (255 ∷ []) 1 1 0 ≡ false
past_the_bytes = refl

-- ---- a judge, and its table: the first rule is met, and the second one where the first isn't

abbrev next : ℕ → (ℕ → Bool) → Bool
next zero f = true
next (suc zero) f = not (f 0)
next (suc (suc r)) f = false

abbrev judge : Judgement
judge i r f = next r (f i)

looks_back : LooksBack 2 judge
looks_back i zero f g same = refl
looks_back i (suc zero) f g same = ap not (same i 0 (omega arith) (inr (refl, omega arith)))
looks_back i (suc (suc r)) f g same = refl

its_table : IsJudged 1 2 judge (verdicts (record { items = 1; rules = 2; given = true ∷ false ∷ [] }))
its_table zero zero l m = refl
its_table zero (suc zero) l m = refl
its_table zero (suc (suc r)) l m = absurd (omega (arith, m))
its_table (suc i) r l m = absurd (omega (arith, l))

no_table : ¬ (IsJudged 1 2 judge (verdicts (record { items = 1; rules = 2; given = true ∷ true ∷ [] })))
no_table h = let clash : true ≡ false = h 0 1 (omega arith) (omega arith) in cc

-- ---- items of one class: this judge asks nothing of an item but its verdicts, and the other one its number

one_class : AnswersByClass 2 judge (λ i c. Unit {0})
one_class i j c h k f same zero l = refl
one_class i j c h k f same (suc zero) l = ap not (same 0 (omega arith))
one_class i j c h k f same (suc (suc r)) l = refl

abbrev by_number : Judgement
by_number i r f = nat_eq i 0

a_class_each : AnswersByClass 1 by_number (λ i c. i ≡ c)
a_class_each i j c h k f same r l = ap (λ n. nat_eq n 0) (h ∙ sym k)

told_apart : ¬ (AnswersByClass 1 by_number (λ i c. Unit {0}))
told_apart h = let clash : true ≡ false = h 0 1 0 tt tt (λ j q. false) (λ q l. refl) 0 (omega arith) in cc

-- items with an even number are of the class 0, and the others of the class 1
abbrev is_even : ℕ → ℕ → Type 0
is_even i c = i % 2 ≡ c

firsts : AreFirsts 3 is_even (Some 2 ∷ None ∷ [])
firsts zero j e = let same : 2 ≡ j = cc in subst (λ k. (k < 3) × is_even k 0) same (omega arith, refl)
firsts (suc zero) j e = absurd (let clash : None ≡ Some j = (let two : Some None ≡ Some (Some j) = e in cc) in cc)
firsts (suc (suc c)) j e = absurd (let clash : None ≡ Some (Some j) = e in cc)

not_before : ¬ (AreFirsts 2 is_even (Some 2 ∷ []))
not_before h = let l : 2 < 2 = (h 0 2 refl).0 in absurd (omega arith)

of_another_class : ¬ (AreFirsts 3 is_even (None ∷ Some 2 ∷ []))
of_another_class h = let clash : 0 ≡ 1 = (h 1 2 refl).1 in absurd (omega (arith, clash))

-- ---- what is decided of an item beforehand

abbrev row : List Bool → List ℕ → Row
row given left = record {
  table = record { ref_ptr = (0, 0); now = record { items = 1; rules = 2; given = given } };
  item = 0;
  left = record { ref_ptr = (0, 0); now = left };
}

-- the second rule is left
abbrev second_left : Row
second_left = row (true ∷ false ∷ []) (1 ∷ [])

left_within : (k : ℕ) → k < 1 → slice_index second_left.left.now k < 2
left_within zero l = omega arith
left_within (suc k) l = absurd (omega (arith, l))

left_undecided : (k : ℕ) → k < 1 → verdicts second_left.table.now 0 (slice_index second_left.left.now k) ≡ false
left_undecided zero l = refl
left_undecided (suc k) l = absurd (omega (arith, l))

first_decided : (f : AllVerdicts) → HasDecided 2 0 second_left f → (r : ℕ) → r < 2 → IsNoneOf second_left.left.now r → judge 0 r f ≡ verdicts second_left.table.now 0 r
first_decided f has zero l none = refl
first_decided f has (suc zero) l none = absurd (none 0 (omega arith) refl)
first_decided f has (suc (suc r)) l none = absurd (omega (arith, l))

is_decided : IsDecided 2 judge 0 second_left
is_decided = record {
  width = refl;
  item = omega arith;
  within = left_within;
  ascends = λ j k l m. absurd (omega (arith, l, m));
  undecided = left_undecided;
  judged = first_decided;
}

-- both are decided, the second one by the first
by_what_is_decided : (f : AllVerdicts) → HasDecided 2 0 (row (true ∷ false ∷ []) []) f → (r : ℕ) → r < 2 → IsNoneOf [] r → judge 0 r f ≡ verdicts (row (true ∷ false ∷ []) []).table.now 0 r
by_what_is_decided f has zero l none = refl
by_what_is_decided f has (suc zero) l none = ap not (has 0 (omega arith) (λ k m. absurd (omega (arith, m))))
by_what_is_decided f has (suc (suc r)) l none = absurd (omega (arith, l))

-- the first rule is met, so a row that says no is wrong
none_yet : HasDecided 2 0 (row (false ∷ false ∷ []) (1 ∷ [])) (λ j q. false)
none_yet zero l none = refl
none_yet (suc zero) l none = refl
none_yet (suc (suc r)) l none = absurd (omega (arith, l))

not_second : IsNoneOf (1 ∷ []) 0
not_second zero l e = absurd (omega (arith, e))
not_second (suc k) l e = absurd (omega (arith, l))

decided_wrongly : ¬ (IsDecided 2 judge 0 (row (false ∷ false ∷ []) (1 ∷ [])))
decided_wrongly d = let clash : true ≡ false = d.judged (λ j q. false) none_yet 0 (omega arith) not_second in cc

left_with_a_verdict : ¬ (IsDecided 2 judge 0 (row (true ∷ true ∷ []) (1 ∷ [])))
left_with_a_verdict d = let clash : true ≡ false = d.undecided 0 (omega arith) in cc

left_descends : ¬ (IsDecided 2 judge 0 (row (false ∷ false ∷ []) (1 ∷ 0 ∷ [])))
left_descends d = let l : 1 < 0 = d.ascends 0 1 (omega arith) (omega arith) in absurd (omega arith)

left_past_the_rules : ¬ (IsDecided 2 judge 0 (row (true ∷ false ∷ []) (2 ∷ [])))
left_past_the_rules d = let l : 2 < 2 = d.within 0 (omega arith) in absurd (omega arith)

row_of_no_item : ¬ (IsDecided 2 judge 0 (record second_left { item = 1 }))
row_of_no_item d = let l : 1 < 1 = d.item in absurd (omega arith)

limit : most_pairs ≡ 8192 * 8192
limit = refl

-- what is told of too many pairs are the items and the rules, and not one for the other
told : IsRefusal 8192 8193 (TooManyPairs 8192 8193)
told = (refl, refl, omega arith)

told_turned : IsRefusal 8192 8193 (TooManyPairs 8193 8192) → ⊥
told_turned h = let e = h.0 in omega (arith, e)

told_of_few : IsRefusal 8192 8192 (TooManyPairs 8192 8192) → ⊥
told_of_few h = let l = h.2 in omega (arith, l)
