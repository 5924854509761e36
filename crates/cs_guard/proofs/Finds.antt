-- Numbers that are found, one after another.
use Rattle.std.proofs.Common.{◌≡◌, ℕ, zero, suc, ◌+◌, ◌<◌, Bool, true, false, cond, List, [], ◌∷◌, ◌++◌, inl, inr, Some, length, slice_get, replicate, refl, sym, ap, subst, ◌∙◌, arith, append_assoc}
use Rattle.std.specs.List.{count_by}
use Rattle.std.proofs.Math.ListN.{set, length-set}
use Rattle.std.proofs.lemmas.List.{length-append}
use Rattle.std.proofs.lemmas.List.Sums.{sum_by-set}
use Rattle.std.proofs.lemmas.Option.{slice_get_within, get_or_from_slice_get}
use Rattle.cs_graph.specs.Chains.{On}
use Rattle.cs_graph.proofs.Marks.{at_set, past_set, same_or}
use Rattle.cs_graph.proofs.Places.{on_left, on_right, on_split, on_end, on_cases, distinct_push}
use Rattle.cs_guard.specs.Found.{Marked, Added}

unmarked : (n i : ℕ) → slice_get (replicate n false) i ≡ Some true → ⊥
unmarked zero i e = cc
unmarked (suc n) zero e = cc
unmarked (suc n) (suc i) e = unmarked n i e

count_unmarked : (n : ℕ) → count_by (λ b. b) (replicate n false) ≡ 0
count_unmarked zero = refl
count_unmarked (suc n) = count_unmarked n

-- nothing is found yet
pub marked_none : (n : ℕ) → Marked (replicate n false) []
marked_none n = record { distinct = tt; on = λ i o. absurd o; marked = λ i e. absurd (unmarked n i e); many = count_unmarked n }

-- one that is new
pub added_new : (seen : List Bool) (order : List ℕ) (i : ℕ) → Marked seen order → slice_get seen i ≡ Some false → Added (i ∷ []) seen order (set seen i true) (order ++ i ∷ [])
added_new seen order i m at = record {
  marked = record {
    distinct = distinct_push i order m.distinct (λ o. let e : Some false ≡ Some true = sym at ∙ m.on i o in cc);
    on = λ j o. elim (same_or i j) [
      | inl e ↦ subst (λ k. slice_get (set seen i true) k ≡ Some true) e (at_set seen i true inside)
      | inr ne ↦ past_set seen i j true ne ∙ m.on j (elim (on_cases j i order o) [ inl a ↦ a | inr e ↦ absurd (ne (sym e)) ])
    ];
    marked = λ j e. elim (same_or i j) [
      | inl same ↦ subst (λ k. On k (order ++ i ∷ [])) same (on_end i order)
      | inr ne ↦ on_left j order (i ∷ []) (m.marked j (sym (past_set seen i j true ne) ∙ e))
    ];
    many = omega (arith, count, m.many, length-append order (i ∷ []));
  };
  long = length-set seen i true;
  more = i ∷ [];
  behind = refl;
  only = λ j o. o;
  each = λ j o. on_right j order (i ∷ []) o;
}
  where
    inside : i < length seen
    inside = slice_get_within seen i false at

    count : count_by (λ b. b) (set seen i true) ≡ count_by (λ b. b) seen + 1
    count =
        let weight : Bool → ℕ = λ b. cond b 1 0 in
        let turned = sum_by-set weight seen i true false inside in
        omega (arith, turned, ap weight (get_or_from_slice_get seen i false false at))

-- some, and then others
pub added_more : (xs ys : List ℕ) (a b c : List Bool) (o p q : List ℕ) → Added xs a o b p → Added ys b p c q → Added (xs ++ ys) a o c q
added_more xs ys a b c o p q f g = record {
  marked = g.marked;
  long = g.long ∙ f.long;
  more = f.more ++ g.more;
  behind = g.behind ∙ ap (λ zs. zs ++ g.more) f.behind ∙ append_assoc o f.more g.more;
  only = λ i h. elim (on_split i f.more g.more h) [ inl l ↦ on_left i xs ys (f.only i l) | inr r ↦ on_right i xs ys (g.only i r) ];
  each = λ i h. elim (on_split i xs ys h) [ inl l ↦ subst (On i) (sym g.behind) (on_left i p g.more (f.each i l)) | inr r ↦ g.each i r ];
}
