-- Conditions one behind the other: what is at fault with them, and the alternatives.
use Rattle.std.proofs.Common.{◌≡◌, ℕ, ◌+◌, ◌<◌, ◌≤◌, Bool, true, false, List, [], ◌∷◌, ◌++◌, map, drop, take, length, get_or, sym, ap, ap₂, subst, ◌∙◌}
use Rattle.std.proofs.lemmas.List.{map-append, take_all}
use Rattle.cs_grammar.specs.Tree.{Tree, Condition, Declarations, struct}
use Rattle.cs_grammar.specs.View.{Seen, fields_of, condition_view}
use Rattle.cs_grammar.specs.declared.ast.Condition as code
use Rattle.cs_conditions.specs.Asked.{asked}
use Rattle.cs_conditions.specs.Checks.{EndsAt, all_held}
use Rattle.cs_conditions.specs.Choice.{choices, taken}
use Rattle.cs_conditions.specs.Faults.{condition_flaws, chain_flaws}
use Rattle.cs_conditions.specs.Known.{Knowledge}
use Rattle.cs_conditions.specs.declared.flaws.Flaw.{Flaw}
use Rattle.cs_conditions.specs.declared.flaws.Stop.{Stop}
use Rattle.cs_conditions.proofs.Found.{ends_left}
use Rattle.cs_conditions.proofs.Walks.{at_place, take_at, drop_all, none_left}

abbrev seen : List code.Condition → List Condition
seen cs = map condition_view cs

seen_more : (cs : List code.Condition) (i : ℕ) (c : code.Condition) → i < length cs → c ≡ get_or cs i c → seen (take (i + 1) cs) ≡ seen (take i cs) ++ condition_view c ∷ []
seen_more cs i c l is = ap seen (take_at cs i c l is) ∙ map-append condition_view (take i cs) (c ∷ [])

module _ (known : Knowledge) (all : Declarations) (e : Tree) where
  abbrev chain : List code.Condition → List code.Condition → List Flaw
  chain before cs = chain_flaws known all e (seen before) (seen cs)

  abbrev own : List code.Condition → code.Condition → List Flaw
  own before c = condition_flaws (asked known (condition_view c).label all) e (seen before) (condition_view c)

  module _ (cs : List code.Condition) (i : ℕ) (c : code.Condition) (l : i < length cs) (is : c ≡ get_or cs i c) (whole : chain [] cs ≡ chain (take i cs) (drop i cs)) where
    cut : chain [] cs ≡ own (take i cs) c ++ chain (take (i + 1) cs) (drop (i + 1) cs)
    cut =
        whole
        ∙ ap (chain (take i cs)) (at_place cs i c l is)
        ∙ ap (λ before. own (take i cs) c ++ chain_flaws known all e before (seen (drop (i + 1) cs))) (sym (seen_more cs i c l is))

    pub chain_more : own (take i cs) c ≡ [] → chain [] cs ≡ chain (take (i + 1) cs) (drop (i + 1) cs)
    chain_more none = cut ∙ none_left (own (take i cs) c) (chain (take (i + 1) cs) (drop (i + 1) cs)) none

    pub chain_here : (x : Stop) → EndsAt x (own (take i cs) c) → EndsAt x (chain [] cs)
    chain_here x h = subst (EndsAt x) (sym cut) (ends_left (own (take i cs) c) (chain (take (i + 1) cs) (drop (i + 1) cs)) x h)

  pub chain_done : (cs : List code.Condition) (i : ℕ) → length cs ≤ i → chain [] cs ≡ chain (take i cs) (drop i cs) → chain [] cs ≡ []
  chain_done cs i l whole = whole ∙ ap (chain (take i cs)) (drop_all cs i l)

-- ---- alternatives

module _ (by : Condition → Bool → Seen) (o : ℕ) (e : Tree) where
  -- those in which the first i conditions hold
  abbrev pub from : List code.Condition → ℕ → List Tree
  from cs i = choices by o e (all_held by (seen (take i cs))) (seen (drop i cs))

  -- and those in which one fails behind so many
  abbrev pub fails : List code.Condition → code.Condition → Tree
  fails before c = struct o (fields_of (all_held by (seen before) ++ by (condition_view c) false ∷ [])) false

  held_more : (cs : List code.Condition) (i : ℕ) (c : code.Condition) → i < length cs → c ≡ get_or cs i c → all_held by (seen (take (i + 1) cs)) ≡ all_held by (seen (take i cs)) ++ by (condition_view c) true ∷ []
  held_more cs i c l is = ap (all_held by) (seen_more cs i c l is) ∙ map-append (λ (x : Condition). by x true) (seen (take i cs)) (condition_view c ∷ [])

  pub one_fails : (cs : List code.Condition) (i : ℕ) (c : code.Condition) → i < length cs → c ≡ get_or cs i c → from cs i ≡ from cs (i + 1) ++ fails (take i cs) c ∷ []
  one_fails cs i c l is =
      ap (λ xs. choices by o e (all_held by (seen (take i cs))) (seen xs)) (at_place cs i c l is)
      ∙ ap (λ before. choices by o e before (seen (drop (i + 1) cs)) ++ fails (take i cs) c ∷ []) (sym (held_more cs i c l is))

  -- all of them hold
  pub all_hold : (cs : List code.Condition) (i : ℕ) → length cs ≤ i → from cs i ≡ taken o e (all_held by (seen cs)) ∷ []
  all_hold cs i l = ap₂ (λ xs ys. choices by o e (all_held by (seen xs)) (seen ys)) (take_all i cs l) (drop_all cs i l)

  -- one more fails, where j more hold than so many
  pub fails_more : (cs : List code.Condition) (i j : ℕ) (c : code.Condition) (es fs : List Tree) (f : Tree) → j < length cs → i ≡ j + 1 → c ≡ get_or cs j c → es ≡ from cs i → fs ≡ es ++ f ∷ [] → f ≡ fails (take j cs) c → fs ≡ from cs j
  fails_more cs i j c es fs f l next is before grown this =
      grown ∙ ap₂ (λ xs x. xs ++ x ∷ []) (before ∙ ap (from cs) next) this ∙ sym (one_fails cs j c l is)
