use Rattle.std.proofs.Common.{◌≡◌, ℕ, Bool, List, Bor, map, is_some, string_bytes, sym, ap, ◌∙◌}
use Rattle.std.specs.List.{list_all}
use Rattle.std.specs.List.Sorted.{IsPermutation}
use Rattle.std.proofs.lemmas.List.{take_all}
use Rattle.std.proofs.lemmas.List.Folds.{list_all-map, list_all_at}
use Rattle.cs_document.specs.Document.{under}
use Rattle.cs_flat.specs.View.{entry_of, text_of}
use Rattle.cs_flat.proofs.Permuted.{list_all-IsPermutation}
use Rattle.cs_flat.proofs.names.Names.are_keys.Goals as goal

-- each in the order of the look-ups, and in the given one
in_order : (p : List ℕ → Bool) (given texts : List (List ℕ)) (sorted names : List (Bor (List ℕ))) → IsPermutation given (map text_of sorted) → given ≡ texts → names ≡ sorted
    → list_all (λ t. p (text_of t)) names ≡ list_all p texts
in_order p given texts sorted names same is asked =
    ap (list_all (λ t. p (text_of t))) asked ∙ sym (list_all-map p text_of sorted) ∙ sym (list_all-IsPermutation p given (map text_of sorted) same) ∙ ap (list_all p) is

pub returns-then-is_none : goal.returns-then-is_none
returns-then-is_none c =
    let p : List ℕ → Bool = λ k. is_some (under k (map entry_of c.args.entries.now)) in
    let names = c.deref-name-items.result.now in
    let missed = list_all_at (λ t. p (text_of t)) names c.loop-name.name-index _ c.loop-name-test.true (ap is_some (sym c.next_under.ensures) ∙ c.if-is_none.ensures) in
    sym missed ∙ in_order p (map string_bytes c.self.inside.texts.now) c.args.self.now c.self.inside.sorted.items names c.self.invariant c.self.view_is c.deref-name-items.ensures.value

pub returns : goal.returns
returns c =
    let p : List ℕ → Bool = λ k. is_some (under k (map entry_of c.args.entries.now)) in
    let names = c.deref-name-items.result.now in
    let all = ap (list_all (λ t. p (text_of t))) (sym (take_all c.loop-name.name-index names c.loop-name-test.false)) ∙ c.loop-name.invariant in
    sym all ∙ in_order p (map string_bytes c.self.inside.texts.now) c.args.self.now c.self.inside.sorted.items names c.self.invariant c.self.view_is c.deref-name-items.ensures.value
