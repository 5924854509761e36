use Rattle.std.proofs.Common.{◌≡◌, ℕ, ◌+◌, ◌<◌, List, [], ◌∷◌, ◌++◌, map, length, take, get_or, sym, ap, ◌∙◌, subst}
use Rattle.std.specs.Prelude.{IfSome, Contains}
use Rattle.std.specs.List.{AllByRecursion as Each}
use Rattle.std.proofs.lemmas.List.{map-append, take_more}
use Rattle.std.proofs.lemmas.List.Elements.{All-get_or}
use Rattle.cs_guard.specs.References.{strong_of}
use Rattle.cs_guard.specs.Guarded.{IsHeight}
use Rattle.cs_guard.proofs.Numbers.{name_within}
use Rattle.cs_instance.specs.Ranked.{IsRank}
use Rattle.cs_rules.proofs.Lists.{each_push}
use Rattle.cs_instance.proofs.numbering.definitions.with_ranks.Goals as goal

pub loop-number-preserved : goal.loop-number-preserved
loop-number-preserved c =
    let l = c.loop-number in
    let E = c.args.«package».now in
    let xs = c.args.order.now in
    let i = get_or xs l.number-index 0 in
    let d : ℕ × ℕ = (c.rank.result, i) in
    let more : take (l.number-index + 1) xs ≡ take l.number-index xs ++ i ∷ [] = take_more xs l.number-index 0 c.loop-number-test.true in
    let within : i < length E = All-get_or (λ k. k < length E) xs l.number-index 0 c.loop-number-test.true c.requires in
    let put = c.in_ok-push.ensures.items in
    let rank : IsRank E i c.rank.result = record {
      within = within;
      height = subst (λ o. IfSome o (λ n. IsHeight E n c.rank.result)) (name_within E i within) c.rank.ensures.height;
      falls = subst (λ o. IfSome o (λ n. (m : List ℕ) (h : ℕ) → Contains (strong_of E n) m → IsHeight E m h → h < c.rank.result)) (name_within E i within) c.rank.ensures.falls;
    } in
    record {
      numbers = ap (map (λ (x : ℕ × ℕ). x.1)) put ∙ map-append (λ (x : ℕ × ℕ). x.1) l.ranked.items (d ∷ []) ∙ ap (λ ys. ys ++ i ∷ []) l.invariant.numbers ∙ sym more;
      ranks = subst (Each (λ (x : ℕ × ℕ). IsRank E x.1 x.0)) (sym put) (each_push (λ (x : ℕ × ℕ). IsRank E x.1 x.0) l.ranked.items d l.invariant.ranks rank);
    }
