use Rattle.std.proofs.Common.{◌≡◌, ℕ, ◌+◌, ◌<◌, inl, inr, List, [], ◌∷◌, ◌++◌, Contains, length, map, take, sym, ap, ◌∙◌, subst, arith}
use Rattle.std.specs.List.{AllByRecursion as Each}
use Rattle.std.proofs.lemmas.Bool.{cases_lt}
use Rattle.std.proofs.lemmas.List.{length-map, map-append, take_all, take_more}
use Rattle.std.proofs.lemmas.List.Elements.{All-from_recursion}
use Rattle.cs_graph.specs.Chains.{On}
use Rattle.cs_guard.specs.Numbered.{name_of}
use Rattle.cs_guard.specs.Reachable.{referred_of}
use Rattle.cs_guard.proofs.Numbers.{contains_on}
use Rattle.cs_package.specs.Environment.{declared_names}
use Rattle.cs_rules.proofs.Lists.{each_push}
use Rattle.cs_instance.proofs.Ordered.{names_at}
use Rattle.cs_instance.proofs.Wholes.{all_declared}
use Rattle.cs_instance.proofs.numbering.whole.every.Goals as goal

pub loop-i-preserved : goal.loop-i-preserved
loop-i-preserved c =
    let E = c.args.«package».now in
    let l = c.loop-i in
    let i = l.i in
    let names = declared_names E in
    let within : i < length E = omega (arith, c.loop-i-test.true, c.count-count.ensures.length) in
    let long : length names ≡ length E = length-map E _ in
    let put = c.in_ok-push.ensures.items in
    let more : take (i + 1) names ≡ take i names ++ name_of E i ∷ [] = take_more names i [] (omega (arith, within, long)) ∙ ap (λ n. take i names ++ n ∷ []) (names_at E i) in
    let here : (m : List ℕ) → Contains (referred_of E (name_of E i)) m → On m names = λ m k.
    all_declared E c.in_ok-_referred._referred.items m c.in_ok-_referred.ensures.within (subst (On m) (sym c.in_ok-_referred.ensures.names) (contains_on m (referred_of E (name_of E i)) k)) in
    record {
      within = subst (Each (λ k. k < length E)) (sym put) (each_push (λ k. k < length E) l.numbers.items i l.invariant.within within);
      names = ap (map (name_of E)) put ∙ map-append (name_of E) l.numbers.items (i ∷ []) ∙ ap (λ ns. ns ++ name_of E i ∷ []) l.invariant.names ∙ sym more;
      closed = λ j m less k. elim (cases_lt j i) [
        | inl before ↦ l.invariant.closed j m before k
        | inr past ↦ let at : j ≡ i = omega (arith, less, past) in here m (subst (λ n. Contains (referred_of E (name_of E n)) m) at k)
      ];
    }

pub returns-clause-within : goal.returns-clause-within
returns-clause-within c = All-from_recursion (λ k. k < length c.args.«package».now) c.loop-i.numbers.items c.loop-i.invariant.within

pub returns-clause-names : goal.returns-clause-names
returns-clause-names c =
    let E = c.args.«package».now in
    let long : length (declared_names E) ≡ length E = length-map E _ in
    c.loop-i.invariant.names ∙ take_all c.loop-i.i (declared_names E) (omega (arith, c.loop-i-test.false, c.count-count.ensures.length, long))

pub returns-clause-closed : goal.returns-clause-closed
returns-clause-closed c = λ i m less k. c.loop-i.invariant.closed i m (omega (arith, less, c.loop-i-test.false, c.count-count.ensures.length)) k
