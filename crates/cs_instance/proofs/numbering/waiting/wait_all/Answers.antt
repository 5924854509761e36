use Rattle.std.proofs.Common.{◌≡◌, ℕ, ◌+◌, ◌<◌, List, [], ◌∷◌, ◌++◌, map, length, take, refl, sym, ap, ◌∙◌, subst, append-nil, take_all}
use Rattle.std.specs.List.{AllByRecursion as Each}
use Rattle.std.proofs.lemmas.List.{map-append}
use Rattle.cs_package.specs.View.{expression_of}
use Rattle.cs_instance.specs.Placing.{waiting, expression_at, ElementsWait}
use Rattle.cs_instance.proofs.Places.{waits_push, places_push, below_push, take_at, longer_one}
use Rattle.cs_instance.proofs.numbering.waiting.wait_all.Goals as goal

pub loop-shape-init : goal.loop-shape-init
loop-shape-init c =
    let n = c.args.numberer.now in
    let none : ElementsWait [] n n [] = record { rules = refl; waits = λ names. sym (append-nil (waiting names n)); are = λ names. refl; below = tt } in
    subst (ElementsWait [] n n) (sym c.in_ok-places.ensures.items) none

pub loop-shape-preserved : goal.loop-shape-preserved
loop-shape-preserved c =
    let l = c.loop-shape in
    let old = l.numberer in
    let new = c.wait.new.self in
    let xs = take l.shape-index c.args.shapes.now in
    let x = c.shape-item.result in
    let wait = c.in_ok-place.ensures in
    let grown = wait.place.1 in
    let more : take (l.shape-index + 1) c.args.shapes.now ≡ xs ++ x ∷ [] = take_at c.args.shapes.now l.shape-index x c.loop-shape-test.true c.shape-item.is in
    let all = λ (names : List (List ℕ)). ap (map (expression_of names)) more ∙ map-append (expression_of names) xs (x ∷ []) in
    let put : c.push.new.self.items ≡ l.places.items ++ length old.pending.items ∷ [] = c.in_ok-push.ensures.items ∙ ap (λ k. l.places.items ++ k ∷ []) wait.place.0 in record {
      rules = wait.rules ∙ l.invariant.rules;
      waits = λ names. let first = waiting names c.args.numberer.now in waits_push names old new _ grown first (map (expression_of names) xs) (l.invariant.waits names) ∙ ap (λ es. first ++ es) (sym (all names));
      are = λ names. ap (map (expression_at (waiting names new))) put ∙ places_push names old new _ grown l.places.items (map (expression_of names) xs) l.invariant.below (l.invariant.are names) ∙ sym (all names);
      below =
          let n = length old.pending.items in
          subst (Each (λ p. p < length new.pending.items)) (sym put) (below_push (λ p. p) n (length new.pending.items) l.places.items n (longer_one old.pending.items new.pending.items _ grown) l.invariant.below refl);
    }

pub returns : goal.returns
returns c = subst (λ xs. ElementsWait xs c.args.numberer.now c.loop-shape.numberer c.loop-shape.places.items) (take_all c.loop-shape.shape-index c.args.shapes.now c.loop-shape-test.false) c.loop-shape.invariant
