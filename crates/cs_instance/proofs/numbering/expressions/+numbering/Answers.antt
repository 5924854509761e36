use Rattle.std.proofs.Common.{◌≡◌, ℕ, ◌+◌, List, [], ◌∷◌, ◌++◌, map, take, refl, sym, ap, ◌∙◌, subst, take_all}
use Rattle.std.proofs.lemmas.List.{map-append}
use Rattle.cs_package.specs.Expression as cue
use Rattle.cs_package.specs.View.{expression_of, expressions_of, declarations_of, part_of, rest_of as end_of}
use Rattle.cs_instance.specs.Placing.{PlacesAll, named, named_all}
use Rattle.cs_instance.proofs.Placed.{simply_placed, same_places}
use Rattle.cs_instance.proofs.Pushed.{place_push}
use Rattle.cs_instance.proofs.Places.{take_at}
use Rattle.cs_instance.proofs.Ready.{joined_and, joined_or, any_numbers}
use Rattle.cs_instance.proofs.Views.{simple_asked}
use Rattle.cs_instance.proofs.numbering.expressions.+numbering.Goals as goal

pub place-returns-in-Simple : goal.place-returns-in-Simple
place-returns-in-Simple t c =
    let s = c.args.shape in
    let means = c.in-Simple.ensures.means in
    let simple = λ (names : List (List ℕ)). simple_asked c.in-Simple.field-0 (expression_of [] s.now) (expression_of names s.now) (means []) (means names) in
    simply_placed c.put.result c.args.numbers.now c.args.numberer.now c.put.new.self s c.put.ensures.number c.put.ensures.pending simple

pub place-returns-in-Definition : goal.place-returns-in-Definition
place-returns-in-Definition t c =
    let r = c.put_reference in
    same_places r.result c.args.numbers.now c.args.numberer.now r.new.numberer (named c.args.shape.now) _ c.in-Definition.ensures.means r.ensures

pub place-returns-in-Struct : goal.place-returns-in-Struct
place-returns-in-Struct t c =
    let r = c.put_struct in
    let e = λ (names : List (List ℕ)). cue.struct (declarations_of (map (part_of names) c.in-Struct.parts.now)) c.in-Struct.opened in
    same_places r.result c.args.numbers.now c.args.numberer.now r.new.numberer (named c.args.shape.now) e c.in-Struct.ensures.means
    (any_numbers r.result c.args.numbers.now c.args.numberer.now r.new.numberer e (λ names. refl) r.ensures)

pub place-returns-in-List : goal.place-returns-in-List
place-returns-in-List t c =
    let r = c.put_list in
    let e = λ (names : List (List ℕ)). cue.list (named_all c.in-List.front.now names) (end_of names c.in-List.end.now) in
    same_places r.result c.args.numbers.now c.args.numberer.now r.new.numberer (named c.args.shape.now) e c.in-List.ensures.means
    (any_numbers r.result c.args.numbers.now c.args.numberer.now r.new.numberer e (λ names. refl) r.ensures)

pub place-returns-in_ok-parts-in-And : goal.place-returns-in_ok-parts-in-And
place-returns-in_ok-parts-in-And t c =
    let es = named_all c.in-And.operands.now in
    let put = c.put-in-And in
    same_places put.result c.args.numbers.now c.args.numberer.now put.new.self (named c.args.shape.now) (λ names. cue.conjunction (es names)) c.in-And.ensures.means
    (joined_and put.result c.args.numbers.now c.args.numberer.now c.place_all.new.numberer put.new.self c.in_ok-parts-in-And.parts es put.ensures.number put.ensures.pending c.in_ok-parts-in-And.ensures)

pub place-returns-in_ok-parts-in-Or : goal.place-returns-in_ok-parts-in-Or
place-returns-in_ok-parts-in-Or t c =
    let es = named_all c.in-Or.operands.now in
    let put = c.put-in-Or in
    same_places put.result c.args.numbers.now c.args.numberer.now put.new.self (named c.args.shape.now) (λ names. cue.disjunction (es names)) c.in-Or.ensures.means
    (joined_or put.result c.args.numbers.now c.args.numberer.now c.place_all-in-Or.new.numberer put.new.self c.in_ok-parts-in-Or.parts es put.ensures.number put.ensures.pending c.in_ok-parts-in-Or.ensures)

pub place_all-loop-shape-preserved : goal.place_all-loop-shape-preserved
place_all-loop-shape-preserved t c =
    let l = c.loop-shape in
    let xs = c.args.shapes.now in
    let x = c.shape-item.result in
    let numbers = c.args.numbers.now in
    let first = c.args.numberer.now in
    let new = c.place.new.numberer in
    let more : take (l.shape-index + 1) xs ≡ take l.shape-index xs ++ x ∷ [] = take_at xs l.shape-index x c.loop-shape-test.true c.shape-item.is in
    let all = λ (names : List (List ℕ)). ap (map (expression_of names)) more ∙ map-append (expression_of names) (take l.shape-index xs) (x ∷ []) in
    let next = place_push numbers first l.numberer new (λ names. map (expression_of names) (take l.shape-index xs)) (named x) l.parts.items c.in_ok-part.part l.invariant c.in_ok-part.ensures in
    λ names.
    subst (PlacesAll numbers first new (named_all (take (l.shape-index + 1) xs))) (sym c.in_ok-push.ensures.items)
    (subst (λ (f : List (List ℕ) → List cue.Expression). PlacesAll numbers first new (λ names. expressions_of (f names)) (l.parts.items ++ c.in_ok-part.part ∷ [])) (λ i names. sym (all names) i) next) names

pub place_all-returns : goal.place_all-returns
place_all-returns t c =
    let l = c.loop-shape in
    subst (λ ys. PlacesAll c.args.numbers.now c.args.numberer.now l.numberer (named_all ys) l.parts.items) (take_all l.shape-index c.args.shapes.now c.loop-shape-test.false) l.invariant
