use Rattle.std.proofs.Common.{◌≡◌, ◌+◌, Bool, List, [], ◌∷◌, Some, None, cond, not, map, position, nat_lt, refl, sym, ap, ap₂, ◌∙◌, rules, tests}
use Rattle.std.specs.List.{prefix_len}
use Rattle.std.specs.Option.{option_and_then}
use Rattle.std.proofs.lemmas.Iterator.{YieldsList-from_slice}
use Rattle.std.proofs.lemmas.Iterator.Search.{position_from_yields_List}
use Rattle.std.proofs.lemmas.List.{length-map}
use Rattle.cs_grammar.specs.View.{file_view}
use Rattle.cs_resolve.specs.DifferingFile.{names_other}
use Rattle.cs_resolve.proofs.package_name.differing_file.Goals as goal

prefix_len-map : {X Y : Type 0} (v : X → Y) (p : Y → Bool) (xs : List X) → prefix_len p (map v xs) ≡ prefix_len (λ x. p (v x)) xs
prefix_len-map v p [] = refl
prefix_len-map v p (x ∷ xs) = ap (λ n. cond (p (v x)) (1 + n) 0) (prefix_len-map v p xs)

position-map : {X Y : Type 0} (v : X → Y) (p : Y → Bool) (xs : List X) → position p (map v xs) ≡ position (λ x. p (v x)) xs
position-map v p xs = ap₂ (λ n l. cond (nat_lt n l) (Some n) None) (prefix_len-map v (λ y. not (p y)) xs) (length-map xs v)

pub returns : goal.returns
returns c =
    let fs = c.args.files.now.items in
    let name = c.in_ok-name.name.now in
    let here = position_from_yields_List (λ f. names_other name (file_view f)) _ _ c.position.result c.position.ensures.ran (YieldsList-from_slice fs (c.iter.ensures.rest ∙ c.deref.ensures.value)) (λ x b q k. search (rules, tests)) in
    here ∙ sym (position-map file_view (names_other name) fs) ∙ ap (option_and_then (λ n. position (names_other n) (map file_view fs))) c.in_ok-name.ensures
