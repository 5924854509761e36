use Rattle.std.proofs.Common.{rules, ◌≡◌, true, false, map, IfOk, sym, ap, subst, ◌∙◌}
use Rattle.std.specs.Option.{option_map}
use Rattle.cs_grammar.specs.View.{expr_view}
use Rattle.cs_plain.specs.Bodies.{body_view}
use Rattle.cs_plain.specs.Checks.{fitting}
use Rattle.cs_plain.specs.Placed.{are_none}
use Rattle.cs_plain.specs.Plain.{only_plain}
use Rattle.cs_plain.specs.References.{is_among}
use Rattle.cs_plain.proofs.Values.{sole_value, some_values, value_there}
use Rattle.cs_plain.proofs.Walks.{at_place}
use Rattle.cs_plain.proofs.placed.Placing.value.Goals as goal

pub returns-in-len1 : goal.returns-in-len1
returns-in-len1 c value hides told =
    let s = c.args.name.now in
    let xs = c.of_name-2.result.now in
    let x = c.body-item.result in
    let is_named : c.contains.result ≡ true = search (rules, c.if-not-contains.false) in
    let named : is_among told.names s ≡ true = sym (told.told_names s) ∙ sym c.contains.ensures ∙ is_named in
    let declared = some_values c.of_name.result.now c.is_empty.result c.is_empty.ensures c.if-is_empty.false in
    let here : are_none (map (λ b. b.value) (map body_view c.of_name.result.now)) ≡ false = declared in
    let there = sole_value xs x c.in-len1.len_below (at_place xs 0 x c.in-len1.len_at_least c.body-item.is) in
    let is = value_there told.names told.all told.here s (map body_view c.of_name.result.now) (map body_view xs) (only_plain (expr_view x.value.now)) named
    (c.of_name.ensures told.here told.told_here) here (c.of_name-2.ensures told.all told.told_all) there in
    let whole : only_plain (expr_view x.value.now) ≡ value s = is ∙ sym (ap (λ f. f s) told.is_value) in
    subst (λ v. IfOk c.fitting.result (λ o. option_map expr_view o ≡ fitting c.args.standing v)) whole c.fitting.ensures
