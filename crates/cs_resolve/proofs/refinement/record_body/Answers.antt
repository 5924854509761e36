use Rattle.std.proofs.Common.{None, sym, ap, ◌∙◌}
use Rattle.std.proofs.lemmas.Map.Text.{hash_map_updates_str}
use Rattle.cs_grammar.specs.View.{expr_view}
use Rattle.cs_resolve.specs.Declarations.{bodies_of}
use Rattle.cs_resolve.specs.Narrowed.{sole_body}
use Rattle.cs_resolve.proofs.SoleBodies.{pick, pick_again, pick_first, sole_recorded}
use Rattle.cs_resolve.proofs.refinement.record_body.Goals as goal

pub returns-in_ok-insert : goal.returns-in_ok-insert
returns-in_ok-insert c ds held =
    let d = c.args.definition.now in
    let name = c.as_str-name.result.now in
    let same = c.as_str-name.ensures.value in
    let picked = pick_again _ _ (expr_view d.body) (held name) (sym c.contains_key.ensures ∙ c.if-contains_key.true) in
    sole_recorded c.args.bodies.now c.insert.new.self ds d None held (picked ∙ ap (λ u. pick (sole_body (bodies_of u ds)) (expr_view d.body)) same) name same (hash_map_updates_str name c.args.bodies.now c.insert.new.self _ c.in_ok-insert.ensures.updates)

pub returns-in_ok-insert-2 : goal.returns-in_ok-insert-2
returns-in_ok-insert-2 c ds held =
    let d = c.args.definition.now in
    let name = c.as_str-name.result.now in
    let same = c.as_str-name.ensures.value in
    let picked = pick_first _ _ (expr_view d.body) (held name) (sym c.contains_key.ensures ∙ c.if-contains_key.false) in
    sole_recorded c.args.bodies.now c.insert-else-contains_key.new.self ds d _ held (picked ∙ ap (λ u. pick (sole_body (bodies_of u ds)) (expr_view d.body)) same) name same (hash_map_updates_str name c.args.bodies.now c.insert-else-contains_key.new.self _ c.in_ok-insert-2.ensures.updates)
