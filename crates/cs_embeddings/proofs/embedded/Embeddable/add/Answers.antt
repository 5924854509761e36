use Rattle.std.proofs.Common.{◌≤◌, sym, ap, ◌∙◌, arith}
use Rattle.std.proofs.lemmas.Map.Text.{btree_map_updates_str}
use Rattle.std.specs.List.{list_all}
use Rattle.cs_embeddings.specs.Embedded.{can_be_embedded}
use Rattle.cs_embeddings.proofs.Steps.{round_tells, round_put, round_ill, round_kept}
use Rattle.cs_embeddings.proofs.embedded.Embeddable.add.Goals as goal

pub returns-then-contains_key-clause-tells : goal.returns-then-contains_key-clause-tells
returns-then-contains_key-clause-tells c ds names told declared rounds =
    round_kept ds c.args.self.now.steps c.args.steps names c.args.name rounds (sym c.contains_key.ensures ∙ c.if-contains_key.true)

pub returns-in_ok-push-clause-tells : goal.returns-in_ok-push-clause-tells
returns-in_ok-push-clause-tells c ds names told declared rounds =
    let m = c.args.self.now.steps in
    let n = c.args.steps in
    let low : n ≤ n = omega arith in
    let can = c.can_embed_bodies.ensures ds n told (round_tells ds c.args.self.now n names rounds) low in
    let well = ap (list_all (can_be_embedded ds n)) (sym (c.of_name.ensures ds told)) ∙ sym can ∙ c.if-can_embed_bodies.true in
    let puts = btree_map_updates_str c.args.name.now m c.insert.new.self _ c.in_ok-insert.ensures.updates in
    round_put ds m c.insert.new.self n names c.args.name rounds (sym c.contains_key.ensures ∙ c.if-contains_key.false) declared well puts

pub returns-else-can_embed_bodies-clause-tells : goal.returns-else-can_embed_bodies-clause-tells
returns-else-can_embed_bodies-clause-tells c ds names told declared rounds =
    let n = c.args.steps in
    let low : n ≤ n = omega arith in
    let can = c.can_embed_bodies.ensures ds n told (round_tells ds c.args.self.now n names rounds) low in
    let ill = ap (list_all (can_be_embedded ds n)) (sym (c.of_name.ensures ds told)) ∙ sym can ∙ c.if-can_embed_bodies.false in
    round_ill ds c.args.self.now.steps n names c.args.name rounds (sym c.contains_key.ensures ∙ c.if-contains_key.false) ill
