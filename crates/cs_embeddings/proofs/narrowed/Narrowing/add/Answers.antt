use Rattle.std.proofs.Common.{◌≡◌, ◌≤◌, true, refl, sym, ap, ◌∙◌, arith}
use Rattle.std.specs.List.{list_all}
use Rattle.std.proofs.lemmas.Map.Text.{btree_map_updates_str}
use Rattle.cs_grammar.specs.Bodies.{bodies}
use Rattle.cs_grammar.specs.Tree.{reference}
use Rattle.cs_embeddings.specs.Alternatives.{most_steps}
use Rattle.cs_embeddings.specs.Embedded.{can_be_embedded}
use Rattle.cs_embeddings.specs.Narrowed.{joins_well}
use Rattle.cs_embeddings.specs.NarrowedTable.{IsAnswer}
use Rattle.cs_embeddings.proofs.NarrowedSteps.{told_put}
use Rattle.cs_embeddings.proofs.SameSteps.{bodies_join_same}
use Rattle.cs_embeddings.proofs.Steps.{unstepped}
use Rattle.cs_embeddings.proofs.narrowed.Narrowing.add.Goals as goal

pub returns : goal.returns
returns c ds tables told =
    let name = c.args.name.now in
    let low : 128 ≤ 128 = omega arith in
    let r = reference name 0 in
    let takes = sym (c.takes.ensures ds most_steps 0 tables.bodies tables.steps low) ∙ c.if-not-takes.false in
    let can : list_all (can_be_embedded ds 127) (bodies name ds) ≡ true = unstepped ds most_steps 127 r r refl refl takes in
    let with_row = c.in_ok-add_row.ensures ds told can in
    let old = c.add_row.new.self.joins in
    let theirs = c.of_name.ensures ds told.bodies in
    let joins = c.in_ok-joins.ensures ds with_row (ap (list_all (can_be_embedded ds 127)) theirs ∙ can) ∙ ap (list_all (joins_well ds 127)) theirs in
    let puts = btree_map_updates_str name old c.insert.new.self _ c.in_ok-insert.ensures.updates in
    record {
      bodies = with_row.bodies;
      numbers = with_row.numbers;
      alone = with_row.alone;
      rows = with_row.rows;
      joins =
          told_put (IsAnswer ds (λ n es. list_all (joins_well ds n) es)) ds old c.insert.new.self name _ with_row.joins
          (λ n k. joins ∙ bodies_join_same ds 127 n (bodies name ds) can k) puts;
    }
