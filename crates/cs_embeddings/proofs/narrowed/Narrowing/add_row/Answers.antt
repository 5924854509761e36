use Rattle.std.proofs.Common.{◌≡◌, ℕ, ◌≤◌, List, [], length, ap, ◌∙◌, subst, arith}
use Rattle.std.specs.List.{list_all, list_any}
use Rattle.std.proofs.lemmas.Map.Text.{btree_map_updates_str}
use Rattle.cs_grammar.specs.Bodies.{bodies}
use Rattle.cs_embeddings.specs.Checks.{bodies_view}
use Rattle.cs_embeddings.specs.Embedded.{can_be_embedded}
use Rattle.cs_embeddings.specs.Narrowed.{declares}
use Rattle.cs_embeddings.specs.NarrowedTable.{Adds, TellsRow}
use Rattle.cs_embeddings.proofs.LabelSteps.{has_added, rows_grow}
use Rattle.cs_embeddings.proofs.NarrowedSteps.{told_put}
use Rattle.cs_embeddings.proofs.SameSteps.{any_declares_same}
use Rattle.cs_embeddings.proofs.narrowed.Narrowing.add_row.Goals as goal

pub returns : goal.returns
returns c ds told can =
    let w = c.args.self.now in
    let name = c.args.name.now in
    let steps = c.args.steps in
    let m = w.numbers in
    let n = c.add_bodies.new.numbers in
    let row = c.add_bodies.new.row in
    let theirs = c.of_name-bodies.ensures ds told.bodies in
    let empty : c.new-row.result.items ≡ [] = c.new-row.ensures.items in
    let short : length c.new-row.result.items ≤ m.count = omega (arith, ap (λ xs. length xs) empty) in
    let own = λ (s : List ℕ). list_any (declares ds steps s) (bodies_view c.of_name-bodies.result.now) in
    let adds : Adds m n [] row.items own = subst (λ xs. Adds m n xs row.items own) empty
    (c.in_ok-add_bodies.ensures ds (record { numbers = told.numbers; bodies = told.bodies; rows = told.rows }) (told.numbers, short)
    (ap (list_all (can_be_embedded ds steps)) theirs ∙ can)) in
    let good : TellsRow n ds row (bodies name ds) = (
      adds.is.1,
      λ k also s. has_added m n row.items own adds s ∙ ap (list_any (declares ds steps s)) theirs ∙ any_declares_same ds s steps k (bodies name ds) can also,
    ) in
    record {
      bodies = told.bodies;
      numbers = adds.is.0;
      alone = adds.grows.below ∙ told.alone;
      rows =
          told_put (TellsRow n ds) ds w.rows c.insert.new.self name row (rows_grow m n w.rows ds adds.grows.keeps told.rows) good
          (btree_map_updates_str name w.rows c.insert.new.self _ c.in_ok-insert.ensures.updates);
      joins = told.joins;
    }
