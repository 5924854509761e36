use Rattle.std.proofs.Common.{rules, ◌≡◌, ℕ, List, Option, Some}
use Rattle.std.specs.Option.{option_map}
use Rattle.cs_grammar.specs.View.{expr_view}
use Rattle.cs_grammar.specs.Referred.{referred}
use Rattle.cs_embeddings.specs.NarrowedTable.{TellsRow}
use Rattle.cs_embeddings.proofs.NarrowedSteps.{told_at}
use Rattle.cs_embeddings.proofs.ReferredRows.{row_of_name}
use Rattle.cs_embeddings.proofs.narrowed.Narrowing.known_row.Goals as goal

pub returns : goal.returns
returns c ds steps told can =
    let w = c.args.self.now in
    let t = c.in_ok-referred.field-0.now in
    let is : referred (expr_view c.args.expr.now) ≡ Some t = search rules in
    let at : option_map (λ v. v.now) c.get.result ≡ told_at (TellsRow w.numbers ds) ds t w.rows = search rules in
    row_of_name ds w.numbers w.rows told.rows steps (expr_view c.args.expr.now) t is can c.get.result at
