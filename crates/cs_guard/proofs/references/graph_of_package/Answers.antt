use Rattle.std.proofs.Common.{◌≡◌, ◌+◌, ◌<◌, ◌++◌, [], ◌∷◌, length, ap, ◌∙◌, arith}
use Rattle.std.proofs.lemmas.List.{length-append}
use Rattle.cs_graph.proofs.Marks.{graph_long}
use Rattle.cs_guard.specs.Numbered.{name_of}
use Rattle.cs_guard.specs.declared.references.Followed.TheVariants.{Strong}
use Rattle.cs_guard.proofs.Takes.{taken_strong}
use Rattle.cs_guard.proofs.GraphRows.{IsRow, row_of, rows_more}
use Rattle.cs_guard.proofs.references.graph_of_package.Goals as goal

pub loop-number-preserved : goal.loop-number-preserved
loop-number-preserved c =
    let E = c.args.package.now in
    let inv = c.loop-number.invariant in
    let vs = c.loop-number.graph.items in
    let v = c.in_ok-row.row in
    let number = c.loop-number.number in
    let grown : c.push.new.self.items ≡ vs ++ v ∷ [] = c.in_ok-push.ensures.items in
    let inside : number < length E = omega (arith, c.loop-number-test.true, c.count-count.ensures.length) in
    let row = row_of Strong E number v.items c.bodies.result.now inside c.bodies.ensures.at c.bodies.ensures.named c.bodies.ensures.known c.in_ok-row.ensures in record {
      long = ap length grown ∙ length-append vs (v ∷ []) ∙ ap (λ n. n + 1) inv.long;
      rows = rows_more (IsRow Strong E) vs c.push.new.self.items v number (graph_long vs ∙ inv.long) grown inv.rows row;
    }

pub returns-clause-graph : goal.returns-clause-graph
returns-clause-graph c =
    let inv = c.loop-number.invariant in record {
      long = omega (arith, graph_long c.loop-number.graph.items, inv.long, c.count-count.ensures.length);
      within = λ n m r. let l = (inv.rows n r.row r.found).within m r.on in omega (arith, l, graph_long c.loop-number.graph.items, inv.long, c.count-count.ensures.length);
      rows = λ i row found. (inv.rows i row found).names ∙ taken_strong c.args.package.now (name_of c.args.package.now i);
    }
