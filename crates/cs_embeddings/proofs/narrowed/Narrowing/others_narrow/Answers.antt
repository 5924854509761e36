use Rattle.std.proofs.Common.{◌≡◌, ℕ, List, Some, sym, ap, ◌∙◌, subst}
use Rattle.cs_grammar.specs.View.{expr_view, exprs_view}
use Rattle.cs_embeddings.specs.Narrowed.{declares}
use Rattle.cs_embeddings.specs.NarrowedTable.{IsRowOf, has_label}
use Rattle.cs_embeddings.proofs.LabelSteps.{has_added, rows_grow}
use Rattle.cs_embeddings.proofs.SameSteps.{others_same}
use Rattle.cs_embeddings.proofs.narrowed.Narrowing.others_narrow.Goals as goal

pub returns-in-Some : goal.returns-in-Some
returns-in-Some c ds told can =
    let w = c.args.self.now in
    let k = c.args.steps in
    let e = expr_view c.args.expr.now in
    let known = subst (IsRowOf w.numbers ds k e) c.in-Some.is (c.known_row.ensures ds k told can) in
    let has : (s : List ℕ) → has_label w.numbers c.deref.result.now s ≡ declares ds k s e =
    λ s. ap (λ xs. has_label w.numbers xs s) c.deref.ensures.value ∙ known s in
    c.others_narrow.ensures
    ∙ others_same (has_label w.numbers c.deref.result.now) (λ s. declares ds k s e) has (exprs_view c.args.operands.now)

pub returns : goal.returns
returns c ds told can =
    let w = c.args.self.now in
    let k = c.args.steps in
    let e = expr_view c.args.expr.now in
    let m = c.above-numbers.result in
    let n = c.row_of.new.numbers in
    let above = c.above-numbers.ensures told.alone told.numbers in
    let rows = rows_grow w.numbers m w.rows ds above.1 told.rows in
    let row = c.in_ok-row.row.items in
    let adds = c.in_ok-row.ensures ds (record { numbers = above.0; bodies = told.bodies; rows = rows }) can in
    let lent : c.deref-2.result.now ≡ row = c.deref-2.ensures.value in
    let has : (s : List ℕ) → has_label n c.deref-2.result.now s ≡ declares ds k s e =
    λ s. ap (λ xs. has_label n xs s) lent ∙ has_added m n row (λ t. declares ds k t e) adds s in
    c.others_narrow-2.ensures ∙ others_same (has_label n c.deref-2.result.now) (λ s. declares ds k s e) has (exprs_view c.args.operands.now)
