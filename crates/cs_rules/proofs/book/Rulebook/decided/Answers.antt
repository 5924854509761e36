use Rattle.std.proofs.Common.{◌≡◌, ◌<◌, Some, refl, sym, subst, length, arith}
use Rattle.std.specs.Prelude.{slice_get}
use Rattle.std.proofs.Math.Logic.{∥∥₁_elim}
use Rattle.std.proofs.lemmas.Option.{slice_get_read}
use Rattle.cs_flat.specs.Listed.{values}
use Rattle.cs_flat.specs.View.{item_view}
use Rattle.cs_rules.specs.Answers.{answer}
use Rattle.cs_rules.specs.Kinds.{kind_place}
use Rattle.cs_rules.specs.Rows.{AreRowsOf}
use Rattle.cs_rules.proofs.Decided.{is_decided, is_decided-prop}
use Rattle.cs_rules.proofs.book.Rulebook.decided.Goals as goal

pub returns-clause-decided : goal.returns-clause-decided
returns-clause-decided g c =
    let s = c.args.self.now in
    let step = g.R.Asks.step in
    let rules = s.numbering.rules.items in
    let children = s.numbering.children.items in
    let ns = values c.args.flat.now in
    let xs = c.args.flat.now in
    let x = item_view c.item.result in
    let rows = c.in_ok-rows.rows.now in
    let is : s.rows ≡ Some rows = sym c.in_ok-rows.ensures.value in
    let p = c.place_of-kind.result in
    ∥∥₁_elim s.told (is_decided-prop (length rules) (answer step rules children ns xs) c.args.item _)
    (λ h. let have = subst (AreRowsOf step rules) is h in
    let below : p < length rows.left.items = omega (arith, c.place_of-kind.ensures.below, have.2.left.count) in
    let there = slice_get_read rows.left.items (length rows.left.items) p c.index.result.now refl below c.index.ensures in
    let found : slice_get rows.left.items (kind_place x) ≡ Some c.index.result.now = subst (λ q. slice_get rows.left.items q ≡ Some c.index.result.now) c.place_of-kind.ensures.place there in
    is_decided step rules children ns xs c.len-count.ensures.items have.0 have.1 rows have.2 c.args.item x c.item.ensures.found c.index.result.now found _ refl c.place_of-kind.ensures.place c.deref.ensures.value)
