use Rattle.std.proofs.Common.{sym, ap, ◌||◌, ◌∙◌}
use Rattle.std.proofs.lemmas.Bool.{or_left}
use Rattle.std.specs.List.{filter, list_any}
use Rattle.cs_grammar.proofs.Views.{view-text}
use Rattle.cs_embeddings.specs.ClashTable.{is_of_label, is_of_every, opens}
use Rattle.cs_embeddings.specs.Views.{brought_view}
use Rattle.cs_embeddings.proofs.Clashing.{differs_every, differs_label}
use Rattle.cs_embeddings.proofs.clashes.Seen.differs.Goals as goal

pub returns-then-is_every : goal.returns-then-is_every
returns-then-is_every c before is told =
    c.differs.ensures before is told.all ∙ differs_every before (brought_view c.args.brought) (sym c.is_every.ensures ∙ c.if-is_every.true)

pub returns-then-differs : goal.returns-then-differs
returns-then-differs c before is told =
    let d = brought_view c.args.brought in
    let s = c.as_str.result.now in
    let label = view-text c.args.brought.field.now ∙ sym c.as_str.ensures.value in
    let every = c.differs-2.ensures (filter is_of_every before) is told.every in
    c.if-differs.true
    ∙ sym (or_left (list_any (opens d) (filter is_of_every before)) (list_any (opens d) (filter (is_of_label s) before)) (sym every ∙ c.if-differs.true))
    ∙ differs_label before d s label (sym c.is_every.ensures ∙ c.if-is_every.false)

pub returns-else-differs : goal.returns-else-differs
returns-else-differs c before is told =
    let d = brought_view c.args.brought in
    let s = c.as_str.result.now in
    let label = view-text c.args.brought.field.now ∙ sym c.as_str.ensures.value in
    let every = c.differs-2.ensures (filter is_of_every before) is told.every in
    c.differs-else-differs.ensures (filter (is_of_label s) before) is (c.of_label-own.ensures before told)
    ∙ sym (ap (λ b. b || list_any (opens d) (filter (is_of_label s) before)) (sym every ∙ c.if-differs.false))
    ∙ differs_label before d s label (sym c.is_every.ensures ∙ c.if-is_every.false)
