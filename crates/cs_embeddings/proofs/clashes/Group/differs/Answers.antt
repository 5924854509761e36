use Rattle.std.proofs.Common.{◌||◌, sym, ap, ◌∙◌}
use Rattle.std.proofs.lemmas.Bool.{or_left}
use Rattle.std.specs.List.{filter, list_any}
use Rattle.cs_embeddings.specs.Clashes.{are_apart}
use Rattle.cs_embeddings.specs.ClashTable.{is_beside, is_not_beside, is_elsewhere, is_unlike}
use Rattle.cs_embeddings.specs.Views.{brought_view}
use Rattle.cs_embeddings.proofs.Clashing.{known, apart_beside, apart_elsewhere}
use Rattle.cs_embeddings.proofs.clashes.Group.differs.Goals as goal

pub returns-then-is_same_embedding : goal.returns-then-is_same_embedding
returns-then-is_same_embedding c before told =
    let d = brought_view c.args.brought in
    let f = c.in-Some.first in
    let w = known c.args.self before f c.in-Some.is told d in
    c.differ.ensures (filter (is_not_beside (brought_view f)) before) w.1.others
    ∙ apart_beside c.args.self before f c.in-Some.is told d (sym c.is_same_embedding.ensures ∙ c.if-is_same_embedding.true)

pub returns-then-differ : goal.returns-then-differ
returns-then-differ c before told =
    let d = brought_view c.args.brought in
    let f = c.in-Some.first in
    let w = known c.args.self before f c.in-Some.is told d in
    let differ = c.differ-else-is_same_embedding.ensures (filter (is_beside (brought_view f)) before) w.1.own in
    c.if-differ.true
    ∙ sym (or_left (list_any (is_unlike d.value) (filter (is_beside (brought_view f)) before))
    (list_any (is_elsewhere d.embedding) (filter (are_apart (brought_view f)) before)) (sym differ ∙ c.if-differ.true))
    ∙ apart_elsewhere c.args.self before f c.in-Some.is told d (sym c.is_same_embedding.ensures ∙ c.if-is_same_embedding.false)

pub returns-else-differ : goal.returns-else-differ
returns-else-differ c before told =
    let d = brought_view c.args.brought in
    let f = c.in-Some.first in
    let w = known c.args.self before f c.in-Some.is told d in
    let differ = c.differ-else-is_same_embedding.ensures (filter (is_beside (brought_view f)) before) w.1.own in
    c.has_other.ensures (filter (are_apart (brought_view f)) before) w.1.apart
    ∙ sym (ap (λ b. b || list_any (is_elsewhere d.embedding) (filter (are_apart (brought_view f)) before)) (sym differ ∙ c.if-differ.false))
    ∙ apart_elsewhere c.args.self before f c.in-Some.is told d (sym c.is_same_embedding.ensures ∙ c.if-is_same_embedding.false)
