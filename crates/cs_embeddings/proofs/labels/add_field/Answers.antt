use Rattle.std.proofs.Common.{◌≡◌, false, true, ◌&&◌, not, sym, ap, ap₂, ◌∙◌}
use Rattle.std.specs.Str.{bytes_eq}
use Rattle.cs_grammar.specs.View.{field_view}
use Rattle.cs_grammar.proofs.Views.{view-text, view-mark}
use Rattle.cs_embeddings.specs.Gathered.{is_every}
use Rattle.cs_embeddings.specs.Narrowed.{is_labelled}
use Rattle.cs_embeddings.proofs.LabelSteps.{adds_as, adds_none, label_adds}
use Rattle.cs_embeddings.proofs.labels.add_field.Goals as goal

pub returns-in_ok-set : goal.returns-in_ok-set
returns-in_ok-set c is =
    let f = c.args.field.now in
    let n = c.of_label.new.self in
    let t = c.as_str.result.now in
    let h = c.in_ok-number.ensures is.0 in
    let one : is_every (field_view f).mark ≡ false = ap is_every (view-mark f) ∙ sym c.is_every.ensures ∙ c.if-not-is_every.true in
    let text = view-text f ∙ sym c.as_str.ensures.value in
    adds_as c.args.numbers.now n c.args.row.now.items c.set.new.row.items (λ s. bytes_eq t s) (λ s. is_labelled s (field_view f).label (field_view f).mark)
    (λ s. sym (ap₂ (λ b u. not b && bytes_eq u s) one text))
    (label_adds c.args.numbers.now n c.args.row.now.items c.set.new.row.items t c.in_ok-number.number is h.0 h.1 h.2
    c.in_ok-set.ensures.short c.in_ok-set.ensures.has)

pub returns-else-not-is_every : goal.returns-else-not-is_every
returns-else-not-is_every c is =
    let f = c.args.field.now in
    let every : is_every (field_view f).mark ≡ true = ap is_every (view-mark f) ∙ sym c.is_every.ensures ∙ c.if-not-is_every.false in
    adds_none c.args.numbers.now c.args.row.now.items (λ s. is_labelled s (field_view f).label (field_view f).mark)
    (λ s. ap (λ b. not b && bytes_eq (field_view f).label.text s) every) is
