use Rattle.std.proofs.Common.{◌≡◌, false, [], ◌∷◌, ◌++◌, ◌+◌, take, drop, refl, sym, ap, ◌∙◌, subst, string_bytes}
use Rattle.cs_grammar.specs.View.{fields_view}
use Rattle.cs_grammar.proofs.Views.{view-text}
use Rattle.cs_plain.specs.References.{TellsTexts, is_among}
use Rattle.cs_names.specs.Joined.{labels, repeats, has_twice}
use Rattle.cs_plain.proofs.Folds.{gathered_more}
use Rattle.cs_names.proofs.Tables.{first_time}
use Rattle.cs_plain.proofs.Walks.{at_place}
use Rattle.cs_names.proofs.joins.has_label_twice.Goals as goal

pub loop-field-preserved : goal.loop-field-preserved
loop-field-preserved c =
    let xs = c.args.fields.now in
    let i = c.loop-field.field-index in
    let f = c.field-item.result in
    let t = string_bytes f.label in
    let before = labels (fields_view (take i xs)) in
    let rest = labels (fields_view (drop (i + 1) xs)) in
    let more = gathered_more (λ ys. labels (fields_view ys)) (λ g. string_bytes g.label ∷ []) refl (λ g gs. ap (λ u. u ∷ labels (fields_view gs)) (view-text g)) xs i f c.loop-field-test.true c.field-item.is in
    let told = c.loop-field.invariant.0 in
    let new : is_among before t ≡ false = ap (is_among before) (sym c.deref.ensures) ∙ sym (c.in_ok-is_seen.ensures.found before told) ∙ c.if-is_seen.false in
    let seen = subst (λ x. TellsTexts c.is_again.new.seen (before ++ x ∷ [])) c.deref.ensures (c.in_ok-is_seen.ensures.seen before told c.if-is_seen.false) in
    let same = first_time before rest t (has_twice (labels (fields_view xs))) (c.loop-field.invariant.1 ∙ ap (λ ys. repeats before (labels (fields_view ys))) (at_place xs i f c.loop-field-test.true c.field-item.is) ∙ ap (λ u. repeats before (u ∷ rest)) (view-text f)) new in
    (subst (TellsTexts c.is_again.new.seen) (sym more) seen, subst (λ ls. has_twice (labels (fields_view xs)) ≡ repeats ls rest) (sym more) same)
