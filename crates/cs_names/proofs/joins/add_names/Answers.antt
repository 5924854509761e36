use Rattle.std.proofs.Common.{◌≡◌, [], ◌∷◌, ◌++◌, ◌+◌, false, map, take, drop, refl, sym, ap, ◌∙◌, subst, string_bytes, append_assoc}
use Rattle.cs_grammar.specs.Tree.{defined_name}
use Rattle.cs_grammar.specs.View.{definition_view}
use Rattle.cs_plain.specs.References.{TellsTexts, is_among}
use Rattle.cs_names.specs.Joined.{repeats}
use Rattle.cs_plain.proofs.Folds.{gathered_more}
use Rattle.cs_names.proofs.Tables.{first_time}
use Rattle.cs_plain.proofs.Walks.{at_place}
use Rattle.cs_names.proofs.joins.add_names.Goals as goal

pub loop-definition-preserved : goal.loop-definition-preserved
loop-definition-preserved c ss told =
    let xs = c.deref-definition-items.result.now in
    let i = c.loop-definition.definition-index in
    let d = c.definition-item.result in
    let t = string_bytes d.name in
    let done = map defined_name (map definition_view (take i xs)) in
    let before = ss ++ done in
    let rest = map defined_name (map definition_view (drop (i + 1) xs)) in
    let start = repeats ss (map defined_name (map definition_view xs)) in
    let grown = gathered_more (λ ys. map defined_name (map definition_view ys)) (λ e. string_bytes e.name ∷ []) refl (λ e es. refl) xs i d c.loop-definition-test.true c.definition-item.is in
    let more = append_assoc ss done (t ∷ []) ∙ ap (λ ys. ss ++ ys) (sym grown) in
    let inv = c.loop-definition.invariant ss told in
    let new : is_among before t ≡ false = ap (is_among before) (sym c.deref.ensures) ∙ sym (c.in_ok-is_seen.ensures.found before inv.0) ∙ c.if-is_seen.false in
    let seen = subst (λ x. TellsTexts c.is_again.new.seen (before ++ x ∷ [])) c.deref.ensures (c.in_ok-is_seen.ensures.seen before inv.0 c.if-is_seen.false) in
    let same = first_time before rest t start (inv.1 ∙ ap (λ ys. repeats before (map defined_name (map definition_view ys))) (at_place xs i d c.loop-definition-test.true c.definition-item.is)) new in
    (subst (TellsTexts c.is_again.new.seen) more seen, subst (λ ls. start ≡ repeats ls rest) more same)
