use Rattle.std.proofs.Common.{◌≡◌, ◌∷◌, ◌++◌, [], length, map, filter, arith, sym, ap, ◌∙◌, append_assoc}
use Rattle.std.proofs.lemmas.List.{append-nil}
use Rattle.std.specs.Vec.Iter.{into_iter_items}
use Rattle.cs_grammar.specs.View.{definition_view}
use Rattle.cs_plain.specs.Placed.{is_kept}
use Rattle.cs_plain.proofs.Gone.{filter_first, nothing_left}
use Rattle.cs_plain.proofs.files.kept_definitions.Goals as goal

pub loop-definition-preserved : goal.loop-definition-preserved
loop-definition-preserved c =
    let l = c.loop-definition in
    let x = c.in-Some.definition in
    let steps : into_iter_items l.definition-iterator ≡ x ∷ into_iter_items c.next.new.self = c.in-Some.ensures.steps.0 in
    let was = l.invariant.long in
    let gone = c.in-Some.ensures.steps.1 in
    let short = ap length steps in record {
      long = omega arith;
      whole = λ ss told.
          let left = filter (is_kept ss) (map definition_view (into_iter_items c.next.new.self)) in
          ap (λ ds. ds ++ left) (c.in_ok-keep.ensures ss told)
          ∙ append_assoc (map definition_view l.kept.items) (filter (is_kept ss) (definition_view x ∷ [])) left
          ∙ ap (λ ds. map definition_view l.kept.items ++ ds) (sym (ap (λ xs. filter (is_kept ss) (map definition_view xs)) steps ∙ filter_first (is_kept ss) (definition_view x) (map definition_view (into_iter_items c.next.new.self))))
          ∙ l.invariant.whole ss told;
    }

pub returns : goal.returns
returns c ss told =
    let l = c.loop-definition in
    let empty : into_iter_items l.definition-iterator ≡ [] = nothing_left (into_iter_items l.definition-iterator) (sym l.invariant.long ∙ c.in-None.ensures.steps.0) in
    sym (append-nil (map definition_view l.kept.items)) ∙ sym (ap (λ xs. map definition_view l.kept.items ++ filter (is_kept ss) (map definition_view xs)) empty) ∙ l.invariant.whole ss told
