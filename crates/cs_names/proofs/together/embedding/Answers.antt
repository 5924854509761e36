use Rattle.std.proofs.Common.{◌≡◌, ◌∷◌, ◌++◌, [], length, map, arith, sym, ap, ◌∙◌, append_assoc}
use Rattle.std.proofs.lemmas.List.{map-append, append-nil}
use Rattle.std.specs.Vec.Iter.{into_iter_items}
use Rattle.cs_grammar.specs.View.{declaration_view, declarations_of, embedding_seen, expr_view}
use Rattle.cs_grammar.proofs.Views.{view-embedded}
use Rattle.cs_names.proofs.Operands.{embedding_of, all_embedded, nothing_left}
use Rattle.cs_names.proofs.together.embedding.Goals as goal

pub loop-value-preserved : goal.loop-value-preserved
loop-value-preserved c =
    let l = c.loop-value in
    let x = c.in-Some.value in
    let left = map embedding_of (into_iter_items c.next.new.self) in
    let before = map declaration_view l.embedding.items in
    let steps : into_iter_items l.value-iterator ≡ x ∷ into_iter_items c.next.new.self = c.in-Some.ensures.steps.0 in
    let gone = c.in-Some.ensures.steps.1 in
    let was = l.invariant.long in
    let short = ap length steps in record {
      long = omega arith;
      whole = ap (λ ds. map declaration_view ds ++ left) c.in_ok-push.ensures.items
          ∙ ap (λ ds. ds ++ left) (map-append declaration_view l.embedding.items _)
          ∙ ap (λ d. (before ++ d ∷ []) ++ left) (view-embedded c.beginning-at.result x ∙ ap (λ o. embedding_seen o (expr_view x)) c.beginning-at.ensures)
          ∙ append_assoc before (embedding_of x ∷ []) left
          ∙ sym (ap (λ xs. before ++ map embedding_of xs) steps)
          ∙ l.invariant.whole;
    }

pub returns : goal.returns
returns c =
    let l = c.loop-value in
    let empty : into_iter_items l.value-iterator ≡ [] = nothing_left (into_iter_items l.value-iterator) (sym l.invariant.long ∙ c.in-None.ensures.steps.0) in
    ap declarations_of (sym (append-nil (map declaration_view l.embedding.items)) ∙ sym (ap (λ xs. map declaration_view l.embedding.items ++ map embedding_of xs) empty) ∙ l.invariant.whole)
    ∙ all_embedded c.args.operands.items
