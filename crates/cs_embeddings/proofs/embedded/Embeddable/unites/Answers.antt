use Rattle.std.proofs.Common.{◌≡◌, ◌<◌, ◌≤◌, Bool, true, false, ◌&&◌, not, List, [], ◌∷◌, length, refl, sym, ap, ◌∙◌, arith}
use Rattle.std.specs.Borrow.{Bor}
use Rattle.std.proofs.lemmas.Bool.{ltb-true}
use Rattle.cs_grammar.specs.Tree.{DefinitionTree, conjunction}
use Rattle.cs_grammar.specs.View.{trees_of}
use Rattle.cs_grammar.specs.declared.ast.Expr.{Expr}
use Rattle.cs_embeddings.specs.Alternatives.{most_steps}
use Rattle.cs_embeddings.specs.Checks.{bodies_view}
use Rattle.cs_embeddings.specs.Embedded.{can_be_embedded}
use Rattle.cs_embeddings.specs.Shut.{some_shut, are_open}
use Rattle.cs_embeddings.specs.United.{are_several, unites}
use Rattle.cs_embeddings.proofs.embedded.Embeddable.unites.Goals as goal
use Rattle.cs_embeddings.proofs.embedded.Embeddable.unites.Goals.{then-operands-gt1, else-operands-gt1}

several : (es : List (Bor Expr)) → 1 < length es → are_several (trees_of (bodies_view es)) ≡ true
several [] l = absurd (omega (arith, l))
several (e ∷ []) l = absurd (omega (arith, l))
several (e ∷ f ∷ es) l = refl

few : (es : List (Bor Expr)) → length es ≤ 1 → are_several (trees_of (bodies_view es)) ≡ false
few [] l = refl
few (e ∷ []) l = refl
few (e ∷ f ∷ es) l = absurd (omega (arith, l))

module _ (ds : List DefinitionTree) (es : List (Bor Expr)) where
  they_unite : (b : Bool) → 1 < length es → not (are_open (trees_of (bodies_view es))) ≡ true
      → b ≡ (not (some_shut false (trees_of (bodies_view es))) && can_be_embedded ds most_steps (conjunction (trees_of (bodies_view es))))
      → b ≡ unites ds (trees_of (bodies_view es))
  they_unite b l shut h = rw (several es l, shut) h

  all_open : 1 < length es → not (are_open (trees_of (bodies_view es))) ≡ false → false ≡ unites ds (trees_of (bodies_view es))
  all_open l open_all = rw (several es l, open_all) refl

  one_alone : length es ≤ 1 → false ≡ unites ds (trees_of (bodies_view es))
  one_alone l = rw (few es l) refl

pub returns-then-not-all_open : goal.returns-then-not-all_open
returns-then-not-all_open c ds bodies steps =
    let es = c.args.operands.now in
    let can = c.can_embed_together.ensures ds bodies steps in
    elim c.if-operands-gt1.branch [
      | then-operands-gt1 w ↦
          they_unite ds es c.can_embed_together.result w.if-operands-gt1.true (ap not (sym w.all_open.ensures) ∙ sym w.value-is ∙ c.if-not-all_open.true) can
      | else-operands-gt1 w ↦ absurd (omega (arith, ltb-true 1 (length es) (sym w.value-is ∙ c.if-not-all_open.true), w.if-operands-gt1.false))
    ]

pub returns-else-not-all_open : goal.returns-else-not-all_open
returns-else-not-all_open c ds bodies steps =
    let es = c.args.operands.now in
    c.if-not-all_open.false ∙ elim c.if-operands-gt1.branch [
      | then-operands-gt1 w ↦
          all_open ds es w.if-operands-gt1.true (ap not (sym w.all_open.ensures) ∙ sym w.value-is ∙ c.if-not-all_open.false)
      | else-operands-gt1 w ↦ one_alone ds es w.if-operands-gt1.false
    ]
