use Rattle.std.proofs.Common.{◌≡◌, ℕ, nat_eq, Bool, false, List, [], ◌∷◌, map, length, refl, ap, ap₂, ◌∙◌}
use Rattle.cs_grammar.specs.Tree.{selected, wide}
use Rattle.cs_grammar.specs.View.{selector_view}
use Rattle.cs_grammar.specs.declared.ast.Selector.{Selector}
use Rattle.cs_grammar.proofs.Views.{view-Selected, view-Wide}
use Rattle.cs_names.specs.Named.{selecting}
use Rattle.cs_names.proofs.resolved.Naming.selecting.Goals as goal

some_labels : (t : List ℕ) (o : ℕ) (xs : List Selector) (b : Bool) → b ≡ nat_eq (length xs) 0 → b ≡ false
    → wide (selected o t (map selector_view xs)) ≡ selecting t o (map selector_view xs)
some_labels t o [] b h k = cc
some_labels t o (x ∷ xs) b h k = refl

pub returns : goal.returns
returns c =
    let o = c.args.at in
    view-Wide _ ∙ ap wide (view-Selected o c.in_ok-name.name c.in_ok-labels.labels ∙ ap₂ (selected o) c.in_ok-name.ensures.ok c.in_ok-labels.ensures)
    ∙ some_labels c.args.nested.now o c.args.labels.now c.is_empty.result c.is_empty.ensures c.if-is_empty.false
