use Rattle.std.proofs.Common.{◌≡◌, map, drop}
use Rattle.cs_grammar.specs.View.{definition_view}
use Rattle.std.specs.List.{list_any}
use Rattle.cs_grammar.specs.Tree.{body}
use Rattle.cs_names.specs.Joined as Spec
use Rattle.cs_names.proofs.joins.bodies_join.Given as goal

abbrev pub invariant-loop-definition : goal.invariant-loop-definition
invariant-loop-definition l = list_any (λ d. Spec.joins (body d)) (map definition_view l.definitions) ≡ list_any (λ d. Spec.joins (body d)) (map definition_view (drop l.definition-index l.definitions))
