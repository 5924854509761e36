use Rattle.std.proofs.Common.{◌≡◌, map, drop, string_bytes}
use Rattle.cs_grammar.specs.View.{selector_view}
use Rattle.cs_selectors.specs.Given.{wanted}
use Rattle.cs_selectors.specs.Reached.{texts}
use Rattle.cs_selectors.proofs.given.wanted.Given as goal

abbrev pub invariant-loop-label : goal.invariant-loop-label
invariant-loop-label l = wanted l.head (texts (map selector_view l.labels)) ≡ wanted (string_bytes l.name) (texts (map selector_view (drop l.label-index l.labels)))
