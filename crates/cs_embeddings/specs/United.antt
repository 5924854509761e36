-- Which operands of `&` are put together (CUE, structs: unification; where it is done is an own rule): those that the opening rule would refuse, where
-- each is put together from literals and nothing in them is shut.
use Rattle.std.specs.Prelude.{ℕ, Bool, true, false, ◌&&◌, not, List, Option}
use Rattle.cs_grammar.specs.Tree.{conjunction, Trees, none, more, DefinitionTree}
use Rattle.cs_embeddings.specs.Alternatives.{Alternative, nothing, itself, alternatives, most_steps}
use Rattle.cs_embeddings.specs.Embedded.{can_be_embedded}
use Rattle.cs_embeddings.specs.Shut.{some_shut, are_open}

abbrev pub are_several : Trees → Bool
are_several none = false
are_several (more e none) = false
are_several (more e (more f es)) = true

abbrev pub unites : List DefinitionTree → Trees → Bool
unites ds es = are_several es && (not (are_open es) && (not (some_shut false es) && can_be_embedded ds most_steps (conjunction es)))

-- what they can be together
abbrev pub united : List DefinitionTree → Option ℕ → Trees → List Alternative
united ds p es = alternatives ds most_steps (itself p) (conjunction es) nothing
