-- Struct literals under conditions, read as they are written (CUE, comprehensions): by what the fields are that conditions ask for, and no file without
-- conditions is made of them here. A law says that this is what they stand for.
use Rattle.std.specs.Prelude.{◌≡◌, ℕ, suc, Bool, true, false, ◌&&◌, ◌||◌, List, [], ◌∷◌, Option}
use Rattle.std.specs.Bool.{beq}
use Rattle.std.specs.List.{list_all}
use Rattle.cs_document.specs.Document.{Document, object, Members, entries, under}
use Rattle.cs_grammar.specs.Tree.{Condition, Tree, wide, merged, Declarations, no_declaration, declared, embedded, conditional, DefinitionTree}
use Rattle.cs_instance.specs.Instance.{Rule, node}
use Rattle.cs_resolve.specs.Refinement.{Refinements}
use Rattle.cs_resolve.specs.Resolved.{resolved}
use Rattle.cs_conditions.specs.Asked.{Asked, asked}
use Rattle.cs_conditions.specs.Choice.{choice}
use Rattle.cs_conditions.specs.Chosen.{chosen}
use Rattle.cs_conditions.specs.Known.{Knowledge}
use Rattle.cs_defaults.specs.Unmarked.{unmarked}
use Rattle.cs_embeddings.specs.Alternatives.{most_steps}
use Rattle.cs_embeddings.specs.Embedded.{can_be_embedded}
use Rattle.cs_embeddings.specs.Joined.{joined_with, joined_value}
use Rattle.cs_widen.specs.Asked.{field_meets, has_kinds, is_spelled}

-- declarations of a literal, and others behind them
abbrev pub followed : Declarations → Declarations → Declarations
followed no_declaration others = others
followed (declared l m e ds) others = declared l m e (followed ds others)
followed (embedded o e ds) others = embedded o e (followed ds others)
followed (conditional o cs e ds) others = conditional o cs e (followed ds others)

-- a condition holds of a map, or doesn't, where a literal says so much of its field
abbrev pub condition_meets : Asked → Members → Condition → Bool → Bool
condition_meets a ms c holds = field_meets c.test (beq holds c.is_met) a.default (under c.label (entries ms))

-- it is as in sources that are accepted: its test is spelled, and the literal has its field, by a label without quotes; and what the map has there is
-- of one of the kinds that the field may have
abbrev pub can_be_asked : Asked → Members → Condition → Bool
can_be_asked a ms c = (is_spelled c.test && a.said.is_named) && has_kinds a.said.kinds (under c.label (entries ms))

-- `inside` where all conditions hold, and `outside` where one of them doesn't, behind others that do; `meets c holds` says whether c holds, or doesn't
abbrev pub under_conditions : (Condition → Bool → Bool) → Bool → Bool → List Condition → Bool
under_conditions meets inside outside [] = inside
under_conditions meets inside outside (c ∷ cs) = (meets c true && under_conditions meets inside outside cs) || (meets c false && outside)

-- by an instance relation a map is an instance of what a literal with an expression under conditions stands for exactly where all conditions hold and it
-- is one of what the literal stands for that embeds the expression there, or a condition doesn't hold, behind others that do, and it is one of what
-- the literal stands for without it
abbrev pub AreConditionsReadDirectly : (Rule → Document → Bool) → Type 0
AreConditionsReadDirectly I =
    (rs : Refinements) (has : List ℕ → Bool) (ds : List DefinitionTree) (n : ℕ) (whole : Bool) (p : Option ℕ) (known : Knowledge) (o : ℕ)
    (before : Declarations) (place : ℕ) (cs : List Condition) (e : Tree) (after : Declarations) (opened : Bool) (ms : Members)
    → let literal : Declarations = followed before (conditional place cs e after) in
    let says : Condition → Asked = λ c. asked known c.label literal in
    let reads : Declarations → Bool = λ bs.
    I (node (resolved rs (unmarked has (joined_with ds (joined_value ds (suc n)) whole p (chosen known (wide (merged o bs opened))))))) (object ms) in
    list_all (λ c. can_be_asked (says c) ms c) cs ≡ true → can_be_embedded ds most_steps (choice known literal place cs (chosen known e)) ≡ true
    → reads literal
    ≡ under_conditions (λ c holds. condition_meets (says c) ms c holds) (reads (followed before (embedded place e after))) (reads (followed before after)) cs
