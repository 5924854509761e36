-- How the code has alternatives, and how much they are; for private contracts alone.
use Rattle.std.specs.Prelude.{◌≡◌, ℕ, suc, ◌+◌, ◌/◌, ◌<◌, List, [], ◌∷◌, map, length, Result, Ok, Err}
use Rattle.cs_grammar.specs.View.{Seen, expr_view, field_view}
use Rattle.cs_embeddings.specs.Alternatives.{Origin, Brought, Alternative, with_declaration}
use Rattle.cs_embeddings.specs.Gathered.{most_gathered}
use Rattle.cs_embeddings.specs.declared.alternatives.Alternative as rust
use Rattle.cs_embeddings.specs.declared.alternatives.Brought as brought
use Rattle.cs_embeddings.specs.declared.alternatives.Origin as origin
use Rattle.cs_embeddings.specs.declared.fault.EmbeddingFault.{EmbeddingFault}
use Rattle.cs_embeddings.specs.declared.fault.EmbeddingFault.TheVariants.{OutOfMemory, TooLarge}

abbrev pub origin_view : origin.Origin → Origin
origin_view p = record { place = p.place; embedding = p.embedding; in_definition = p.in_definition }

abbrev pub brought_view : brought.Brought → Brought
brought_view b =
    record { label = (field_view b.field.now).label; mark = b.field.now.mark; value = expr_view b.field.now.value; place = b.place; embedding = b.embedding }

abbrev pub alternative_view : rust.Alternative → Alternative
alternative_view a = record { declarations = map brought_view a.declarations.items; opened = a.opened; met = map (λ s. s.now) a.met.items }

abbrev pub alternatives_view : List rust.Alternative → List Alternative
alternatives_view xs = map alternative_view xs

-- a field behind the declarations that are there
abbrev pub with_field : Origin → Seen → Alternative → Alternative
with_field p f a = with_declaration p f.label f.mark f.value a

-- how much alternatives are: each is one, and one more for each 64 declarations. So many of a label are put together at most
abbrev pub weight_of : List Alternative → ℕ
weight_of [] = 0
weight_of (a ∷ xs) = suc (length a.declarations / most_gathered) + weight_of xs

-- memory ran out, or these are more than there is room for
abbrev pub IsTooMuch : EmbeddingFault → ℕ → List Alternative → Type 0
IsTooMuch OutOfMemory room xs = Unit {0}
IsTooMuch TooLarge room xs = room < weight_of xs
IsTooMuch _ room xs = ⊥

-- the alternatives that are there are these, unless memory ran out or these are more than there is room for
abbrev pub Reaches : {Y : Type 0} → Result Y EmbeddingFault → ℕ → List Alternative → List Alternative → Type 0
Reaches (Ok y) room xs there = there ≡ xs
Reaches (Err e) room xs there = IsTooMuch e room xs
