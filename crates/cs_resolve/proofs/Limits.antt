-- Packages at their limits and just above them.
use Rattle.std.proofs.Common.{◌≡◌, ℕ, zero, suc, ◌+◌, ◌≤◌, false, not, List, [], ◌∷◌, map, filter, length, None, codes, refl, ap, ◌∙◌, arith, append-nil, nat_eq}
use Rattle.std.specs.List.{flat_map}
use Rattle.std.specs.Str.{bytes_eq}
use Rattle.std.proofs.lemmas.Bool.Decides.{nat_tests}
use Rattle.std.proofs.lemmas.List.Sums.{sum_by-cons}
use Rattle.cs_grammar.specs.Tree.{atom, top, conjunction, Trees, none, more, DefinitionTree, definition, defined_name, body, FileTree, file, definitions}
use Rattle.cs_resolve.specs.Declarations.{distinct, names}
use Rattle.cs_resolve.specs.Resolved.{IsSmall}
use Rattle.cs_grammar.specs.Size.{nodes, nodes_all, nodes_of_definitions, nodes_of_files}

-- ---- nodes

-- so many operands
wide : ℕ → Trees
wide zero = none
wide (suc n) = more (atom top) (wide n)

nodes_wide : (n : ℕ) → nodes_all (wide n) ≡ n
unfolding wide
nodes_wide zero = refl
nodes_wide (suc n) = let k = nodes_wide n in omega arith

-- `#A: _ & _ & ..`, which has n + 1 nodes
of_operands : ℕ → List FileTree
of_operands n = file None (definition (codes "A") 0 (conjunction (wide n)) ∷ []) [] ∷ []

nodes_of_operands : (n : ℕ) → nodes_of_files (of_operands n) ≡ n + 1
unfolding of_operands
nodes_of_operands n = let k = nodes_wide n in omega arith

nodes_at_the_limit : IsSmall (of_operands 49999)
unfolding of_operands
nodes_at_the_limit = record { definitions = omega arith; nodes = let k = nodes_of_operands 49999 in omega arith }

nodes_above_it : ¬ (IsSmall (of_operands 50000))
nodes_above_it h = let k = nodes_of_operands 50000 in let le = h.nodes in omega arith

-- ---- definitions

-- so many definitions, each of a name of its own
many : ℕ → List DefinitionTree
many zero = []
many (suc n) = definition (n ∷ []) 0 (atom top) ∷ many n

abbrev names_of_many : ℕ → List (List ℕ)
names_of_many n = map defined_name (many n)

-- a name among the later ones is none of the others
others_stay : (k n : ℕ) → n ≤ k → filter (λ m. not (bytes_eq (k ∷ []) m)) (names_of_many n) ≡ names_of_many n
unfolding many
others_stay k zero le = refl
others_stay k (suc n) le =
    let rest = others_stay k n (omega arith) in
    let is : nat_eq k n ≡ false = grind (arith, nat_tests) in
    rw is (ap (λ ns. (n ∷ []) ∷ ns) rest)

distinct_many : (n : ℕ) → distinct (names_of_many n) ≡ names_of_many n
unfolding many
distinct_many zero = refl
distinct_many (suc n) = ap (λ ns. (n ∷ []) ∷ filter (λ m. not (bytes_eq (n ∷ []) m)) ns) (distinct_many n) ∙ ap (λ ns. (n ∷ []) ∷ ns) (others_stay n n (omega arith))

long_many : (n : ℕ) → length (names_of_many n) ≡ n
unfolding many
long_many zero = refl
long_many (suc n) = let k = long_many n in omega arith

nodes_of_many : (n : ℕ) → nodes_of_definitions (many n) ≡ n
unfolding many
nodes_of_many zero = refl
nodes_of_many (suc n) = let more = sum_by-cons (λ (d : DefinitionTree). nodes (body d)) (definition (n ∷ []) 0 (atom top)) (many n) in more ∙ ap (λ k. 1 + k) (nodes_of_many n) ∙ omega arith

of_definitions : ℕ → List FileTree
of_definitions n = file None (many n) [] ∷ []

names_of_definitions : (n : ℕ) → length (names (flat_map definitions (of_definitions n))) ≡ n
unfolding of_definitions
names_of_definitions n = ap (λ ds. length (names ds)) (append-nil (many n)) ∙ ap length (distinct_many n) ∙ long_many n

nodes_in_definitions : (n : ℕ) → nodes_of_files (of_definitions n) ≡ n
unfolding of_definitions
nodes_in_definitions n = ap nodes_of_definitions (append-nil (many n)) ∙ nodes_of_many n

definitions_at_the_limit : IsSmall (of_definitions 1000)
definitions_at_the_limit = let k = names_of_definitions 1000 in let l = nodes_in_definitions 1000 in record { definitions = omega arith; nodes = omega arith }

definitions_above_it : ¬ (IsSmall (of_definitions 1001))
definitions_above_it h = let k = names_of_definitions 1001 in let le = h.definitions in omega arith
