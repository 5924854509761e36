-- What holds of the definitions of files holds of what is left of them.
use Rattle.std.proofs.Common.{◌≡◌, true, List, [], ◌∷◌, ◌++◌, map, refl, sym, subst}
use Rattle.std.specs.List.{flat_map, AllByRecursion}
use Rattle.cs_grammar.specs.Tree.{DefinitionTree, definition, body, FileTree, definitions}
use Rattle.cs_embeddings.proofs.GatheredParts.{Kept, at_one, IsWellBrought, well_values}
use Rattle.cs_embeddings.proofs.WellAlternatives.{all-append, all-map}
use Rattle.cs_embeddings.specs.Alternatives.{Brought, most_steps}
use Rattle.cs_embeddings.specs.Bodies.{Body, Left, as_declared, part_place, bodies_behind, left_behind, left_in}
use Rattle.cs_embeddings.specs.Embedded.{can_be_embedded, embeds_well}
use Rattle.cs_embeddings.specs.Gathered.{gathered_at}
use Rattle.cs_embeddings.specs.Made.{AreLeftWell}

module _ (ds : List DefinitionTree) (P Q : Brought → Type 0) (same : (d : Brought) → P d → Q d) (kept : Kept P Q ds) where
  abbrev pub HasLeft : Body → Type 0
  HasLeft b = Q b.declared

  bodies_all : (here before bs : List Brought) → AllByRecursion P (map as_declared ds) → AllByRecursion P bs → AllByRecursion HasLeft (bodies_behind ds here before bs)
  bodies_all here before [] h k = tt
  bodies_all here before (d ∷ bs) h k =
      let left = λ (g : Brought). let b : Body = record { declared = g; place = part_place ds here d g } in b in
      let gs = gathered_at ds (map as_declared ds) before d in
      all-append HasLeft (map left gs) (bodies_behind ds here (before ++ d ∷ []) bs)
      (all-map Q HasLeft left (λ g q. q) gs (at_one ds P Q same kept (map as_declared ds) before d h k.0)) (bodies_all here (before ++ d ∷ []) bs h k.1)

  files_all : (before : List Brought) (fs : List FileTree) → AllByRecursion P (map as_declared ds) → AllByRecursion P (map as_declared (flat_map definitions fs))
      → AllByRecursion (λ (l : Left). AllByRecursion HasLeft l.bodies) (left_behind ds before fs)
  files_all before [] h k = tt
  files_all before (f ∷ fs) h k =
      let here = map as_declared (definitions f) in
      let parts = both_parts (definitions f) (flat_map definitions fs) k in
      (bodies_all here before here h parts.0, files_all (before ++ here) fs h parts.1)
    where
      both_parts : (xs ys : List DefinitionTree) → AllByRecursion P (map as_declared (xs ++ ys))
          → AllByRecursion P (map as_declared xs) × AllByRecursion P (map as_declared ys)
      both_parts [] ys h = (tt, h)
      both_parts (x ∷ xs) ys h = let rest = both_parts xs ys h.1 in ((h.0, rest.0), rest.1)

  pub left_all : (fs : List FileTree) → flat_map definitions fs ≡ ds → AllByRecursion P (map as_declared ds)
      → AllByRecursion (λ (l : Left). AllByRecursion HasLeft l.bodies) (left_behind ds [] fs)
  left_all fs same h = files_all [] fs h (subst (λ es. AllByRecursion P (map as_declared es)) (sym same) h)

-- what embeds well
well_declared : (ds es : List DefinitionTree) → AllByRecursion (λ d. embeds_well (can_be_embedded ds most_steps) (body d) ≡ true) es
    → AllByRecursion (IsWellBrought ds (can_be_embedded ds most_steps)) (map as_declared es)
well_declared ds [] h = tt
well_declared ds (definition s o e ∷ es) h = (h.0, well_declared ds es h.1)

pub left_well : (fs : List FileTree) → let ds = flat_map definitions fs in AllByRecursion (λ d. embeds_well (can_be_embedded ds most_steps) (body d) ≡ true) ds
    → AllByRecursion (AreLeftWell ds) (left_in fs)
left_well fs h =
    let ds = flat_map definitions fs in let I = can_be_embedded ds most_steps in
    left_all ds (IsWellBrought ds I) (IsWellBrought ds I) (λ d w. w) (λ s bs g k. well_values ds I s bs k) fs refl (well_declared ds ds h)
