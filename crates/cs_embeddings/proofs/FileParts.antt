-- What files stand for, from what their bodies stand for.
use Rattle.std.proofs.Common.{◌≡◌, ℕ, zero, suc, ◌+◌, ◌<◌, max, true, List, [], ◌∷◌, ◌++◌, Option, Some, map, take, length, get_or, slice_get, refl, sym, ap, ap₂, ◌∙◌, subst, arith}
use Rattle.std.proofs.lemmas.List.Sums.{sum_by-cons, sum_by-append}
use Rattle.std.specs.List.{flat_map}
use Rattle.cs_grammar.specs.Height.{height, height_definitions}
use Rattle.cs_grammar.specs.Limits.{most_height, most_nodes}
use Rattle.cs_grammar.specs.Tree.{Tree, DefinitionTree, body, FileTree, definitions}
use Rattle.cs_grammar.specs.View.{definition_view, file_view}
use Rattle.cs_grammar.specs.declared.ast.Definition.{Definition}
use Rattle.cs_grammar.specs.declared.ast.File.{File}
use Rattle.cs_embeddings.proofs.Flawless.{first_empty, second_empty}
use Rattle.cs_embeddings.proofs.Firsts.{first_left, first_right}
use Rattle.cs_embeddings.proofs.Parts.{highest, total, AreMade, none_more}
use Rattle.cs_embeddings.specs.Bodies.{joined_body, joined_left, body_clashes}
use Rattle.cs_embeddings.specs.Clashes.{clashes_with, clashes_value}
use Rattle.cs_embeddings.specs.GatheredTable.{gathered_view, body_view, left_view}
use Rattle.cs_embeddings.specs.Joined.{joined_with, joined_value}
use Rattle.cs_embeddings.specs.Made.{IsNoRoom, IsMade, IsNoRoomForFiles, AreFilesMade}
use Rattle.cs_embeddings.specs.Size.{size, size_of_definitions, size_of_files}
use Rattle.cs_embeddings.specs.Without.{clashes_from, IsWithin}
use Rattle.cs_embeddings.specs.declared.fault.EmbeddingFault.{EmbeddingFault}
use Rattle.cs_embeddings.specs.declared.fault.EmbeddingFault.TheVariants.{OutOfMemory, UnknownName, NoStruct, Reopened, TooHigh, TooLarge}
use Rattle.cs_embeddings.specs.declared.kept.Kept.{Kept}
use Rattle.cs_embeddings.specs.declared.kept.KeptFile.{KeptFile}

-- ---- bodies

pub height-append : (es gs : List DefinitionTree) → height_definitions (es ++ gs) ≡ max (height_definitions es) (height_definitions gs)
height-append [] gs = omega arith
height-append (e ∷ es) gs = let h = height-append es gs in omega arith

module _ (ds : List DefinitionTree) where
  whole_value : (n : ℕ) (p : Option ℕ) (e : Tree) → joined_value ds (suc n) p e ≡ joined_with ds (joined_value ds n) true p e
  unfolding joined_value
  whole_value n p e = refl

  whole_clashes : (n : ℕ) (p : Option ℕ) (e : Tree) → clashes_value ds (suc n) p e ≡ clashes_with ds (clashes_value ds n) p e
  unfolding clashes_value
  whole_clashes n p e = refl

  abbrev pub own_value : Kept → Tree
  own_value k = joined_value ds (suc most_height) k.place (gathered_view k.standing).value

  pub value_is : (k : Kept) → joined_with ds (joined_value ds most_height) true k.place (gathered_view k.standing).value ≡ own_value k
  value_is k = sym (whole_value most_height k.place (gathered_view k.standing).value)

  pub clashes_are : (k : Kept) → clashes_with ds (clashes_value ds most_height) k.place (gathered_view k.standing).value ≡ body_clashes ds (body_view k)
  clashes_are k = sym (whole_clashes most_height k.place (gathered_view k.standing).value)

  abbrev pub own_definition : Kept → DefinitionTree
  own_definition k = joined_body ds (body_view k)

  abbrev pub definition_clashes : Kept → List ℕ
  definition_clashes k = body_clashes ds (body_view k)

  abbrev pub AreDefinitions : ℕ → ℕ → List Kept → List Definition → Type 0
  AreDefinitions nodes rest xs ys = AreMade definition_view own_definition (λ k. height (own_value k))
      (λ k. size (own_value k)) definition_clashes most_height nodes rest xs ys

  abbrev meant : List Kept → List DefinitionTree
  meant xs = map (joined_body ds) (map body_view xs)

  definitions_are : (xs : List Kept) → map own_definition xs ≡ meant xs
  definitions_are [] = refl
  definitions_are (x ∷ xs) = ap (λ es. own_definition x ∷ es) (definitions_are xs)

  definitions_high : (xs : List Kept) → height_definitions (meant xs) ≡ highest (λ k. height (own_value k)) xs
  definitions_high [] = refl
  definitions_high (x ∷ xs) = ap (λ h. max (height (own_value x)) h) (definitions_high xs)

  definitions_large : (xs : List Kept) → size_of_definitions (meant xs) ≡ total (λ k. size (own_value k)) xs
  definitions_large [] = refl
  definitions_large (x ∷ xs) = sum_by-cons (λ d. size (body d)) (own_definition x) (meant xs) ∙ ap (λ s. size (own_value x) + s) (definitions_large xs)

  all_clashes : (xs : List Kept) → flat_map (body_clashes ds) (map body_view xs) ≡ flat_map definition_clashes xs
  all_clashes [] = refl
  all_clashes (x ∷ xs) = ap (λ os. definition_clashes x ++ os) (all_clashes xs)

  module _ (xs : List Kept) (nodes : ℕ) where
    pub definitions_made : (rest : ℕ) (ys : List Definition) → AreDefinitions nodes rest xs ys
        → IsMade most_height nodes rest (height_definitions (meant xs)) (size_of_definitions (meant xs)) (map definition_view ys) (meant xs)
        (flat_map (body_clashes ds) (map body_view xs))
    definitions_made rest ys h = record {
      made = h.made ∙ definitions_are xs;
      low = rw (definitions_high xs) h.low;
      left = rw (definitions_large xs) h.left;
      apart = all_clashes xs ∙ h.apart;
    }

    pub definitions_unmade : (e : EmbeddingFault) (file : ℕ)
        → IsNoRoom e file most_height nodes (highest (λ k. height (own_value k)) xs) (total (λ k. size (own_value k)) xs) (flat_map definition_clashes xs)
        → IsNoRoom e file most_height nodes (height_definitions (meant xs)) (size_of_definitions (meant xs))
        (flat_map (body_clashes ds) (map body_view xs))
    definitions_unmade e file h = rw (definitions_high xs, definitions_large xs, all_clashes xs) h

  -- ---- files

  abbrev pub own_file : KeptFile → FileTree
  own_file f = joined_left ds (left_view f)

  abbrev pub file_high : KeptFile → ℕ
  file_high f = height_definitions (definitions (own_file f))

  abbrev pub file_large : KeptFile → ℕ
  file_large f = size_of_definitions (definitions (own_file f))

  abbrev pub file_clashes : KeptFile → List ℕ
  file_clashes f = flat_map (body_clashes ds) (left_view f).bodies

  abbrev pub AreFiles : ℕ → ℕ → List KeptFile → List File → Type 0
  AreFiles nodes rest xs ys = AreMade file_view own_file file_high file_large file_clashes most_height nodes rest xs ys

  abbrev files_meant : List KeptFile → List FileTree
  files_meant xs = map (joined_left ds) (map left_view xs)

  files_are : (xs : List KeptFile) → map own_file xs ≡ files_meant xs
  files_are [] = refl
  files_are (x ∷ xs) = ap (λ fs. own_file x ∷ fs) (files_are xs)

  files_high : (xs : List KeptFile) → height_definitions (flat_map definitions (files_meant xs)) ≡ highest file_high xs
  files_high [] = refl
  files_high (x ∷ xs) = height-append (definitions (own_file x)) (flat_map definitions (files_meant xs))
      ∙ ap (λ h. max (file_high x) h) (files_high xs)

  files_large : (xs : List KeptFile) → size_of_files (files_meant xs) ≡ total file_large xs
  files_large [] = refl
  files_large (x ∷ xs) = sum_by-append (λ d. size (body d)) (definitions (own_file x)) (flat_map definitions (files_meant xs))
      ∙ ap (λ s. file_large x + s) (files_large xs)

  first_numbered : (i : ℕ) (os : List ℕ) (o : ℕ) → slice_get os 0 ≡ Some o → slice_get {X = ℕ × ℕ} (map (λ p. (i, p)) os) 0 ≡ Some (i, o)
  first_numbered i [] o h = cc
  first_numbered i (p ∷ os) o h = cc

  -- where no file has any, none is found
  none_found : (i : ℕ) (xs : List KeptFile) → flat_map file_clashes xs ≡ [] → clashes_from ds i (map left_view xs) ≡ []
  none_found i [] h = refl
  none_found i (x ∷ xs) h =
      let here = first_empty (file_clashes x) (flat_map file_clashes xs) h in
      let later = second_empty (file_clashes x) (flat_map file_clashes xs) h in
      ap₂ {C = List (ℕ × ℕ)} (λ ys zs. map (λ o. (i, o)) ys ++ zs) here (none_found (suc i) xs later)

  pub files_made : (xs : List KeptFile) (ys : List File) (rest : ℕ) → AreFiles most_nodes rest xs ys → AreFilesMade ds (map left_view xs) (map file_view ys)
  files_made xs ys rest h =
      let same : map file_view ys ≡ files_meant xs = h.made ∙ files_are xs in
      record {
        made = same;
        within = subst IsWithin (sym same) record {
          low = rw (files_high xs) h.low;
          small = let a = h.left in let b = files_large xs in omega arith;
        };
        apart = none_found 0 xs h.apart;
      }

  -- ---- the first that would be opened

  first_found : (j : ℕ) (xs : List KeptFile) (i : ℕ) (x : KeptFile) → i < length xs → x ≡ get_or xs i x → flat_map file_clashes (take i xs) ≡ [] → (o : ℕ)
      → slice_get (file_clashes x) 0 ≡ Some o → slice_get (clashes_from ds j (map left_view xs)) 0 ≡ Some (j + i, o)
  first_found j [] i x l is none o h = absurd (omega arith)
  first_found j (y ∷ xs) zero x l is none o h =
      rw (add_zero j) (first_left (map (λ p. (j, p)) (file_clashes y)) (clashes_from ds (suc j) (map left_view xs)) (j, o)
      (first_numbered j (file_clashes y) o (subst (λ z. slice_get (file_clashes z) 0 ≡ Some o) is h)))
    where
      add_zero : (j : ℕ) → j + 0 ≡ j
      add_zero j = omega arith
  first_found j (y ∷ xs) (suc i) x l is none o h =
      let here = first_empty (file_clashes y) (flat_map file_clashes (take i xs)) none in
      let none_later = second_empty (file_clashes y) (flat_map file_clashes (take i xs)) none in
      let later = first_found (suc j) xs i x (omega arith) is none_later o h in
      first_right (map (λ p. (j, p)) (file_clashes y)) (clashes_from ds (suc j) (map left_view xs)) (j + suc i, o)
      (ap (map {B = ℕ × ℕ} (λ p. (j, p))) here)
      (subst (λ k. slice_get (clashes_from ds (suc j) (map left_view xs)) 0 ≡ Some (k, o)) (across j i) later)
    where
      across : (j i : ℕ) → suc j + i ≡ j + suc i
      across j i = omega arith

  -- the file that is meant at a place
  meant_at : (xs : List KeptFile) (i : ℕ) (x : KeptFile) → i < length xs → x ≡ get_or xs i x → slice_get (files_meant xs) i ≡ Some (own_file x)
  meant_at [] i x l is = absurd (omega arith)
  meant_at (y ∷ xs) zero x l is = ap (λ z. Some (own_file z)) (sym is)
  meant_at (y ∷ xs) (suc i) x l is = meant_at xs i x (omega arith) is

  -- one of the files isn't made
  module _ (xs : List KeptFile) (i : ℕ) (x : KeptFile) (l : i < length xs) (is : x ≡ get_or xs i x) (rest : ℕ) (ys : List File)
      (before : AreFiles most_nodes rest (take i xs) ys) where
    pub files_unmade : (e : EmbeddingFault) → IsNoRoom e i most_height rest (file_high x) (file_large x) (file_clashes x)
        → IsNoRoomForFiles e ds (map left_view xs)
    files_unmade OutOfMemory h = tt
    files_unmade (Reopened f o) h = subst (λ j. slice_get (clashes_from ds 0 (map left_view xs)) 0 ≡ Some (j, o)) (from_zero i ∙ sym h.0)
        (first_found 0 xs i x l is before.apart o h.1)
      where
        from_zero : (i : ℕ) → 0 + i ≡ i
        from_zero i = omega arith
    files_unmade (TooHigh f) h =
        let high = h.1 in
        (own_file x, subst (λ j. slice_get (files_meant xs) j ≡ Some (own_file x)) (sym h.0) (meant_at xs i x l is), omega arith)
    files_unmade TooLarge h =
        let k = none_more file_view own_file file_high file_large file_clashes most_height most_nodes xs i x l is rest ys before TooLarge
        i h in
        let s = files_large xs in omega arith
    files_unmade (UnknownName f o) h = absurd h
    files_unmade (NoStruct f o) h = absurd h
