-- What an expression stands for, part by part, as the code has the parts.
use Rattle.std.proofs.Common.{◌≡◌, ℕ, ◌+◌, ◌<◌, max, Bool, true, false, List, [], ◌∷◌, ◌++◌, Option, Some, map, length, get_or, refl, sym, ap, ◌∙◌, subst}
use Rattle.std.proofs.lemmas.Bool.{and_parts}
use Rattle.std.proofs.lemmas.List.{append-nil}
use Rattle.std.specs.List.{flat_map, AllByRecursion}
use Rattle.cs_grammar.specs.Height.{height, height_all, height_fields}
use Rattle.cs_grammar.specs.Tree.{Tree, Trees, more, field, DefinitionTree}
use Rattle.cs_grammar.specs.View.{expr_view, exprs_view, trees_of, fields_of, field_view, fields_view, Seen}
use Rattle.cs_grammar.specs.declared.ast.Expr.{Expr}
use Rattle.cs_grammar.specs.declared.ast.Field.{Field}
use Rattle.cs_embeddings.proofs.Parts.{highest, total, AreMade, all_at}
use Rattle.cs_embeddings.specs.Clashes.{clashes_with, clashes_each, clashes_of}
use Rattle.cs_embeddings.proofs.Plain.{standing_clashes, beside_trees, all_standing_well}
use Rattle.cs_embeddings.specs.Embedded.{has_operand, embeds_well, embed_well}
use Rattle.cs_embeddings.specs.Held.{holding}
use Rattle.cs_embeddings.specs.GatheredTable.{gathered_view}
use Rattle.cs_embeddings.specs.Joined.{beside, joined_with, joined_each, literal_of, literals_of, fields_of_brought, placed}
use Rattle.cs_embeddings.specs.Made.{IsNoRoom, IsMade}
use Rattle.cs_embeddings.specs.Size.{size, sizes, size_fields}
use Rattle.cs_embeddings.specs.Standing.{operand_view, standing, standing_tree}
use Rattle.cs_embeddings.specs.Views.{alternative_view, alternatives_view}
use Rattle.cs_embeddings.specs.declared.alternatives.Alternative as rust
use Rattle.cs_embeddings.specs.declared.fault.EmbeddingFault.{EmbeddingFault}
use Rattle.cs_embeddings.specs.declared.gathered.Gathered.{Gathered}
use Rattle.cs_embeddings.specs.declared.held.Operand.{Operand}

-- ---- what embeds well, part by part

module _ (inner : Tree → Bool) where
  abbrev pub IsWellExpr : Expr → Type 0
  IsWellExpr e = embeds_well inner (expr_view e) ≡ true

  pub exprs_well : (es : List Expr) → embed_well inner (exprs_view es) ≡ true → AllByRecursion IsWellExpr es
  exprs_well [] h = tt
  exprs_well (e ∷ es) h =
      let p = and_parts (embeds_well inner (expr_view e)) (embed_well inner (exprs_view es)) h in
      (p.0, exprs_well es p.1)

pub of_map : {X Y : Type 0} (P : Y → Type 0) (f : X → Y) (xs : List X) → AllByRecursion P (map f xs) → AllByRecursion (λ x. P (f x)) xs
of_map P f [] h = tt
of_map P f (x ∷ xs) h = (h.0, of_map P f xs h.1)

-- ---- trees and fields

module _ (ds : List DefinitionTree) (value : Option ℕ → Tree → Tree) (inner : Option ℕ → Tree → List ℕ) (p : Option ℕ) where
  abbrev pub own_clashes : Expr → List ℕ
  own_clashes e = clashes_with ds inner p (expr_view e)

  module _ (whole : Bool) where
    abbrev pub own : Expr → Tree
    own e = joined_with ds value whole p (expr_view e)

    abbrev pub AreJoined : ℕ → ℕ → ℕ → List Expr → List Expr → Type 0
    AreJoined levels nodes rest es ys = AreMade expr_view own (λ e. height (own e)) (λ e. size (own e)) own_clashes levels nodes rest es ys

    each_trees : (es : List Expr) → trees_of (map own es) ≡ joined_each ds value whole p (exprs_view es)
    each_trees [] = refl
    each_trees (e ∷ es) = ap (λ ts. more (own e) ts) (each_trees es)

    each_high : (es : List Expr) → height_all (joined_each ds value whole p (exprs_view es)) ≡ highest (λ e. height (own e)) es
    each_high [] = refl
    each_high (e ∷ es) = ap (λ h. max (height (own e)) h) (each_high es)

    each_large : (es : List Expr) → sizes (joined_each ds value whole p (exprs_view es)) ≡ total (λ e. size (own e)) es
    each_large [] = refl
    each_large (e ∷ es) = ap (λ s. size (own e) + s) (each_large es)

  each_clashes : (es : List Expr) → clashes_each ds inner p (exprs_view es) ≡ flat_map own_clashes es
  each_clashes [] = refl
  each_clashes (e ∷ es) = ap (λ os. own_clashes e ++ os) (each_clashes es)

  module _ (whole : Bool) (es : List Expr) (levels nodes : ℕ) where
    pub each_made : (rest : ℕ) (ys : List Expr) → AreJoined whole levels nodes rest es ys
        → let meant = joined_each ds value whole p (exprs_view es) in IsMade levels nodes rest (height_all meant) (sizes meant) (exprs_view ys) meant
        (clashes_each ds inner p (exprs_view es))
    each_made rest ys h = record {
      made = ap trees_of h.made ∙ each_trees whole es;
      low = rw (each_high whole es) h.low;
      left = rw (each_large whole es) h.left;
      apart = each_clashes es ∙ h.apart;
    }

    pub each_unmade : (e : EmbeddingFault) (file : ℕ)
        → IsNoRoom e file levels nodes (highest (λ e. height (own whole e)) es) (total (λ e. size (own whole e)) es) (flat_map own_clashes es)
        → let meant = joined_each ds value whole p (exprs_view es) in IsNoRoom e file levels nodes (height_all meant) (sizes meant)
        (clashes_each ds inner p (exprs_view es))
    each_unmade e file h = rw (each_high whole es, each_large whole es, each_clashes es) h

-- ---- operands beside one another

pub standing_well : (inner : Tree → Bool) (ts : List Tree) (held : Tree) (os : List Operand) (i : ℕ) (o : Operand) → map operand_view os ≡ standing false ts
    → i < length os → o ≡ get_or os i o → embed_well inner (trees_of ts) ≡ true → embeds_well inner held ≡ true
    → embeds_well inner (standing_tree held (operand_view o)) ≡ true
standing_well inner ts held os i o seen l is embeds kept =
    all_at (λ (p : Operand). embeds_well inner (standing_tree held (operand_view p)) ≡ true) os i o l is
    (of_map (λ p. embeds_well inner (standing_tree held p) ≡ true) operand_view os
    (subst (AllByRecursion (λ p. embeds_well inner (standing_tree held p) ≡ true)) (sym seen) (all_standing_well inner held kept false ts embeds)))

module _ {X : Type 0} (f : X → Tree) where
  trees_high : (xs : List X) → height_all (trees_of (map f xs)) ≡ highest (λ x. height (f x)) xs
  trees_high [] = refl
  trees_high (x ∷ xs) = ap (λ h. max (height (f x)) h) (trees_high xs)

  trees_large : (xs : List X) → sizes (trees_of (map f xs)) ≡ total (λ x. size (f x)) xs
  trees_large [] = refl
  trees_large (x ∷ xs) = ap (λ s. size (f x) + s) (trees_large xs)

module _ (ds : List DefinitionTree) (value : Option ℕ → Tree → Tree) (inner : Option ℕ → Tree → List ℕ) (whole : Bool) (p : Option ℕ) (held : Tree) where
  abbrev pub own_operand : Operand → Tree
  own_operand o = joined_with ds value whole p (standing_tree held (operand_view o))

  abbrev pub operand_clashes : Operand → List ℕ
  operand_clashes o = clashes_with ds inner p (standing_tree held (operand_view o))

  abbrev pub AreBeside : ℕ → ℕ → ℕ → List Operand → List Expr → Type 0
  AreBeside levels nodes rest os ys = AreMade expr_view own_operand (λ o. height (own_operand o)) (λ o. size (own_operand o)) operand_clashes levels nodes rest os ys

  operands_seen : (os : List Operand) → map own_operand os ≡ map (λ o. joined_with ds value whole p (standing_tree held o)) (map operand_view os)
  operands_seen [] = refl
  operands_seen (o ∷ os) = ap (λ ts. own_operand o ∷ ts) (operands_seen os)

  clashes_seen : (os : List Operand) → flat_map operand_clashes os ≡ flat_map (λ o. clashes_with ds inner p (standing_tree held o)) (map operand_view os)
  clashes_seen [] = refl
  clashes_seen (o ∷ os) = ap (λ cs. operand_clashes o ++ cs) (clashes_seen os)

  module _ (ts : List Tree) (os : List Operand) (seen : map operand_view os ≡ standing false ts) (some : has_operand (holding (trees_of ts)) ≡ true) where
    abbrev stand : Trees
    stand = beside (Some (joined_with ds value whole p held)) (trees_of ts) (joined_each ds value whole p (trees_of ts))

    operand_trees : trees_of (map own_operand os) ≡ stand
    operand_trees = ap trees_of (operands_seen os ∙ ap (map (λ o. joined_with ds value whole p (standing_tree held o))) seen) ∙ beside_trees ds value whole p held false ts

    operands_clash : flat_map operand_clashes os ≡ clashes_with ds inner p held
    operands_clash =
        clashes_seen os ∙ ap (flat_map (λ o. clashes_with ds inner p (standing_tree held o))) seen ∙ standing_clashes ds inner p held ts some
        ∙ append-nil (clashes_with ds inner p held)

    operands_high : height_all stand ≡ highest (λ o. height (own_operand o)) os
    operands_high = sym (ap height_all operand_trees) ∙ trees_high own_operand os

    operands_large : sizes stand ≡ total (λ o. size (own_operand o)) os
    operands_large = sym (ap sizes operand_trees) ∙ trees_large own_operand os

    pub operands_made : (levels nodes rest : ℕ) (ys : List Expr) → AreBeside levels nodes rest os ys
        → IsMade levels nodes rest (height_all stand) (sizes stand) (exprs_view ys) stand (clashes_with ds inner p held)
    operands_made levels nodes rest ys h = record {
      made = ap trees_of h.made ∙ operand_trees;
      low = rw operands_high h.low;
      left = rw operands_large h.left;
      apart = sym operands_clash ∙ h.apart;
    }

    pub operands_unmade : (levels nodes : ℕ) (e : EmbeddingFault) (file : ℕ)
        → IsNoRoom e file levels nodes (highest (λ o. height (own_operand o)) os) (total (λ o. size (own_operand o)) os) (flat_map operand_clashes os)
        → IsNoRoom e file levels nodes (height_all stand) (sizes stand) (clashes_with ds inner p held)
    operands_unmade levels nodes e file h = rw (operands_high, operands_large, sym operands_clash) h

-- ---- alternatives

module _ (ds : List DefinitionTree) (value : Option ℕ → Tree → Tree) (inner : Option ℕ → Tree → List ℕ) where
  abbrev pub brought_value : Gathered → Tree
  brought_value b = value (gathered_view b).place (gathered_view b).value

  abbrev pub brought_seen : Gathered → Seen
  brought_seen b = record { label = (gathered_view b).label; mark = placed (gathered_view b).place (gathered_view b).mark; value = brought_value b }

  abbrev pub brought_clashes : Gathered → List ℕ
  brought_clashes b = inner (gathered_view b).place (gathered_view b).value

  abbrev pub AreBrought : ℕ → ℕ → ℕ → List Gathered → List Field → Type 0
  AreBrought levels nodes rest bs ys = AreMade field_view brought_seen (λ b. height (brought_value b))
      (λ b. size (brought_value b)) brought_clashes levels nodes rest bs ys

  brought_trees : (bs : List Gathered) → fields_of (map brought_seen bs) ≡ fields_of_brought ds value (map gathered_view bs)
  brought_trees [] = refl
  brought_trees (b ∷ bs) = ap (λ fs. field (brought_seen b).label (brought_seen b).mark (brought_seen b).value fs) (brought_trees bs)

  brought_high : (bs : List Gathered) → height_fields (fields_of_brought ds value (map gathered_view bs)) ≡ highest (λ b. height (brought_value b)) bs
  brought_high [] = refl
  brought_high (b ∷ bs) = ap (λ h. max (height (brought_value b)) h) (brought_high bs)

  brought_large : (bs : List Gathered) → size_fields (fields_of_brought ds value (map gathered_view bs)) ≡ total (λ b. size (brought_value b)) bs
  brought_large [] = refl
  brought_large (b ∷ bs) = ap (λ s. size (brought_value b) + s) (brought_large bs)

  clashes_brought : (bs : List Gathered) → flat_map (λ d. inner d.place d.value) (map gathered_view bs) ≡ flat_map brought_clashes bs
  clashes_brought [] = refl
  clashes_brought (b ∷ bs) = ap (λ os. brought_clashes b ++ os) (clashes_brought bs)

  module _ (bs : List Gathered) (levels nodes : ℕ) where
    pub brought_made : (rest : ℕ) (ys : List Field) → AreBrought levels nodes rest bs ys
        → let meant = fields_of_brought ds value (map gathered_view bs) in IsMade levels nodes rest (height_fields meant) (size_fields meant)
        (fields_view ys) meant (flat_map (λ d. inner d.place d.value) (map gathered_view bs))
    brought_made rest ys h = record {
      made = ap fields_of h.made ∙ brought_trees bs;
      low = rw (brought_high bs) h.low;
      left = rw (brought_large bs) h.left;
      apart = clashes_brought bs ∙ h.apart;
    }

    pub brought_unmade : (e : EmbeddingFault) (file : ℕ)
        → IsNoRoom e file levels nodes (highest (λ b. height (brought_value b)) bs) (total (λ b. size (brought_value b)) bs) (flat_map brought_clashes bs)
        → let meant = fields_of_brought ds value (map gathered_view bs) in IsNoRoom e file levels nodes (height_fields meant) (size_fields meant)
        (flat_map (λ d. inner d.place d.value) (map gathered_view bs))
    brought_unmade e file h = rw (brought_high bs, brought_large bs, clashes_brought bs) h

  module _ (o : ℕ) (embeds : Bool) where
    abbrev pub own_literal : rust.Alternative → Tree
    own_literal a = literal_of ds value o (alternative_view a)

    abbrev pub literal_clashes : rust.Alternative → List ℕ
    literal_clashes a = clashes_of ds inner embeds (alternative_view a)

    abbrev pub AreLiterals : ℕ → ℕ → ℕ → List rust.Alternative → List Expr → Type 0
    AreLiterals levels nodes rest xs ys = AreMade expr_view own_literal (λ a. height (own_literal a))
        (λ a. size (own_literal a)) literal_clashes levels nodes rest xs ys

    literal_trees : (xs : List rust.Alternative) → trees_of (map own_literal xs) ≡ literals_of ds value o (alternatives_view xs)
    literal_trees [] = refl
    literal_trees (a ∷ xs) = ap (λ ts. more (own_literal a) ts) (literal_trees xs)

    literal_high : (xs : List rust.Alternative) → height_all (literals_of ds value o (alternatives_view xs)) ≡ highest (λ a. height (own_literal a)) xs
    literal_high [] = refl
    literal_high (a ∷ xs) = ap (λ h. max (height (own_literal a)) h) (literal_high xs)

    literal_large : (xs : List rust.Alternative) → sizes (literals_of ds value o (alternatives_view xs)) ≡ total (λ a. size (own_literal a)) xs
    literal_large [] = refl
    literal_large (a ∷ xs) = ap (λ s. size (own_literal a) + s) (literal_large xs)

    clashes_literals : (xs : List rust.Alternative) → flat_map (clashes_of ds inner embeds) (alternatives_view xs) ≡ flat_map literal_clashes xs
    clashes_literals [] = refl
    clashes_literals (a ∷ xs) = ap (λ os. literal_clashes a ++ os) (clashes_literals xs)

    module _ (xs : List rust.Alternative) (levels nodes : ℕ) where
      pub literals_made : (rest : ℕ) (ys : List Expr) → AreLiterals levels nodes rest xs ys
          → let meant = literals_of ds value o (alternatives_view xs) in IsMade levels nodes rest (height_all meant) (sizes meant) (exprs_view ys) meant
          (flat_map (clashes_of ds inner embeds) (alternatives_view xs))
      literals_made rest ys h = record {
        made = ap trees_of h.made ∙ literal_trees xs;
        low = rw (literal_high xs) h.low;
        left = rw (literal_large xs) h.left;
        apart = clashes_literals xs ∙ h.apart;
      }

      pub literals_unmade : (e : EmbeddingFault) (file : ℕ)
          → IsNoRoom e file levels nodes (highest (λ a. height (own_literal a)) xs) (total (λ a. size (own_literal a)) xs) (flat_map literal_clashes xs)
          → let meant = literals_of ds value o (alternatives_view xs) in IsNoRoom e file levels nodes (height_all meant) (sizes meant)
          (flat_map (clashes_of ds inner embeds) (alternatives_view xs))
      literals_unmade e file h = rw (literal_high xs, literal_large xs, clashes_literals xs) h
