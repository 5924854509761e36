-- Marks change nothing of what is behind them.
use Rattle.std.proofs.Common.{◌≡◌, ℕ, ◌+◌, ◌*◌, ◌<◌, Bool, false, List, Option, refl, ap, arith}
use Rattle.cs_grammar.specs.Height.{height}
use Rattle.cs_grammar.specs.Tree.{Tree, wide, marked, DefinitionTree}
use Rattle.cs_embeddings.specs.Alternatives.{at}
use Rattle.cs_embeddings.specs.Clashes.{clashes_with}
use Rattle.cs_embeddings.specs.Embedded.{embeds_well}
use Rattle.cs_embeddings.specs.Joined.{joined_with}
use Rattle.cs_embeddings.specs.Made.{behind_marks, with_marks, count_mark}
use Rattle.cs_embeddings.specs.Size.{size}

pub no_mark : (e : Tree) → count_mark (behind_marks e) ≡ 0
no_mark (wide (marked o e)) = no_mark e
no_mark e = refl

pub well_behind : (inner : Tree → Bool) (e : Tree) → embeds_well inner e ≡ embeds_well inner (behind_marks e)
well_behind inner (wide (marked o e)) = well_behind inner e
well_behind inner e = refl

module _ (ds : List DefinitionTree) (value : Option ℕ → Tree → Tree) (inner : Option ℕ → Tree → List ℕ) (p : Option ℕ) where
  abbrev joined : Tree → Tree
  joined e = joined_with ds value false p e

  pub marks_joined : (e : Tree) → joined e ≡ with_marks p e (joined (behind_marks e))
  marks_joined (wide (marked o e)) = ap (λ f. wide (marked (at p o) f)) (marks_joined e)
  marks_joined e = refl

  pub marks_high : (e : Tree) → height (joined e) ≡ height (joined (behind_marks e))
  marks_high (wide (marked o e)) = marks_high e
  marks_high e = refl

  pub marks_large : (e : Tree) → size (joined e) ≡ size (joined (behind_marks e))
  marks_large (wide (marked o e)) = marks_large e
  marks_large e = refl

  pub marks_clashes : (e : Tree) → clashes_with ds inner p e ≡ clashes_with ds inner p (behind_marks e)
  marks_clashes (wide (marked o e)) = marks_clashes e
  marks_clashes e = refl

-- without its marks an expression takes less of the steps of a level
pub falls : (t levels levels' marks marks' : ℕ) → levels' ≡ levels → marks ≡ 1 → marks' ≡ 0 → 16 * levels + (8 * marks + 4) ≡ t
    → 16 * levels' + (8 * marks' + 5) < t
falls t levels levels' marks marks' l m m' is = omega arith
