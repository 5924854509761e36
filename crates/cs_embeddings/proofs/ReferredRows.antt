-- What an expression declares that refers to a definition: what the row of that definition has.
use Rattle.std.proofs.Common.{◌≡◌, ℕ, zero, suc, Bool, true, false, List, Option, Some, None, refl, sym, ◌∙◌, subst, Vec, Global}
use Rattle.std.proofs.lemmas.Bool.{both_ways}
use Rattle.std.specs.Borrow.{Bor}
use Rattle.std.specs.BTreeMap.{BTreeMap}
use Rattle.std.specs.List.{list_all, list_any}
use Rattle.std.specs.Option.{option_map}
use Rattle.cs_grammar.specs.Tree.{Tree, atom, named, reference, conjunction, disjunction, paren, struct, list, wide, DefinitionTree}
use Rattle.cs_grammar.specs.Bodies.{bodies}
use Rattle.cs_grammar.specs.Referred.{referred}
use Rattle.cs_embeddings.specs.Embedded.{can_be_embedded}
use Rattle.cs_embeddings.specs.Narrowed.{declares}
use Rattle.cs_embeddings.specs.NarrowedTable.{IsRowOf, TellsRow, TellsRows}
use Rattle.cs_embeddings.specs.declared.numbers.Numbers.{Numbers}
use Rattle.cs_embeddings.proofs.NarrowedSteps.{told_at, told_some}

module _ (ds : List DefinitionTree) where
  -- it declares what one of the bodies does
  record DeclaresAs (k : ℕ) (e : Tree) (t : List ℕ) : Type 0 where
    steps : ℕ
    can : list_all (can_be_embedded ds steps) (bodies t ds) ≡ true
    same : (s : List ℕ) → declares ds k s e ≡ list_any (declares ds steps s) (bodies t ds)

  referred_declares : (k : ℕ) (e : Tree) (t : List ℕ) → referred e ≡ Some t → can_be_embedded ds k e ≡ true → DeclaresAs k e t
  unfolding can_be_embedded declares
  referred_declares zero e t is can = absurd (both_ways false refl can)
  referred_declares (suc k) (reference r o) t is can =
      let same : r ≡ t = cc in
      subst (DeclaresAs (suc k) (reference r o)) same (record { steps = k; can = can; same = λ s. refl })
  referred_declares (suc k) (paren e) t is can =
      let inside = referred_declares k e t is can in
      record { steps = inside.steps; can = inside.can; same = inside.same }
  referred_declares (suc k) (atom a) t is can = cc
  referred_declares (suc k) (named s o) t is can = cc
  referred_declares (suc k) (conjunction es) t is can = cc
  referred_declares (suc k) (disjunction es) t is can = cc
  referred_declares (suc k) (struct o fs b) t is can = cc
  referred_declares (suc k) (list es end) t is can = cc
  referred_declares (suc k) (wide w) t is can = cc

  pub row_of_name : (n : Numbers) (rows : BTreeMap (Bor (List ℕ)) (Vec Bool Global)) → TellsRows n rows ds → (k : ℕ) (e : Tree) (t : List ℕ)
      → referred e ≡ Some t → can_be_embedded ds k e ≡ true
      → (o : Option (Bor (Vec Bool Global))) → option_map (λ v. v.now) o ≡ told_at (TellsRow n ds) ds t rows → IsRowOf n ds k e o
  row_of_name n rows told k e t is can None at = tt
  row_of_name n rows told k e t is can (Some row) at =
      let good = told_some (TellsRow n ds) ds (told_at (TellsRow n ds) ds t rows) row.now (bodies t ds) (told t) (sym at) in
      let inside = referred_declares k e t is can in
      λ s. good.1 inside.steps inside.can s ∙ sym (inside.same s)
