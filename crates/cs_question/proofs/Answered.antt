-- A table at rest says the truth of all documents: by induction on how deep they are.
use Rattle.std.proofs.Common.{◌≡◌, ℕ, zero, suc, ◌<◌, ◌≤◌, true, List, arith}
use Rattle.cs_document.specs.Document.{Document, IsDocument, depth}
use Rattle.cs_question.specs.declared.nodes.Literal.{Literal}
use Rattle.cs_question.specs.declared.nodes.Nodes.{Nodes}
use Rattle.cs_question.specs.declared.table.Table.{Table}
use Rattle.cs_question.specs.Nodes.{Judgement, IsMeaning}
use Rattle.cs_question.specs.Asked.{meets_all}
use Rattle.cs_question.specs.Truth.{IsInner, IsShut, IsAtRest}

module _ (ns : Nodes) (table : Table) (ended : table.is_final ≡ true) (rest : IsAtRest ns table) (J : Judgement) (m : IsMeaning ns J) where
  none_below : (n : ℕ) (asked : List Literal) → IsShut table.entries.items asked → (y : Document) → IsInner n y → meets_all J y asked ≡ true → ⊥
  none_below zero asked shut y inner h = let l = inner.1 in omega (arith, l)
  none_below (suc n) asked shut y inner h = let l = inner.1 in rest asked shut ended (record { J = J; n = n; none = none_below n }) m y inner.0 (omega (arith, l)) h

  pub no_document : (asked : List Literal) → IsShut table.entries.items asked → (x : Document) → IsDocument x → meets_all J x asked ≡ true → ⊥
  no_document asked shut x d h = none_below (suc (depth x)) asked shut x (d, omega arith) h
