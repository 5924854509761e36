-- Integers in order, and references to other documents in the order of their hashes; for private contracts and proofs.
use Rattle.std.specs.Prelude.{ℕ, ◌+◌, ◌*◌, ◌%◌, ◌^◌, ℤ, List, [], ◌∷◌, Option, Some, None, map, take}
use Rattle.std.specs.Borrow.{Bor}
use Rattle.std.specs.List.{fold, flat_map}
use Rattle.std.specs.Option.{option_map_or}
use Rattle.std.specs.List.Sorted.{IsPermutation, IsSorted}
use Rattle.std.specs.Ordering.{nat_cmp, int_cmp, ordering_then}
use Rattle.std.specs.declared.cmp.Ordering.{Ordering}
use Rattle.cs_document.specs.Document.{Document, integer, text}
use Rattle.cs_document.specs.View.{doc_view}
use Rattle.cs_document.specs.Order.{document_cmp}
use Rattle.cs_document.specs.declared.doc.Doc.{Doc}

abbrev pub integer_of : Document → Option ℤ
integer_of (integer z) = Some z
integer_of _ = None

-- bytes as the digits of a number, without what is beyond 64 bits
abbrev pub hash_bytes : List ℕ → ℕ
hash_bytes = fold (λ n b. (n * 257 + b) % 2 ^ 64) 0

-- of a text's first 64 bytes
abbrev pub text_hash : List ℕ → ℕ
text_hash s = hash_bytes (take 64 s)

-- a number of 64 bits, which is seldom the same for two texts
abbrev pub hash : Document → ℕ
hash (text s) = text_hash s
hash _ = 0

-- a document behind its hash
abbrev pub Hashed : Type 0
Hashed = ℕ × Document

abbrev pub hashed : Document → Hashed
hashed d = (hash d, d)

-- by hash, and then by the order of documents
abbrev pub hashed_cmp : Hashed → Hashed → Ordering
hashed_cmp a b = ordering_then (nat_cmp a.0 b.0) (document_cmp a.1 b.1)

-- the integer that a document is, and otherwise the document
abbrev pub integer_in : Document → List ℤ
integer_in d = option_map_or (λ z. z ∷ []) (integer_of d) []

abbrev pub other_in : Document → List Hashed
other_in d = option_map_or (λ z. []) (integer_of d) (hashed d ∷ [])

abbrev pub seen : ℕ × Bor Doc → Hashed
seen e = (e.0, doc_view e.1.now)

-- the same documents, in order
pub record IsInOrder (docs : List Document) (zs : List ℤ) (es : List (ℕ × Bor Doc)) : Type 0 where
  pub same_integers : IsPermutation (flat_map integer_in docs) zs
  pub integer_order : IsSorted int_cmp zs
  pub same_others : IsPermutation (flat_map other_in docs) (map seen es)
  pub other_order : IsSorted (λ c d. hashed_cmp (seen c) (seen d)) es
