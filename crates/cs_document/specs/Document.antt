-- A document: null, a truth value, an integer, a text, a list, or a map from texts to documents
-- (RFC 8259, section 3; numbers are signed integers of 64 bits).
use Rattle.std.specs.Prelude.{◌≡◌, ℕ, suc, max, ℤ, List, [], ◌∷◌, Bool, false, true, ◌&&◌, Option, Some, None, FitsSigned, if◌then◌else◌}
use Rattle.std.specs.Bool.{beq}
use Rattle.std.specs.Int.{w64}
use Rattle.std.specs.Ordering.{nat_cmp, int_eq, match_ordering}
use Rattle.std.specs.declared.cmp.Ordering.TheVariants.{Less}
use Rattle.std.specs.Cmp.Lexicographic.{slice_cmp}
use Rattle.std.specs.Str.{bytes_eq}

mutual
  pub data Document : Type 0 where
    null : Document
    boolean : Bool → Document
    integer : ℤ → Document
    text : List ℕ → Document
    list : Documents → Document
    object : Members → Document

  pub data Documents : Type 0 where
    no_documents : Documents
    document : Document → Documents → Documents

  -- a map, as its members in the order of their keys
  pub data Members : Type 0 where
    no_members : Members
    member : List ℕ → Document → Members → Members

-- a key, and what stands under it
abbrev pub Entry : Type 0 → Type 0
Entry A = List ℕ × A

abbrev pub elements : Documents → List Document
elements no_documents = []
elements (document d ds) = d ∷ elements ds

abbrev pub entries : Members → List (Entry Document)
entries no_members = []
entries (member k d ms) = (k, d) ∷ entries ms

-- what stands under a key
abbrev pub under : {A : Type 0} → List ℕ → List (Entry A) → Option A
under k [] = None
under k (e ∷ es) = if bytes_eq k e.0 then Some e.1 else under k es

-- each key of the members is above k
abbrev pub KeysAbove : List ℕ → Members → Type 0
KeysAbove k no_members = Unit {0}
KeysAbove k (member l d ms) = (slice_cmp nat_cmp k l ≡ Less) × KeysAbove k ms

-- integers of 64 signed bits at every depth, and each key once, in byte order
abbrev mutual
  pub IsDocument : Document → Type 0
  IsDocument null = Unit {0}
  IsDocument (boolean b) = Unit {0}
  IsDocument (integer z) = FitsSigned w64 z
  IsDocument (text s) = Unit {0}
  IsDocument (list ds) = AreDocuments ds
  IsDocument (object ms) = AreMembers ms

  pub AreDocuments : Documents → Type 0
  AreDocuments no_documents = Unit {0}
  AreDocuments (document d ds) = IsDocument d × AreDocuments ds

  pub AreMembers : Members → Type 0
  AreMembers no_members = Unit {0}
  AreMembers (member k d ms) = KeysAbove k ms × IsDocument d × AreMembers ms

-- whether two documents are the same
abbrev mutual
  pub document_eq : Document → Document → Bool
  document_eq null null = true
  document_eq (boolean a) (boolean b) = beq a b
  document_eq (integer a) (integer b) = int_eq a b
  document_eq (text a) (text b) = bytes_eq a b
  document_eq (list a) (list b) = documents_eq a b
  document_eq (object a) (object b) = members_eq a b
  document_eq _ _ = false

  pub documents_eq : Documents → Documents → Bool
  documents_eq no_documents no_documents = true
  documents_eq (document a as') (document b bs) = document_eq a b && documents_eq as' bs
  documents_eq _ _ = false

  pub members_eq : Members → Members → Bool
  members_eq no_members no_members = true
  members_eq (member k a as') (member l b bs) = bytes_eq k l && document_eq a b && members_eq as' bs
  members_eq _ _ = false

-- how deep lists and maps nest
abbrev mutual
  pub depth : Document → ℕ
  depth null = 0
  depth (boolean b) = 0
  depth (integer z) = 0
  depth (text s) = 0
  depth (list ds) = suc (documents_depth ds)
  depth (object ms) = suc (members_depth ms)

  pub documents_depth : Documents → ℕ
  documents_depth no_documents = 0
  documents_depth (document d ds) = max (depth d) (documents_depth ds)

  pub members_depth : Members → ℕ
  members_depth no_members = 0
  members_depth (member k d ms) = max (depth d) (members_depth ms)

-- the members, with d at k
abbrev pub put : List ℕ → Document → Members → Members
put k d no_members = member k d no_members
put k d (member l e ms) = match_ordering (slice_cmp nat_cmp k l) (member k d (member l e ms)) (member l d ms) (member l e (put k d ms))
