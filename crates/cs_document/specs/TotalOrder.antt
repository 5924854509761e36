-- The order of documents is total, and `Equal` exactly where they are the same.
use Rattle.std.specs.Prelude.{◌≡◌, ℕ, List, Bool, true, false, refl}
use Rattle.std.specs.Bool.{beq}
use Rattle.std.specs.Cmp.{IsTotalOrder, IsEquivalence, both_tied, alike_right, nat_cmp_total, bool_cmp_total, int_cmp_total, decided}
use Rattle.std.specs.Cmp.Lexicographic.{slice_cmp, nat_list_cmp_total, texts_ties}
use Rattle.std.specs.declared.cmp.Ordering.{Ordering}
use Rattle.std.specs.declared.cmp.Ordering.TheVariants.{Less, Equal, Greater}
use Rattle.std.specs.Ordering.{nat_cmp, bool_cmp, is_eq, ordering_then, ordering_reverse}
use Rattle.std.proofs.Common.{sym, ap, ap₂, ◌∙◌}
use Rattle.cs_document.specs.Document.{Document, null, boolean, integer, text, list, object, Documents, no_documents, document, Members, no_members, member, document_eq, documents_eq, members_eq}
use Rattle.cs_document.specs.Equality.{document_eq-true, document_eq-Decides}
use Rattle.cs_document.specs.Order.{kind, document_cmp, documents_cmp, members_cmp}

-- ---- `Equal` exactly where the equality holds

truths : (a b : Bool) → beq a b ≡ is_eq (bool_cmp a b)
truths true true = refl
truths true false = refl
truths false true = refl
truths false false = refl

mutual
  pub document_cmp-eq : (a b : Document) → document_eq a b ≡ is_eq (document_cmp a b)
  document_cmp-eq null null = refl
  document_cmp-eq (boolean a) (boolean b) = truths a b
  document_cmp-eq (integer a) (integer b) = refl
  document_cmp-eq (text a) (text b) = texts_ties a b
  document_cmp-eq (list a) (list b) = documents_cmp-eq a b
  document_cmp-eq (object a) (object b) = members_cmp-eq a b
  document_cmp-eq _ _ = refl

  documents_cmp-eq : (a b : Documents) → documents_eq a b ≡ is_eq (documents_cmp a b)
  documents_cmp-eq no_documents no_documents = refl
  documents_cmp-eq (document a as') (document b bs) = both_tied _ _ (document_cmp a b) (documents_cmp as' bs) (document_cmp-eq a b) (documents_cmp-eq as' bs)
  documents_cmp-eq _ _ = refl

  members_cmp-eq : (a b : Members) → members_eq a b ≡ is_eq (members_cmp a b)
  members_cmp-eq no_members no_members = refl
  members_cmp-eq (member k a as') (member l b bs) =
      let first = both_tied _ _ (slice_cmp nat_cmp k l) (document_cmp a b) (texts_ties k l) (document_cmp-eq a b) in
      both_tied _ _ (ordering_then (slice_cmp nat_cmp k l) (document_cmp a b)) (members_cmp as' bs) first (members_cmp-eq as' bs)
  members_cmp-eq _ _ = refl

pub document_cmp-same : (a b : Document) → document_cmp a b ≡ Equal → a ≡ b
document_cmp-same a b e = document_eq-true a b (document_cmp-eq a b ∙ ap is_eq e)

-- ---- it turns round

then-reverse : (o r : Ordering) → ordering_then (ordering_reverse o) (ordering_reverse r) ≡ ordering_reverse (ordering_then o r)
then-reverse Less r = refl
then-reverse Equal r = refl
then-reverse Greater r = refl

turned : (o p r s : Ordering) → o ≡ ordering_reverse p → r ≡ ordering_reverse s → ordering_then o r ≡ ordering_reverse (ordering_then p s)
turned o p r s e f = ap₂ ordering_then e f ∙ then-reverse p s

mutual
  document_cmp-turned : (a b : Document) → document_cmp a b ≡ ordering_reverse (document_cmp b a)
  document_cmp-turned null null = refl
  document_cmp-turned (boolean a) (boolean b) = bool_cmp_total.antisymm a b
  document_cmp-turned (integer a) (integer b) = int_cmp_total.antisymm a b
  document_cmp-turned (text a) (text b) = nat_list_cmp_total.antisymm a b
  document_cmp-turned (list a) (list b) = documents_cmp-turned a b
  document_cmp-turned (object a) (object b) = members_cmp-turned a b
  document_cmp-turned _ _ = refl

  documents_cmp-turned : (a b : Documents) → documents_cmp a b ≡ ordering_reverse (documents_cmp b a)
  documents_cmp-turned no_documents no_documents = refl
  documents_cmp-turned (document a as') (document b bs) = turned _ (document_cmp b a) _ (documents_cmp bs as') (document_cmp-turned a b) (documents_cmp-turned as' bs)
  documents_cmp-turned _ _ = refl

  members_cmp-turned : (a b : Members) → members_cmp a b ≡ ordering_reverse (members_cmp b a)
  members_cmp-turned no_members no_members = refl
  members_cmp-turned (member k a as') (member l b bs) =
      let first = turned _ (slice_cmp nat_cmp l k) _ (document_cmp b a) (nat_list_cmp_total.antisymm k l) (document_cmp-turned a b) in
      turned _ (ordering_then (slice_cmp nat_cmp l k) (document_cmp b a)) _ (members_cmp bs as') first (members_cmp-turned as' bs)
  members_cmp-turned _ _ = refl

-- ---- it is transitive

-- of pairs, of which the first parts decide where they aren't `Equal`
below : (o p q r s t : Ordering) → (o ≡ Less → p ≡ Less → q ≡ Less) → (o ≡ Equal → q ≡ p) → (p ≡ Equal → q ≡ o)
    → (o ≡ Equal → p ≡ Equal → r ≡ Less → s ≡ Less → t ≡ Less) → ordering_then o r ≡ Less → ordering_then p s ≡ Less → ordering_then q t ≡ Less
below Less Less q r s t less left right rest e f = ap (λ x. ordering_then x t) (less refl refl)
below Less Equal q r s t less left right rest e f = ap (λ x. ordering_then x t) (right refl)
below Less Greater q r s t less left right rest e f = cc
below Equal Less q r s t less left right rest e f = ap (λ x. ordering_then x t) (left refl)
below Equal Equal q r s t less left right rest e f = ap (λ x. ordering_then x t) (left refl) ∙ rest refl refl e f
below Equal Greater q r s t less left right rest e f = cc
below Greater p q r s t less left right rest e f = cc

-- the kinds decide first
kinds : (a b : Document) → document_cmp a b ≡ ordering_then (nat_cmp (kind a) (kind b)) (document_cmp a b)
kinds null null = refl
kinds (boolean a) (boolean b) = refl
kinds (integer a) (integer b) = refl
kinds (text a) (text b) = refl
kinds (list a) (list b) = refl
kinds (object a) (object b) = refl
kinds _ _ = refl

abbrev IsChain : (a b c : Document) → Type 0
IsChain a b c = document_cmp a b ≡ Less → document_cmp b c ≡ Less → document_cmp a c ≡ Less

-- enough of documents of one kind
by_kinds : (a b c : Document) → (nat_cmp (kind a) (kind b) ≡ Equal → nat_cmp (kind b) (kind c) ≡ Equal → IsChain a b c) → IsChain a b c
by_kinds a b c alike e f =
    kinds a c
    ∙ below (nat_cmp (kind a) (kind b)) (nat_cmp (kind b) (kind c)) (nat_cmp (kind a) (kind c)) (document_cmp a b) (document_cmp b c) (document_cmp a c)
    (nat_cmp_total.trans (kind a) (kind b) (kind c)) (nat_cmp_total.congr (kind a) (kind b) (kind c)) (λ i. sym (alike_right nat_cmp_total (kind b) (kind c) (kind a) i))
    alike (sym (kinds a b) ∙ e) (sym (kinds b c) ∙ f)

left_same : (a b c : Document) → document_cmp a b ≡ Equal → document_cmp a c ≡ document_cmp b c
left_same a b c e = ap (λ x. document_cmp x c) (document_cmp-same a b e)

right_same : (a b c : Document) → document_cmp b c ≡ Equal → document_cmp a c ≡ document_cmp a b
right_same a b c e = ap (document_cmp a) (sym (document_cmp-same b c e))

-- a member beside a member
abbrev member_cmp : List ℕ → Document → List ℕ → Document → Ordering
member_cmp k a l b = ordering_then (slice_cmp nat_cmp k l) (document_cmp a b)

both_level : (o r : Ordering) → ordering_then o r ≡ Equal → (o ≡ Equal) × (r ≡ Equal)
both_level Less r e = cc
both_level Equal r e = (refl, e)
both_level Greater r e = cc

left_alike : (k l m : List ℕ) (a b c : Document) → member_cmp k a l b ≡ Equal → member_cmp k a m c ≡ member_cmp l b m c
left_alike k l m a b c e = let h = both_level (slice_cmp nat_cmp k l) (document_cmp a b) e in ap₂ ordering_then (nat_list_cmp_total.congr k l m h.0) (left_same a b c h.1)

right_alike : (k l m : List ℕ) (a b c : Document) → member_cmp l b m c ≡ Equal → member_cmp k a m c ≡ member_cmp k a l b
right_alike k l m a b c e =
    let h = both_level (slice_cmp nat_cmp l m) (document_cmp b c) e in ap₂ ordering_then (sym (alike_right nat_list_cmp_total l m k h.0)) (right_same a b c h.1)

mutual
  chain_of_kind : (a b c : Document) → nat_cmp (kind a) (kind b) ≡ Equal → nat_cmp (kind b) (kind c) ≡ Equal → IsChain a b c
  chain_of_kind null null null i j e f = e
  chain_of_kind (boolean a) (boolean b) (boolean c) i j e f = bool_cmp_total.trans a b c e f
  chain_of_kind (integer a) (integer b) (integer c) i j e f = int_cmp_total.trans a b c e f
  chain_of_kind (text a) (text b) (text c) i j e f = nat_list_cmp_total.trans a b c e f
  chain_of_kind (list a) (list b) (list c) i j e f = documents_chain a b c e f
  chain_of_kind (object a) (object b) (object c) i j e f = members_chain a b c e f
  chain_of_kind _ _ _ i j e f = cc

  documents_chain : (a b c : Documents) → documents_cmp a b ≡ Less → documents_cmp b c ≡ Less → documents_cmp a c ≡ Less
  documents_chain no_documents no_documents c e f = cc
  documents_chain no_documents (document b bs) no_documents e f = cc
  documents_chain no_documents (document b bs) (document c cs) e f = refl
  documents_chain (document a as') no_documents c e f = cc
  documents_chain (document a as') (document b bs) no_documents e f = cc
  documents_chain (document a as') (document b bs) (document c cs) e f =
      below (document_cmp a b) (document_cmp b c) (document_cmp a c) (documents_cmp as' bs) (documents_cmp bs cs) (documents_cmp as' cs)
      (by_kinds a b c (chain_of_kind a b c)) (left_same a b c) (right_same a b c) (λ i j. documents_chain as' bs cs) e f

  members_chain : (a b c : Members) → members_cmp a b ≡ Less → members_cmp b c ≡ Less → members_cmp a c ≡ Less
  members_chain no_members no_members c e f = cc
  members_chain no_members (member l b bs) no_members e f = cc
  members_chain no_members (member l b bs) (member m c cs) e f = refl
  members_chain (member k a as') no_members c e f = cc
  members_chain (member k a as') (member l b bs) no_members e f = cc
  members_chain (member k a as') (member l b bs) (member m c cs) e f =
      let first = below (slice_cmp nat_cmp k l) (slice_cmp nat_cmp l m) (slice_cmp nat_cmp k m) (document_cmp a b) (document_cmp b c) (document_cmp a c)
      (nat_list_cmp_total.trans k l m) (nat_list_cmp_total.congr k l m) (λ i. sym (alike_right nat_list_cmp_total l m k i)) (λ i j. by_kinds a b c (chain_of_kind a b c)) in
      below (member_cmp k a l b) (member_cmp l b m c) (member_cmp k a m c) (members_cmp as' bs) (members_cmp bs cs) (members_cmp as' cs)
      first (left_alike k l m a b c) (right_alike k l m a b c) (λ i j. members_chain as' bs cs) e f

pub document_cmp-total : IsTotalOrder document_cmp
document_cmp-total = record {
  antisymm = document_cmp-turned;
  trans = λ a b c. by_kinds a b c (chain_of_kind a b c);
  congr = left_same;
}

pub document_eq-equivalence : IsEquivalence document_eq
document_eq-equivalence = decided document_eq document_eq-Decides
