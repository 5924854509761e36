-- Sets of literals.
use Rattle.std.proofs.Common.{◌≡◌, List, [], ◌∷◌, ◌++◌, Bool, true, false, ◌||◌, cond, refl, sym, ap₂, ◌∙◌}
use Rattle.std.specs.BTreeSet.{BTreeSet, contains, Updates}
use Rattle.std.specs.List.{list_any}
use Rattle.std.specs.Ordering.{is_eq}
use Rattle.std.specs.declared.cmp.Ordering.{Ordering}
use Rattle.std.proofs.lemmas.List.Folds.{list_any-append}
use Rattle.std.proofs.lemmas.Map.Text.{is_eq-slice_cmp}
use Rattle.cs_document.specs.Document.{Document, document_eq}
use Rattle.cs_document.specs.Equality.{document_eq-laws}
use Rattle.cs_compile.specs.Literals.{literal_view}
use Rattle.cs_package.specs.contracts.inside.LiteralOrd.TheImpl as literal_ord
use Rattle.cs_package.specs.declared.inside.Literal.{Literal}
use Rattle.cs_package.specs.declared.inside.Literal.TheVariants as variant

-- the order by which the code looks literals up
abbrev pub literal_cmp : Literal → Literal → Ordering
literal_cmp = (literal_ord.ghosts).cmp

-- literals tie exactly where they are the same document
same_literal : (k q : Literal) → is_eq (literal_cmp k q) ≡ document_eq (literal_view k) (literal_view q)
same_literal variant.Null variant.Null = refl
same_literal (variant.Bool true) (variant.Bool true) = refl
same_literal (variant.Bool true) (variant.Bool false) = refl
same_literal (variant.Bool false) (variant.Bool true) = refl
same_literal (variant.Bool false) (variant.Bool false) = refl
same_literal (variant.Int m) (variant.Int n) = refl
same_literal (variant.Text s) (variant.Text t) = is_eq-slice_cmp s.now t.now
same_literal _ _ = refl

-- the set has the literals of some documents
abbrev pub AreSeen : BTreeSet Literal → List Document → Type 0
AreSeen s vs = (q : Literal) → contains literal_cmp s q ≡ list_any (document_eq (literal_view q)) vs

-- one literal more
pub seen-more : (s n : BTreeSet Literal) (k : Literal) (vs : List Document) → AreSeen s vs → Updates literal_cmp s n k true → AreSeen n (vs ++ literal_view k ∷ [])
seen-more s n k vs known puts q =
    puts.0 q ∙ ap₂ (λ b o. cond b true o) (same_literal k q ∙ (document_eq-laws).symm (literal_view k) (literal_view q)) (known q)
    ∙ by (document_eq (literal_view q) (literal_view k)) (list_any (document_eq (literal_view q)) vs)
    ∙ sym (list_any-append (document_eq (literal_view q)) vs (literal_view k ∷ []))
  where
    by : (b o : Bool) → cond b true o ≡ (o || (b || false))
    by true true = refl
    by true false = refl
    by false true = refl
    by false false = refl
