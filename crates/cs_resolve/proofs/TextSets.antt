-- Sets of the labels of fields, as texts.
use Rattle.std.proofs.Common.{◌≡◌, ℕ, ◌+◌, ◌<◌, Bool, true, false, ◌||◌, List, [], ◌∷◌, ◌++◌, take, length, get_or, refl, sym, ap, ap₂, ◌∙◌, string_bytes}
use Rattle.std.specs.Borrow.{Bor}
use Rattle.std.specs.BTreeSet.{BTreeSet}
use Rattle.std.specs.Str.{bytes_eq}
use Rattle.std.proofs.lemmas.List.Folds.{list_any-append}
use Rattle.cs_grammar.specs.View.{field_view, fields_view}
use Rattle.cs_grammar.specs.declared.ast.Field.{Field}
use Rattle.cs_grammar.proofs.Views.{view-text}
use Rattle.cs_resolve.specs.Narrowed.{HoldsTexts}
use Rattle.cs_resolve.specs.Refinement.{texts}
use Rattle.cs_resolve.proofs.LabelSets.{Puts, has_text_put}
use Rattle.cs_resolve.proofs.Trees.{take_at}

or_nothing : (b : Bool) → (b || false) ≡ b
or_nothing true = refl
or_nothing false = refl

-- one more text
pub text_put : (s n : BTreeSet (Bor (List ℕ))) (ts : List (List ℕ)) (k : Bor (List ℕ)) → HoldsTexts s ts → Puts s n k → HoldsTexts n (ts ++ k.now ∷ [])
text_put s n ts k held put t =
    has_text_put t s n k put
    ∙ ap₂ (λ a b. a || b) (held t) (sym (or_nothing (bytes_eq t k.now)))
    ∙ sym (list_any-append (bytes_eq t) ts (k.now ∷ []))

texts_push : (xs : List Field) (x : Field) → texts (fields_view (xs ++ x ∷ [])) ≡ texts (fields_view xs) ++ string_bytes x.label ∷ []
texts_push [] x = ap (λ t. t ∷ []) (view-text x)
texts_push (y ∷ xs) x = ap (λ ts. (field_view y).label.text ∷ ts) (texts_push xs x)

-- a literal's first labels, and one more
pub texts_more : (xs : List Field) (i : ℕ) (x : Field) → i < length xs → x ≡ get_or xs i x → (t : List ℕ) → t ≡ string_bytes x.label → texts (fields_view (take (i + 1) xs)) ≡ texts (fields_view (take i xs)) ++ t ∷ []
texts_more xs i x l is t same =
    ap (λ ys. texts (fields_view ys)) (take_at xs i x l is)
    ∙ texts_push (take i xs) x
    ∙ ap (λ u. texts (fields_view (take i xs)) ++ u ∷ []) (sym same)
