-- Sets of the labels of the struct literals around.
use Rattle.std.proofs.Common.{◌≡◌, ℕ, ◌+◌, ◌-◌, ◌<◌, Bool, true, false, ◌||◌, ◌&&◌, not, cond, List, [], ◌∷◌, ◌++◌, Some, is_some, take, length, get_or, refl, sym, ap, ap₂, ◌∙◌, string_bytes, arith}
use Rattle.std.specs.Borrow.{Bor}
use Rattle.std.specs.BTreeSet.{BTreeSet, Updates}
use Rattle.std.specs.Cmp.Lexicographic.{slice_cmp}
use Rattle.std.specs.List.{list_any}
use Rattle.std.specs.Ordering.{is_eq, nat_cmp}
use Rattle.std.specs.Str.{bytes_eq}
use Rattle.std.proofs.Math.Seq.{take-append_seam}
use Rattle.std.proofs.lemmas.List.{length-append}
use Rattle.std.proofs.lemmas.List.Folds.{list_any-append}
use Rattle.std.proofs.lemmas.Cmp.{nat_list_eq_equiv}
use Rattle.std.proofs.lemmas.Map.Text.{is_eq-slice_cmp}
use Rattle.cs_grammar.specs.Tree.{Label}
use Rattle.cs_grammar.specs.View.{fields_view, field_view}
use Rattle.cs_grammar.specs.declared.ast.Field.{Field}
use Rattle.cs_resolve.specs.Around.{has_text, HoldsLabels, HoldAround}
use Rattle.cs_resolve.specs.Scopes.{labels, is_label, has_label, innermost, names_field}
use Rattle.cs_resolve.proofs.Trees.{take_at, view-label}

or_nothing : (b : Bool) → (b || false) ≡ b
or_nothing true = refl
or_nothing false = refl

or_swap : (a b : Bool) → (a || b) ≡ (b || a)
or_swap true true = refl
or_swap true false = refl
or_swap false true = refl
or_swap false false = refl

-- ---- the literals around

names_field-cons : (t : List ℕ) (ls : List Label) (scopes : List (List Label)) → names_field t (ls ∷ scopes) ≡ (has_label t ls || names_field t scopes)
names_field-cons t ls scopes = elim (has_label t ls) as (λ b. is_some (cond b (Some ls) (innermost t scopes)) ≡ (b || names_field t scopes)) [ true ↦ refl | false ↦ refl ]

-- one literal more
pub entered : (sets more : List (BTreeSet (Bor (List ℕ)))) (s : BTreeSet (Bor (List ℕ))) (ls : List Label) (scopes : List (List Label)) → more ≡ sets ++ s ∷ [] → HoldsLabels s ls → HoldAround sets scopes → HoldAround more (ls ∷ scopes)
entered sets more s ls scopes grown own around t =
    ap (list_any (has_text t)) grown
    ∙ list_any-append (has_text t) sets (s ∷ [])
    ∙ ap₂ (λ a b. a || b) (around t) (or_nothing (has_text t s) ∙ own t)
    ∙ or_swap (names_field t scopes) (has_label t ls)
    ∙ sym (names_field-cons t ls scopes)

-- and taken away again
pub left : (sets more after : List (BTreeSet (Bor (List ℕ)))) (s : BTreeSet (Bor (List ℕ))) (n : ℕ) → more ≡ sets ++ s ∷ [] → n ≡ length more → after ≡ take (n - 1) more → after ≡ sets
left sets more after s n grown count taken =
    let long = ap length grown ∙ length-append sets (s ∷ []) in
    let last : n - 1 ≡ length sets = omega (arith, long, count) in
    taken ∙ ap₂ take last grown ∙ take-append_seam sets (s ∷ [])

-- ---- a literal's own labels

-- k is put into the set
abbrev pub Puts : BTreeSet (Bor (List ℕ)) → BTreeSet (Bor (List ℕ)) → Bor (List ℕ) → Type 0
Puts s n k = Updates (λ (x y : Bor (List ℕ)). slice_cmp nat_cmp x.now y.now) s n k true

pub has_text_put : (t : List ℕ) (s n : BTreeSet (Bor (List ℕ))) (k : Bor (List ℕ)) → Puts s n k → has_text t n ≡ (has_text t s || bytes_eq t k.now)
has_text_put t s n k put = put.0 (record { ref_ptr = k.ref_ptr; now = t }) ∙ by (is_eq (slice_cmp nat_cmp k.now t)) (is_eq-slice_cmp k.now t ∙ nat_list_eq_equiv.symm k.now t)
  where
    by : (b : Bool) → b ≡ bytes_eq t k.now → cond b true (has_text t s) ≡ (has_text t s || bytes_eq t k.now)
    by true same = or_swap true (has_text t s) ∙ ap (λ b. has_text t s || b) same
    by false other = sym (or_nothing (has_text t s)) ∙ ap (λ b. has_text t s || b) other

has_label-push : (t : List ℕ) (ls : List Label) (x : Field) (quotes : Bool) → x.quoted ≡ quotes → has_label t (ls ++ (field_view x).label ∷ []) ≡ (has_label t ls || (not quotes && bytes_eq t (string_bytes x.label)))
has_label-push t ls x quotes is =
    list_any-append (is_label t) ls ((field_view x).label ∷ [])
    ∙ ap (λ b. has_label t ls || b) (or_nothing (is_label t (field_view x).label) ∙ ap (is_label t) (view-label x) ∙ ap₂ (λ q b. not q && b) is (nat_list_eq_equiv.symm (string_bytes x.label) t))

module _ (s : BTreeSet (Bor (List ℕ))) (ls : List Label) (x : Field) (held : HoldsLabels s ls) where
  -- a quoted label is left out
  pub quoted_left_out : x.quoted ≡ true → HoldsLabels s (ls ++ (field_view x).label ∷ [])
  quoted_left_out quotes t = held t ∙ sym (has_label-push t ls x true quotes ∙ or_nothing (has_label t ls))

  -- another is put into the set
  pub label_put : x.quoted ≡ false → (n : BTreeSet (Bor (List ℕ))) (k : Bor (List ℕ)) → k.now ≡ string_bytes x.label → Puts s n k → HoldsLabels n (ls ++ (field_view x).label ∷ [])
  label_put plain n k label put t =
      has_text_put t s n k put
      ∙ ap₂ (λ a u. a || bytes_eq t u) (held t) label
      ∙ sym (has_label-push t ls x false plain)

labels-push : (xs : List Field) (x : Field) → labels (fields_view (xs ++ x ∷ [])) ≡ labels (fields_view xs) ++ (field_view x).label ∷ []
labels-push [] x = refl
labels-push (y ∷ xs) x = ap (λ ls. (field_view y).label ∷ ls) (labels-push xs x)

-- a literal's first labels, and one more
pub labels_more : (xs : List Field) (i : ℕ) (x : Field) → i < length xs → x ≡ get_or xs i x → labels (fields_view (take (i + 1) xs)) ≡ labels (fields_view (take i xs)) ++ (field_view x).label ∷ []
labels_more xs i x l is = ap (λ ys. labels (fields_view ys)) (take_at xs i x l is) ∙ labels-push (take i xs) x
