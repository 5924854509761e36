-- Alternatives that are found one after another, while others are left, and how much they are.
use Rattle.std.proofs.Common.{◌≡◌, ℕ, suc, ◌+◌, ◌-◌, ◌/◌, ◌<◌, List, [], ◌∷◌, ◌++◌, length, map, append_assoc, sym, ap, ap₂, ◌∙◌, subst, arith}
use Rattle.std.proofs.lemmas.List.{map-append, length-map}
use Rattle.std.specs.Borrow.{Bor}
use Rattle.cs_grammar.specs.View.{field_view}
use Rattle.cs_grammar.specs.declared.ast.Field.{Field}
use Rattle.cs_grammar.proofs.Views.{view-mark, view-value}
use Rattle.cs_embeddings.specs.Alternatives.{Origin, Brought, Alternative}
use Rattle.cs_embeddings.specs.Gathered.{most_gathered}
use Rattle.cs_embeddings.specs.Views.{origin_view, brought_view, alternative_view, alternatives_view, weight_of, IsTooMuch}
use Rattle.cs_embeddings.specs.declared.alternatives.Alternative as rust
use Rattle.cs_embeddings.specs.declared.alternatives.Brought as brought
use Rattle.cs_embeddings.specs.declared.alternatives.Origin as rust_origin
use Rattle.cs_embeddings.specs.declared.fault.EmbeddingFault.{EmbeddingFault}
use Rattle.cs_embeddings.proofs.Weights.{weight-append, too_much_of_left}

-- what is too much with it shows that all are
pub too_much_here : (e : EmbeddingFault) (room : ℕ) (before own rest all : List Alternative) → before ++ (own ++ rest) ≡ all
    → IsTooMuch e room (before ++ own) → IsTooMuch e room all
too_much_here e room before own rest all whole h = subst (IsTooMuch e room) (append_assoc before own rest ∙ whole)
    (too_much_of_left e room (before ++ own) rest h)

-- ---- how much is found

-- how much one is
own_weight : (a : rust.Alternative) (n : ℕ) → n ≡ length a.declarations.items → weight_of (alternative_view a ∷ []) ≡ suc (n / most_gathered) + 0
own_weight a n counted = ap (λ k. suc (k / most_gathered) + 0) (length-map a.declarations.items brought_view ∙ sym counted)

in_all : (w q before all own : ℕ) → all ≡ before + own → w ≡ before → own ≡ suc q + 0 → w + (q + 1) ≡ all
in_all w q before all own whole weighed is = omega arith

above_all : (room w q before all own : ℕ) → room - w < q + 1 → all ≡ before + own → w ≡ before → own ≡ suc q + 0 → room < all
above_all room w q before all own above whole weighed is = omega arith

-- it is as much as is counted
pub weight_pushed : (xs ys : List rust.Alternative) (a : rust.Alternative) (w n : ℕ) → ys ≡ xs ++ a ∷ [] → w ≡ weight_of (alternatives_view xs)
    → n ≡ length a.declarations.items → w + (n / most_gathered + 1) ≡ weight_of (alternatives_view ys)
weight_pushed xs ys a w n grown weighed counted =
    let whole = ap (λ zs. weight_of (alternatives_view zs)) grown ∙ ap weight_of (map-append alternative_view xs (a ∷ []))
    ∙ weight-append (alternatives_view xs) (alternative_view a ∷ []) in
    in_all w (n / most_gathered) (weight_of (alternatives_view xs)) (weight_of (alternatives_view ys)) (weight_of (alternative_view a ∷ [])) whole weighed
    (own_weight a n counted)

-- it would be more than there is room for
pub weight_above : (xs : List rust.Alternative) (a : rust.Alternative) (room w n : ℕ) → room - w < n / most_gathered + 1 → w ≡ weight_of (alternatives_view xs)
    → n ≡ length a.declarations.items → room < weight_of (alternatives_view xs ++ alternative_view a ∷ [])
weight_above xs a room w n above weighed counted =
    above_all room w (n / most_gathered) (weight_of (alternatives_view xs)) (weight_of (alternatives_view xs ++ alternative_view a ∷ []))
    (weight_of (alternative_view a ∷ [])) above (weight-append (alternatives_view xs) (alternative_view a ∷ [])) weighed (own_weight a n counted)

-- ---- what stands in an alternative

-- one definition more is embedded
pub met_more : (xs ys : List (Bor (List ℕ))) (s : Bor (List ℕ)) → ys ≡ xs ++ s ∷ [] → map (λ t. t.now) ys ≡ map (λ t. t.now) xs ++ s.now ∷ []
met_more xs ys s grown = ap (map (λ t. t.now)) grown ∙ map-append (λ (t : Bor (List ℕ)). t.now) xs (s ∷ [])

-- a field as a declaration
abbrev pub brought_field : Origin → Field → Brought
brought_field p f =
    record { label = (field_view f).label; mark = (field_view f).mark; value = (field_view f).value; place = p.place; embedding = p.embedding }

-- the same, as the code has it
abbrev pub brought_by : rust_origin.Origin → Bor Field → brought.Brought
brought_by p f = record { field = f; place = p.place; embedding = p.embedding; by = p.by }

seen_field : (f : Bor Field) (p : rust_origin.Origin) → brought_view (brought_by p f) ≡ brought_field (origin_view p) f.now
seen_field f p =
    ap₂ (λ m v. record { label = (field_view f.now).label; mark = m; value = v; place = p.place; embedding = p.embedding })
    (sym (view-mark f.now)) (sym (view-value f.now))

-- one field more is declared
pub declared_more : (xs ys : List brought.Brought) (f : Bor Field) (p : rust_origin.Origin) → ys ≡ xs ++ brought_by p f ∷ []
    → map brought_view ys ≡ map brought_view xs ++ brought_field (origin_view p) f.now ∷ []
declared_more xs ys f p grown =
    ap (map brought_view) grown ∙ map-append brought_view xs (brought_by p f ∷ []) ∙ ap (λ b. map brought_view xs ++ b ∷ []) (seen_field f p)
