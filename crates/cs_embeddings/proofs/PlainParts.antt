-- The operands that aren't plain, and those beside which they stand, one after another.
use Rattle.std.proofs.Common.{◌≡◌, ℕ, ◌+◌, ◌<◌, ◌≤◌, Bool, true, false, not, cond, List, [], ◌∷◌, ◌++◌, Option, Some, None, map, filter, drop, length, get_or, refl, sym, ap, ap₂, ◌∙◌}
use Rattle.std.proofs.lemmas.List.{append_assoc, append-nil, map-append}
use Rattle.std.specs.Borrow.{Bor}
use Rattle.cs_grammar.specs.Tree.{Tree, more}
use Rattle.cs_grammar.specs.View.{expr_view, exprs_view, trees_of}
use Rattle.cs_grammar.specs.declared.ast.Expr.{Expr}
use Rattle.cs_embeddings.proofs.Walks.{at_place, drop_all}
use Rattle.cs_embeddings.specs.Checks.{bodies_view}
use Rattle.cs_embeddings.specs.Held.{is_plain, holding}
use Rattle.cs_embeddings.specs.Standing.{operand_view, standing}
use Rattle.cs_embeddings.specs.declared.held.Operand.{Operand}

abbrev pub held_of : List Tree → List Tree
held_of ts = filter (λ t. not (is_plain t)) ts

holding_is : (ts : List Tree) → holding (trees_of ts) ≡ trees_of (held_of ts)
holding_is [] = refl
holding_is (t ∷ ts) = by (is_plain t) (holding_is ts)
  where
    by : (b : Bool) → holding (trees_of ts) ≡ trees_of (held_of ts)
        → cond b (holding (trees_of ts)) (more t (holding (trees_of ts))) ≡ trees_of (cond (not b) (t ∷ held_of ts) (held_of ts))
    by true later = later
    by false later = ap (more t) later

module _ (xs : List Expr) (i : ℕ) where
  abbrev rest : List Tree
  rest = map expr_view (drop (i + 1) xs)

  module _ (x : Expr) (l : i < length xs) (is : x ≡ get_or xs i x) where
    here : map expr_view (drop i xs) ≡ expr_view x ∷ rest
    here = ap (map expr_view) (at_place xs i x l is)

    module _ (plain : Bool) (tells : plain ≡ is_plain (expr_view x)) where
      held_next : held_of (map expr_view (drop i xs)) ≡ cond (not plain) (expr_view x ∷ held_of rest) (held_of rest)
      held_next = ap held_of here ∙ ap (λ b. cond (not b) (expr_view x ∷ held_of rest) (held_of rest)) (sym tells)

      pub held_passed : (held : List (Bor Expr)) → plain ≡ true → bodies_view held ++ held_of (map expr_view (drop i xs)) ≡ held_of (map expr_view xs)
          → bodies_view held ++ held_of rest ≡ held_of (map expr_view xs)
      held_passed held p told =
          ap (λ ts. bodies_view held ++ ts) (sym (held_next ∙ ap (λ b. cond (not b) (expr_view x ∷ held_of rest) (held_of rest)) p)) ∙ told

      pub held_pushed : (held held' : List (Bor Expr)) (e : Bor Expr) → plain ≡ false → e.now ≡ x → held' ≡ held ++ e ∷ []
          → bodies_view held ++ held_of (map expr_view (drop i xs)) ≡ held_of (map expr_view xs)
          → bodies_view held' ++ held_of rest ≡ held_of (map expr_view xs)
      held_pushed held held' e p same grown told =
          ap (λ es. bodies_view es ++ held_of rest) grown
          ∙ ap (λ ts. ts ++ held_of rest) (map-append (λ (e : Bor Expr). expr_view e.now) held (e ∷ []))
          ∙ append_assoc (bodies_view held) (expr_view e.now ∷ []) (held_of rest)
          ∙ ap (λ y. bodies_view held ++ (expr_view y ∷ held_of rest)) same
          ∙ ap (λ ts. bodies_view held ++ ts) (sym (held_next ∙ ap (λ b. cond (not b) (expr_view x ∷ held_of rest) (held_of rest)) p)) ∙ told

      module _ (met : Bool) where
        standing_next : standing met (map expr_view (drop i xs))
            ≡ cond plain (Some (expr_view x) ∷ standing met rest) (cond met (standing true rest) (None ∷ standing true rest))
        standing_next =
            ap (standing met) here
            ∙ ap (λ b. cond b (Some (expr_view x) ∷ standing met rest) (cond met (standing true rest) (None ∷ standing true rest))) (sym tells)

        pub stands_pushed : (os os' : List Operand) (o : Operand) (t : Option Tree) (after : Bool) → operand_view o ≡ t → os' ≡ os ++ o ∷ []
            → cond plain (Some (expr_view x) ∷ standing met rest) (cond met (standing true rest) (None ∷ standing true rest)) ≡ t ∷ standing after rest
            → map operand_view os ++ standing met (map expr_view (drop i xs)) ≡ standing false (map expr_view xs)
            → map operand_view os' ++ standing after rest ≡ standing false (map expr_view xs)
        stands_pushed os os' o t after view grown next told =
            ap (λ ps. map operand_view ps ++ standing after rest) grown
            ∙ ap (λ ts. ts ++ standing after rest) (map-append operand_view os (o ∷ []))
            ∙ append_assoc (map operand_view os) (operand_view o ∷ []) (standing after rest)
            ∙ ap (λ u. map operand_view os ++ (u ∷ standing after rest)) view
            ∙ ap (λ ts. map operand_view os ++ ts) (sym (standing_next ∙ next)) ∙ told

        pub stands_passed : (os : List Operand) → plain ≡ false → met ≡ true
            → map operand_view os ++ standing met (map expr_view (drop i xs)) ≡ standing false (map expr_view xs)
            → map operand_view os ++ standing true rest ≡ standing false (map expr_view xs)
        stands_passed os p m told =
            ap (λ ts. map operand_view os ++ ts)
            (sym (standing_next ∙ ap₂ (λ b c. cond b (Some (expr_view x) ∷ standing met rest) (cond c (standing true rest) (None ∷ standing true rest))) p m)) ∙ told

  module _ (l : length xs ≤ i) where
    pub all_held : (held : List (Bor Expr)) → bodies_view held ++ held_of (map expr_view (drop i xs)) ≡ held_of (map expr_view xs)
        → trees_of (bodies_view held) ≡ holding (exprs_view xs)
    all_held held told =
        ap trees_of (sym (append-nil (bodies_view held)) ∙ ap (λ es. bodies_view held ++ held_of (map expr_view es)) (sym (drop_all xs i l)) ∙ told)
        ∙ sym (holding_is (map expr_view xs))

    pub all_stand : (os : List Operand) (met : Bool) → map operand_view os ++ standing met (map expr_view (drop i xs)) ≡ standing false (map expr_view xs)
        → map operand_view os ≡ standing false (map expr_view xs)
    all_stand os met told =
        sym (append-nil (map operand_view os)) ∙ ap (λ es. map operand_view os ++ standing met (map expr_view es)) (sym (drop_all xs i l)) ∙ told
