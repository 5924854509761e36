-- The law of one meaning. Rules that judge documents (expressions of CUE, schemas) are defined by a step: what a rule says
-- of a document, in terms of what others say. Where the step asks only finitely much of parts that are well founded,
-- there is one judgement that meets it, and only one.
--
-- `step f r x` is what the rule r says of the document x, where f says what all others do. It may ask f for
--   `direct r`, the rules that r asks of x itself: operands, or what a reference names;
--   `inner r`, the rules that r asks of the documents directly inside x: fields, or elements.
use Rattle.std.proofs.Common.{◌≡◌, ℕ, zero, suc, ◌≤◌, Bool, true, false, ◌&&◌, List, sym, ◌∙◌, arith}
use Rattle.std.specs.List.{list_all, AllByRecursion as Each}
use Rattle.std.proofs.lemmas.Bool.{and_parts}
use Rattle.cs_document.specs.Document.{Document}
use Rattle.cs_document.proofs.Each.{each_map, each_of, all_true, From, from_each, from_both}
use Rattle.cs_document.proofs.Children.{children}

module _ (Rule : Type 0) (step : (Rule → Document → Bool) → Rule → Document → Bool) (direct inner : Rule → List Rule) where
  -- the step asks for nothing else
  abbrev pub Local : Type 0
  Local =
      (f g : Rule → Document → Bool) (r : Rule) (x : Document) → Each (λ p. f p x ≡ g p x) (direct r)
      → Each (λ y. Each (λ p. f p y ≡ g p y) (inner r)) (children x)
      → step f r x ≡ step g r x

  -- induction on the document, then on direct parts
  abbrev pub Induction : Type 1
  Induction =
      (P : Rule → Document → Type 0) → ((r : Rule) (x : Document) → Each (λ p. P p x) (direct r) → Each (λ y. (p : Rule) → P p y) (children x) → P r x)
      → (r : Rule) (x : Document) → P r x

  -- f meets the step
  abbrev pub Meets : (Rule → Document → Bool) → Type 0
  Meets f = (r : Rule) (x : Document) → f r x ≡ step f r x

  -- two judgements that meet it are one
  pub only : Local → Induction → (f g : Rule → Document → Bool) → Meets f → Meets g → (r : Rule) (x : Document) → f r x ≡ g r x
  only local ind f g mf mg =
      ind (λ r x. f r x ≡ g r x) (λ r x d c. mf r x ∙ local f g r x d (each_map _ _ (λ y h. each_of _ h (inner r)) (children x) c) ∙ sym (mg r x))

  -- the step, so many times
  abbrev pub steps : ℕ → Rule → Document → Bool
  steps zero r x = false
  steps (suc k) r x = step (steps k) r x

  -- the value that all large numbers of steps give
  pub record Settled (r : Rule) (x : Document) : Type 0 where
    pub value : Bool
    pub from : From (λ k. steps k r x ≡ value)

  -- from a number of steps on, two numbers of steps give the same
  abbrev Steady : Rule → Document → ℕ → Type 0
  Steady p x n = (j : ℕ) → n ≤ j → steps j p x ≡ steps n p x

  settle : Local → (r : Rule) (x : Document) → Each (λ p. Settled p x) (direct r) → Each (λ y. (p : Rule) → Settled p y) (children x) → Settled r x
  settle local r x d c =
      let here = from_each (λ p n. Steady p x n) (direct r) (each_map _ _ (λ p s. steady p x s) (direct r) d) in
      let within = from_each (λ y n. Each (λ p. Steady p y n) (inner r)) (children x)
      (each_map _ _ (λ y s. from_each (λ p n. Steady p y n) (inner r) (each_of _ (λ p. steady p y (s p)) (inner r))) (children x) c) in
      let both = from_both _ _ here within in
      let n = both.start in
      let h = both.holds n (omega arith) in
      record { value = step (steps n) r x; from = record { start = suc n; holds = later n h.0 h.1 } }
    where
      steady : (p : Rule) (y : Document) → Settled p y → From (Steady p y)
      steady p y s = record { start = s.from.start; holds = λ n l j m. s.from.holds j (omega arith) ∙ sym (s.from.holds n l) }

      later : (n : ℕ) → Each (λ p. Steady p x n) (direct r) → Each (λ y. Each (λ p. Steady p y n) (inner r)) (children x) → (k : ℕ) → suc n ≤ k → steps k r x ≡ step (steps n) r x
      later n h w zero l = absurd (omega arith)
      later n h w (suc k) l =
          local (steps k) (steps n) r x
          (each_map _ _ (λ p s. s k (omega arith)) (direct r) h)
          (each_map _ _ (λ y. each_map _ _ (λ p s. s k (omega arith)) (inner r)) (children x) w)

  settled : Local → Induction → (r : Rule) (x : Document) → Settled r x
  settled local ind = ind Settled (settle local)

  -- there is one
  pub some : Local → Induction → (f : Rule → Document → Bool) × Meets f
  some local ind = (λ r x. (settled local ind r x).value, λ r x. meets r x)
    where
      s : (r : Rule) (x : Document) → Settled r x
      s = settled local ind

      meets : (r : Rule) (x : Document) → (s r x).value ≡ step (λ p y. (s p y).value) r x
      meets r x =
          let here = from_each (λ p n. steps n p x ≡ (s p x).value) (direct r) (each_of _ (λ p. (s p x).from) (direct r)) in
          let within = from_each (λ y n. Each (λ p. steps n p y ≡ (s p y).value) (inner r)) (children x)
          (each_of _ (λ y. from_each (λ p n. steps n p y ≡ (s p y).value) (inner r) (each_of _ (λ p. (s p y).from) (inner r))) (children x)) in
          let all = from_both _ _ (from_both _ _ here within) (s r x).from in
          let n = all.start in
          let h = all.holds n (omega arith) in
          sym (all.holds (suc n) (omega arith)).1 ∙ local (steps n) (λ p y. (s p y).value) r x h.0.0 h.0.1

  -- whether so many steps look at every part that counts
  abbrev pub is_known : ℕ → Rule → Document → Bool
  is_known zero r x = false
  is_known (suc k) r x = list_all (λ p. is_known k p x) (direct r) && list_all (λ y. list_all (λ p. is_known k p y) (inner r)) (children x)

  -- then they give the value of each judgement that meets the step
  pub known : Local → (f : Rule → Document → Bool) → Meets f → (k : ℕ) (r : Rule) (x : Document) → is_known k r x ≡ true → f r x ≡ steps k r x
  known local f mf zero r x e = cc
  known local f mf (suc k) r x e =
      let all = and_parts (list_all (λ p. is_known k p x) (direct r)) _ e in
      mf r x
      ∙ local f (steps k) r x (each_map _ _ (λ p h. known local f mf k p x h) (direct r) (all_true _ (direct r) all.0))
      (each_map _ _ (λ y h. each_map _ _ (λ p i. known local f mf k p y i) (inner r) (all_true _ (inner r) h)) (children x) (all_true _ (children x) all.1))
