-- Items of one class get the same answers from a judge of numbered rules, where marks tell what each rule asks of scalars.
use Rattle.std.specs.Prelude.{◌≡◌, ℕ, Bool, List, Option, Some, None, length, slice_get, slice_index}
use Rattle.std.proofs.Common.{refl, ◌∙◌, lt_trans, arith}
use Rattle.std.proofs.Math.Logic.{∥∥₁_elim}
use Rattle.std.proofs.lemmas.Option.{slice_get_within}
use mathlib.Core.Bool.{Bool-set}
use Rattle.cs_document.specs.Document.{Document}
use Rattle.cs_document.specs.Opened.{Opened}
use Rattle.cs_flat.specs.Items.{AreItems}
use Rattle.cs_flat.specs.Nodes.{node_at}
use Rattle.cs_table.specs.Classes.{AnswersByClass}
use Rattle.cs_rules.specs.Alike.{Compared, IsToldBy}
use Rattle.cs_rules.specs.Answers.{step_at, answer}
use Rattle.cs_rules.specs.Classed.{HasClassAt, alike, nothing_inside}
use Rattle.cs_rules.specs.Steps.{Step, LooksAtParts, ArePlaced}

-- each of these rules is told by the marks
abbrev pub AreToldBy : {R : Type 0} → (R → Step) → List R → Compared → Type 0
AreToldBy {R} step rules m = (r : ℕ) (rule : R) → slice_get rules r ≡ Some rule → IsToldBy (step rule) m

module _ {R : Type 0} (below : R → ℕ → ℕ → Type 0) (step : R → Step) (parts : (x : R) → LooksAtParts (below x) (step x)) (rules : List R) (children : List ℕ) (ns : List Document) (items : List (Opened ℕ)) (m : Compared) where
  told_by_class : ArePlaced below rules children → AreItems ns items → AreToldBy step rules m → AnswersByClass (length rules) (answer step rules children ns items) (λ i c. HasClassAt m (slice_get items i) c)
  told_by_class placed are told i j c h k f same r l = go (slice_get rules r) (slice_get items i) (slice_get items j) refl refl refl h k
    where
      go : (o : Option R) (x y : Option (Opened ℕ)) → slice_get rules r ≡ o → slice_get items i ≡ x → slice_get items j ≡ y → HasClassAt m x c → HasClassAt m y c
          → step_at step children f i o (node_at ns i) x ≡ step_at step children f j o (node_at ns j) y
      go o None y e a b u v = absurd u
      go o (Some x) None e a b u v = absurd v
      go None (Some x) (Some y) e a b u v = refl
      go (Some rule) (Some x) (Some y) e a b u v =
          let inside : ℕ → ℕ → Bool = λ q p. f q (slice_index children p) in
          parts rule 0 r (length children) (f i) (f j) inside inside (λ q n. same q (lt_trans n (slice_get_within rules r rule e))) (λ q p n o. absurd (omega (arith, n)))
          (node_at ns i) x (placed.parts r rule e) (nothing_inside m x c u)
          ∙ told r rule e (f j) inside inside (node_at ns i) (node_at ns j) x y (node_at ns, are.node i x a) (node_at ns, are.node j y b) (alike m c x y u v)

  pub answers_by_class : ∥ ArePlaced below rules children ∥₁ → ∥ AreItems ns items ∥₁ → ∥ AreToldBy step rules m ∥₁ → AnswersByClass (length rules) (answer step rules children ns items) (λ i c. HasClassAt m (slice_get items i) c)
  answers_by_class placed are told i j c h k f same r l =
      let set = Bool-set (answer step rules children ns items i r f) (answer step rules children ns items j r f) in
      ∥∥₁_elim placed set (λ p. ∥∥₁_elim are set (λ a. ∥∥₁_elim told set (λ t. told_by_class p a t i j c h k f same r l)))
