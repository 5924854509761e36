-- Texts that are none of the marks are alike.
use Rattle.std.proofs.Common.{◌≡◌, ℕ, suc, ◌<◌, Bool, true, false, ◌⊎◌, inl, inr, List, [], ◌∷◌, Bor, length, refl, sym, ap, ◌∙◌, subst, arith}
use Rattle.std.specs.List.{list_all, All, AllByRecursion as Each}
use Rattle.std.specs.Str.{bytes_eq}
use Rattle.std.proofs.lemmas.Bool.{cases_Bool}
use Rattle.std.proofs.lemmas.Slice.Eq.{bytes_eq-Decides}
use Rattle.cs_document.specs.Opened.{a_text}
use Rattle.cs_document.proofs.Each.{all_same}
use Rattle.cs_question.specs.declared.nodes.Literal.{Literal}
use Rattle.cs_question.specs.declared.nodes.Nodes.{Nodes}
use Rattle.cs_question.specs.Outlines.{may, may_all, SameTexts, AreMarkedTexts}
use Rattle.cs_question.specs.Spread.{SomeOf}

differs : (u t : List ℕ) → length u < length t → bytes_eq u t ≡ false
differs u t l = elim (cases_Bool (bytes_eq u t)) [
  | inl e ↦ absurd (let same = ap length ((bytes_eq-Decides u t).0 e) in omega (arith, l, same))
  | inr e ↦ e
]

marked_or_like : (marks : List (Bor (List ℕ))) (t other : List ℕ) → Each (λ m. length m.now < length other) marks → SomeOf (λ m. m.now ≡ t) marks ⊎ SameTexts marks t other
marked_or_like [] t other h = inr tt
marked_or_like (m ∷ marks) t other h = elim (cases_Bool (bytes_eq m.now t)) [
  | inl e ↦ inl (inl ((bytes_eq-Decides m.now t).0 e))
  | inr e ↦ elim (marked_or_like marks t other h.1) [
    | inl s ↦ inl (inr s)
    | inr s ↦ inr (e ∙ sym (differs m.now other h.0), s)
  ]
]

module _ (ns : Nodes) (ls : List Literal) (marks : List (Bor (List ℕ))) (marked : AreMarkedTexts ns ls marks) where
  pub no_text : (other : List ℕ) → Each (λ m. length m.now < length other) marks → Each (λ m. may_all ns (a_text m.now) ls ≡ false) marks → may_all ns (a_text other) ls ≡ false → (t : List ℕ) → may_all ns (a_text t) ls ≡ false
  no_text other longer none last t = elim (marked_or_like marks t other longer) [
    | inl s ↦ at marks none s
    | inr s ↦ all_same (may ns (a_text t)) (may ns (a_text other)) ls (marked t other s) ∙ last
  ]
    where
      at : (ms : List (Bor (List ℕ))) → Each (λ m. may_all ns (a_text m.now) ls ≡ false) ms → SomeOf (λ m. m.now ≡ t) ms → may_all ns (a_text t) ls ≡ false
      at [] h s = absurd s
      at (m ∷ ms) h (inl e) = subst (λ u. may_all ns (a_text u) ls ≡ false) e h.0
      at (m ∷ ms) h (inr s) = at ms h.1 s

pub each_of_all : (marks : List (Bor (List ℕ))) (t : List ℕ) → All (λ m. length m.now < length t) marks → Each (λ m. length m.now < length t) marks
each_of_all [] t h = tt
each_of_all (m ∷ marks) t h = (h 0 m (omega arith), each_of_all marks t (λ k d l. h (suc k) d (omega (arith, l))))
