-- What is seen of a document by its outline is so.
use Rattle.std.proofs.Common.{◌≡◌, ℕ, Bool, true, false, true≢false, List, [], ◌∷◌, Option, Some, None, refl, sym, ap, ◌∙◌, subst}
use Rattle.std.specs.Prelude.{slice_get}
use Rattle.std.specs.Bool.{beq}
use Rattle.std.specs.List.{list_all, AllByRecursion as Each}
use Rattle.cs_document.specs.Document.{Document, null, boolean, integer, text, list, object}
use Rattle.cs_document.specs.Opened.{Opened, opened, a_null, a_boolean, an_integer, a_text, a_list, an_object}
use Rattle.cs_document.proofs.Each.{each_map, all_true}
use Rattle.cs_instance.specs.Constraint.{Outline, outline, Constraint, simple, all_of, any_of, object_of, list_of, is_satisfied}
use Rattle.cs_question.specs.declared.nodes.Literal.{Literal}
use Rattle.cs_question.specs.declared.nodes.Node.{Node}
use Rattle.cs_question.specs.declared.nodes.Nodes.{Nodes}
use Rattle.cs_question.specs.Nodes.{Judgement, IsMeaning, asked_of, nodes_on}
use Rattle.cs_question.specs.Asked.{meets, meets_all}
use Rattle.cs_question.specs.Outlines.{verdict_of, agrees, node_verdict, may, may_all, no_map, no_list}
use Rattle.cs_question.proofs.Some.{beq_is, beq_same, all_from}

-- where a verdict is seen, it is the document's
seen : {A : Type 0} (here : ℕ → Bool) (inside : A → ℕ → Bool) (c : Constraint ℕ ℕ) (x : Opened A) (b : Bool) → verdict_of c (outline x) ≡ Some b → is_satisfied here inside c x ≡ b
seen here inside (simple p) x b e = cc
seen here inside (all_of rs) x b e = cc
seen here inside (any_of rs) x b e = cc
seen here inside (object_of ds o) a_null b e = cc
seen here inside (object_of ds o) (a_boolean c) b e = cc
seen here inside (object_of ds o) (an_integer z) b e = cc
seen here inside (object_of ds o) (a_text s) b e = cc
seen here inside (object_of ds o) (a_list ys) b e = cc
seen here inside (object_of ds o) (an_object ms) b e = cc
seen here inside (list_of es r) a_null b e = cc
seen here inside (list_of es r) (a_boolean c) b e = cc
seen here inside (list_of es r) (an_integer z) b e = cc
seen here inside (list_of es r) (a_text s) b e = cc
seen here inside (list_of es r) (a_list ys) b e = cc
seen here inside (list_of es r) (an_object ms) b e = cc

module _ (ns : Nodes) (J : Judgement) (m : IsMeaning ns J) (x : Document) where
  agreed : (l : Literal) → meets J x l ≡ true → (o : Option Node) → slice_get (nodes_on ns l.side) l.rule ≡ o → (v : Option Bool) → node_verdict o (outline (opened x)) ≡ v → agrees l.holds v ≡ true
  agreed l h o at None e = refl
  agreed l h None at (Some b) e = cc
  agreed l h (Some n) at (Some b) e =
      let is : J l.side l.rule x ≡ b = m l.side l.rule n x at ∙ seen (λ p. J l.side p x) (λ y p. J l.side p y) (asked_of n) (opened x) b e in
      beq_same b l.holds (sym is ∙ beq_is (J l.side l.rule x) l.holds h)

  pub may_be : (l : Literal) → meets J x l ≡ true → may ns (outline (opened x)) l ≡ true
  may_be l h = agreed l h (slice_get (nodes_on ns l.side) l.rule) refl (node_verdict (slice_get (nodes_on ns l.side) l.rule) (outline (opened x))) refl

  pub may_be_all : (ls : List Literal) → meets_all J x ls ≡ true → may_all ns (outline (opened x)) ls ≡ true
  may_be_all ls h = all_from (may ns (outline (opened x))) ls (each_map (λ l. meets J x l ≡ true) (λ l. may ns (outline (opened x)) l ≡ true) may_be ls (all_true (meets J x) ls h))

  pub not_met : (ls : List Literal) → may_all ns (outline (opened x)) ls ≡ false → meets_all J x ls ≡ true → ⊥
  not_met ls e h = true≢false (sym (may_be_all ls h) ∙ e)
