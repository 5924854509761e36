-- The rules that a root reaches mean what the package says.
use Rattle.std.proofs.Common.{◌≡◌, ℕ, zero, suc, Bool, true, false, List, [], ◌∷◌, Some, None, map, codes, refl, sym, ap, ◌∙◌}
use Rattle.std.specs.Prelude.{slice_get, get_or}
use Rattle.std.proofs.lemmas.List.{append_cancel_left}
use Rattle.std.proofs.lemmas.Option.{same_Some}
use Rattle.std.specs.List.{list_all}
use Rattle.cs_document.specs.Document.{Document, IsDocument}
use Rattle.cs_document.specs.Opened.{opened}
use Rattle.cs_package.specs.Environment.{Environment, Names}
use Rattle.cs_instance.specs.Constraint.{is_satisfied}
use Rattle.cs_instance.specs.Instance.{Rule, definition, node, constraint_of, IsInstance}
use Rattle.cs_instance.specs.Numbering.{rule_at, IsNumbering}
use Rattle.cs_instance.specs.Steps.{numbered}
use Rattle.cs_instance.specs.declared.rules.Rule.{Rule as Coded}
use Rattle.cs_instance.proofs.Satisfied.{named}
use Rattle.cs_question.specs.declared.nodes.Side.TheVariants.{Admitting, Refusing}
use Rattle.cs_question.specs.declared.nodes.Literal.{Literal}
use Rattle.cs_question.specs.Asked.{meets}
use Rattle.cs_question.specs.Truth.{IsMetByNoDocument}
use Rattle.cs_question.proofs.Some.{beq_same}
use Rattle.cs_question.proofs.Said.{got_mapped}
use Rattle.cs_question.specs.declared.nodes.Node.{Node}
use Rattle.cs_question.specs.declared.nodes.Nodes.{Nodes}
use Rattle.cs_question.specs.Nodes.{Judgement, IsMeaning, IsSide, Says, asked_of}

got_is : {X : Type 0} (xs : List X) (i : ℕ) (x d : X) → slice_get xs i ≡ Some x → get_or xs i d ≡ x
got_is [] i x d e = cc
got_is (y ∷ xs) zero x d e = same_Some y x e
got_is (y ∷ xs) (suc i) x d e = got_is xs i x d e

-- a name is what its text says
pub same_name : (E : Environment) (t n m : List ℕ) → Names E t n → Names E t m → n ≡ m
same_name E t n m a b = append_cancel_left (codes "#") n m (sym a.text ∙ b.text)

module _ (E : Environment) (all : List Rule) (rules : List Coded) (inner : List ℕ) (numbering : IsNumbering E all (map (numbered inner) rules)) (nodes : List Node) (says : Says (map (numbered inner) rules) (map asked_of nodes)) (I : Rule → Document → Bool) (i : IsInstance E I) where
  pub judged : ℕ → Document → Bool
  judged p x = I (rule_at all p) x

  pub is_root : (n : List ℕ) (number : ℕ) → slice_get all number ≡ Some (definition n) → (x : Document) → judged number x ≡ I (definition n) x
  unfolding judged
  is_root n number root x = ap (λ (s : Rule). I s x) (got_is all number (definition n) _ root)

  side_is : IsSide (map (numbered inner) rules) judged
  unfolding judged
  side_is k c x asked =
      i (rule_at all k) x
      ∙ sym (named (λ (part : Rule). part) node (λ part. I part x) (λ y part. I part y) (constraint_of E (rule_at all k)) (opened x))
      ∙ ap (λ d. is_satisfied (λ part. I part x) (λ y part. I part y) d (opened x)) (numbering.asks k c asked)
      ∙ named (rule_at all) (rule_at all) (λ part. I part x) (λ y part. I part y) c (opened x)

  pub judged_is : (k : ℕ) (nd : Node) (x : Document) → slice_get nodes k ≡ Some nd → judged k x ≡ is_satisfied (λ p. judged p x) (λ y p. judged p y) (asked_of nd) (opened x)
  judged_is k nd x at = says judged side_is k (asked_of nd) x (got_mapped asked_of nodes k nd at)

-- the judgements of both sides together
abbrev pub both_judged : (ℕ → Document → Bool) → (ℕ → Document → Bool) → Judgement
both_judged f g Admitting r x = f r x
both_judged f g Refusing r x = g r x

pub both_meaning : (ns : Nodes) (f g : ℕ → Document → Bool)
    → ((k : ℕ) (nd : Node) (x : Document) → slice_get ns.admitting.items k ≡ Some nd → f k x ≡ is_satisfied (λ p. f p x) (λ y p. f p y) (asked_of nd) (opened x))
    → ((k : ℕ) (nd : Node) (x : Document) → slice_get ns.refusing.items k ≡ Some nd → g k x ≡ is_satisfied (λ p. g p x) (λ y p. g p y) (asked_of nd) (opened x))
    → IsMeaning ns (both_judged f g)
both_meaning ns f g a b Admitting k nd x at = a k nd x at
both_meaning ns f g a b Refusing k nd x at = b k nd x at

-- ---- what it says of roots that no document is all that is asked

module _ (E : Environment) (all : List Rule) (rules : List Coded) (inner : List ℕ) (numbering : IsNumbering E all (map (numbered inner) rules)) (I : Rule → Document → Bool) (i : IsInstance E I) (ns : Nodes) (asked : List Literal) (none : IsMetByNoDocument ns asked) (first : Says (map (numbered inner) rules) (map asked_of ns.admitting.items))
    (n : List ℕ) (number : ℕ) (root : slice_get all number ≡ Some (definition n)) where
  met : (J : Judgement) (x : Document) → ((k : ℕ) (y : Document) → J Admitting k y ≡ judged E all rules inner numbering ns.admitting.items first I i k y) → I (definition n) x ≡ true → meets J x (record { side = Admitting; rule = number; holds = true }) ≡ true
  met J x same h = beq_same (J Admitting number x) true (same number x ∙ is_root E all rules inner numbering ns.admitting.items first I i n number root x ∙ h)

  pub no_instance : ns.refusing.items ≡ [] → ((p : Literal → Bool) → p (record { side = Admitting; rule = number; holds = true }) ≡ true → list_all p asked ≡ true) → (x : Document) → IsDocument x → I (definition n) x ≡ true → ⊥
  no_instance empty covers x d h =
      let f = judged E all rules inner numbering ns.admitting.items first I i in
      let J = both_judged f (λ k y. false) in
      let m = both_meaning ns f (λ k y. false) (judged_is E all rules inner numbering ns.admitting.items first I i) (λ k nd y at. none_got (sym (ap (λ xs. slice_get xs k) empty) ∙ at)) in
      none J m x d (covers (meets J x) (met J x (λ k y. refl) h))
    where
      none_got : {X Y : Type 0} {x : X} {a b : Y} → None ≡ Some x → a ≡ b
      none_got e = cc

  pub no_separating : (F : Environment) (others : List Rule) (rules' : List Coded) (inner' : List ℕ) (numbering' : IsNumbering F others (map (numbered inner') rules')) (m : List ℕ) (number' : ℕ) (root' : slice_get others number' ≡ Some (definition m)) (K : Rule → Document → Bool) (k : IsInstance F K) (second : Says (map (numbered inner') rules') (map asked_of ns.refusing.items))
      → ((p : Literal → Bool) → p (record { side = Admitting; rule = number; holds = true }) ≡ true → p (record { side = Refusing; rule = number'; holds = false }) ≡ true → list_all p asked ≡ true) → (x : Document) → IsDocument x → I (definition n) x ≡ true → K (definition m) x ≡ false → ⊥
  no_separating F others rules' inner' numbering' m number' root' K k second covers x d h g =
      let f = judged E all rules inner numbering ns.admitting.items first I i in
      let f' = judged F others rules' inner' numbering' ns.refusing.items second K k in
      let J = both_judged f f' in
      none J (both_meaning ns f f' (judged_is E all rules inner numbering ns.admitting.items first I i) (judged_is F others rules' inner' numbering' ns.refusing.items second K k)) x d
      (covers (meets J x) (met J x (λ k y. refl) h) (beq_same (f' number' x) false (is_root F others rules' inner' numbering' ns.refusing.items second K k m number' root' x ∙ g)))

-- what a judge told of the root of that text
pub told_root : (E : Environment) (t : List ℕ) (b : Bool) (x : Document) (n : List ℕ) → Names E t n → ((I : Rule → Document → Bool) → IsInstance E I → b ≡ I (definition n) x) → (I : Rule → Document → Bool) (m : List ℕ) → IsInstance E I → Names E t m → I (definition m) x ≡ b
told_root E t b x n named f I m i other = ap (λ k. I (definition k) x) (same_name E t m n other named) ∙ sym (f I i)

-- what isn't true is false
pub is_false : (b : Bool) → (b ≡ true → ⊥) → b ≡ false
is_false true f = absurd (f refl)
is_false false _ = refl
