-- What simple expressions compare integers and texts with.
use Rattle.std.proofs.Common.{◌≡◌, ℕ, ℤ, Bool, true, false, not, List, [], Bor, Some, refl, sym, ap, ◌∙◌, subst}
use Rattle.std.specs.Prelude.{slice_get}
use Rattle.std.specs.Str.{bytes_eq}
use Rattle.cs_document.specs.Opened.{an_integer, a_text}
use Rattle.cs_package.specs.Expression.{Expression, atom, kind, range, integer, text, bound, not_integer, not_text, int, number, string, bool}
use Rattle.cs_package.specs.Inside.{ComparedWith, compared_with, with_nothing, with_text, with_integer, with_range}
use Rattle.cs_package.specs.View.{expression_of}
use Rattle.cs_package.specs.declared.shape.Shape.{Shape}
use Rattle.cs_rules.specs.Alike.{Compared}
use Rattle.cs_instance.specs.Constraint.{Outline}
use Rattle.cs_instance.specs.Steps.{test_of}
use Rattle.cs_question.specs.declared.nodes.Literal.{Literal}
use Rattle.cs_question.specs.declared.nodes.Node.TheVariants as node
use Rattle.cs_question.specs.declared.nodes.Nodes.{Nodes}
use Rattle.cs_question.specs.Nodes.{nodes_on}
use Rattle.cs_question.specs.Outlines.{agrees, node_verdict, may}

-- marks of integers alone
abbrev pub integers_alone : List ℤ → Compared
integers_alone ks = record { texts = []; integers = ks; lengths = [] }

-- whether integers are compared, and texts
abbrev pub compares_integers : ComparedWith → Bool
compares_integers (with_integer n) = true
compares_integers (with_range least greatest) = true
compares_integers _ = false

abbrev pub compares_texts : ComparedWith → Bool
compares_texts (with_text s) = true
compares_texts _ = false

-- all are alike where none is compared
pub integers_alike : (e : Expression) → compares_integers (compared_with e) ≡ false → (z w : ℤ) → test_of e (an_integer z) ≡ test_of e (an_integer w)
integers_alike (atom (integer n)) h z w = cc
integers_alike (atom (bound r n)) h z w = cc
integers_alike (atom (not_integer n)) h z w = cc
integers_alike (range least greatest) h z w = cc
integers_alike (kind int) h z w = refl
integers_alike (kind number) h z w = refl
integers_alike (kind string) h z w = refl
integers_alike (kind bool) h z w = refl
integers_alike e h z w = refl

pub texts_alike : (e : Expression) → compares_texts (compared_with e) ≡ false → (s t : List ℕ) → test_of e (a_text s) ≡ test_of e (a_text t)
texts_alike (atom (text u)) h s t = cc
texts_alike (atom (not_text u)) h s t = cc
texts_alike (kind int) h s t = refl
texts_alike (kind number) h s t = refl
texts_alike (kind string) h s t = refl
texts_alike (kind bool) h s t = refl
texts_alike e h s t = refl

-- and those that are like the one that is compared
pub text_told : (e : Expression) (u : Bor (List ℕ)) → with_text u.now ≡ compared_with e → (s t : List ℕ) → bytes_eq u.now s ≡ bytes_eq u.now t → test_of e (a_text s) ≡ test_of e (a_text t)
text_told (atom (text v)) u h s t q = let is : u.now ≡ v = cc in subst (λ v. bytes_eq v s ≡ bytes_eq v t) is q
text_told (atom (not_text v)) u h s t q = let is : u.now ≡ v = cc in ap not (subst (λ v. bytes_eq v s ≡ bytes_eq v t) is q)
text_told _ u h s t q = cc

-- a rule of an expression that looks at no part tells outlines apart where the expression does
pub simple_marked : (ns : Nodes) (l : Literal) (s : Bor Shape) → slice_get (nodes_on ns l.side) l.rule ≡ Some (node.Simple s) → (o p : Outline) → test_of (expression_of [] s.now) o ≡ test_of (expression_of [] s.now) p → may ns o l ≡ may ns p l
simple_marked ns l s at o p same =
    ap (λ n. agrees l.holds (node_verdict n o)) at
    ∙ ap (λ b. agrees l.holds (Some b)) same
    ∙ sym (ap (λ n. agrees l.holds (node_verdict n p)) at)
