-- What a rule with parts of the same document says of them.
use Rattle.std.proofs.Common.{◌≡◌, ℕ, Bool, true, false, ◌⊎◌, inl, inr, List, [], ◌∷◌, Some, Vec, Global, map, refl, sym, ap, ◌∙◌, subst}
use Rattle.std.specs.Prelude.{slice_get}
use Rattle.std.specs.Bool.{beq}
use Rattle.std.specs.List.{list_all, list_any, AllByRecursion as Each}
use Rattle.cs_document.specs.Document.{Document, Documents, Members, list, object, elements, entries}
use Rattle.cs_instance.specs.Constraint.{fields_hold, elements_hold}
use Rattle.cs_instance.specs.Steps.{field_of}
use Rattle.cs_instance.specs.declared.fields.Fields.{Fields}
use Rattle.cs_document.proofs.Each.{each_map, all_true}
use Rattle.cs_question.specs.declared.nodes.Literal.{Literal}
use Rattle.cs_question.specs.declared.nodes.Node.{Node}
use Rattle.cs_question.specs.declared.nodes.Node.TheVariants as node
use Rattle.cs_question.specs.declared.nodes.Nodes.{Nodes}
use Rattle.cs_question.specs.declared.nodes.NodeEnd.{NodeEnd}
use Rattle.cs_question.specs.Nodes.{Judgement, IsMeaning, nodes_on, end_of}
use Rattle.cs_question.specs.Asked.{meets}
use Rattle.cs_question.proofs.Some.{beq_is, beq_same, all_from, some_false, some_true, any_from, none_true, some_map}

module _ (ns : Nodes) (J : Judgement) (m : IsMeaning ns J) (l : Literal) (x : Document) (met : meets J x l ≡ true) (v : Vec ℕ Global) where
  abbrev part : ℕ → Literal
  part p = record l { rule = p }

  abbrev here : ℕ → Bool
  here p = J l.side p x

  same : (b : Bool) (p : ℕ) → l.holds ≡ b → here p ≡ b → meets J x (part p) ≡ true
  same b p e h = beq_same (here p) l.holds (h ∙ sym e)

  each_met : (b : Bool) (ps : List ℕ) → l.holds ≡ b → Each (λ p. here p ≡ b) ps → list_all (λ p. meets J x (part p)) ps ≡ true
  each_met b ps e h = all_from (λ p. meets J x (part p)) ps (each_map (λ p. here p ≡ b) (λ p. meets J x (part p) ≡ true) (λ p. same b p e) ps h)

  pub all_met : slice_get (nodes_on ns l.side) l.rule ≡ Some (node.All v) → l.holds ≡ true → list_all (λ p. meets J x (part p)) v.items ≡ true
  all_met at e =
      let all : list_all here v.items ≡ true = sym (m l.side l.rule (node.All v) x at) ∙ beq_is (J l.side l.rule x) l.holds met ∙ e in
      each_met true v.items e (all_true here v.items all)

  pub any_unmet : slice_get (nodes_on ns l.side) l.rule ≡ Some (node.Any v) → l.holds ≡ false → list_all (λ p. meets J x (part p)) v.items ≡ true
  any_unmet at e =
      let none : list_any here v.items ≡ false = sym (m l.side l.rule (node.Any v) x at) ∙ beq_is (J l.side l.rule x) l.holds met ∙ e in
      each_met false v.items e (none_true here v.items none)

  pub all_unmet : slice_get (nodes_on ns l.side) l.rule ≡ Some (node.All v) → l.holds ≡ false → list_any (λ p. meets J x (part p)) v.items ≡ true
  all_unmet at e =
      let not_all : list_all here v.items ≡ false = sym (m l.side l.rule (node.All v) x at) ∙ beq_is (J l.side l.rule x) l.holds met ∙ e in
      any_from (λ p. meets J x (part p)) v.items (some_map (λ p. here p ≡ false) (λ p. meets J x (part p) ≡ true) (λ p. same false p e) v.items (some_false here v.items not_all))

  pub any_met : slice_get (nodes_on ns l.side) l.rule ≡ Some (node.Any v) → l.holds ≡ true → list_any (λ p. meets J x (part p)) v.items ≡ true
  any_met at e =
      let any : list_any here v.items ≡ true = sym (m l.side l.rule (node.Any v) x at) ∙ beq_is (J l.side l.rule x) l.holds met ∙ e in
      any_from (λ p. meets J x (part p)) v.items (some_map (λ p. here p ≡ true) (λ p. meets J x (part p) ≡ true) (λ p. same true p e) v.items (some_true here v.items any))

-- what literals say of maps and of lists
module _ (ns : Nodes) (J : Judgement) (m : IsMeaning ns J) (l : Literal) (b : Bool) (is : l.holds ≡ b) where
  pub struct_is : (fs : Fields) (o : Bool) (ms : Members) → slice_get (nodes_on ns l.side) l.rule ≡ Some (node.Struct fs o) → meets J (object ms) l ≡ true → fields_hold (λ y p. J l.side p y) (map field_of fs.all.items) o (entries ms) ≡ b
  struct_is fs o ms at met = sym (m l.side l.rule (node.Struct fs o) (object ms) at) ∙ beq_is (J l.side l.rule (object ms)) l.holds met ∙ is

  pub list_is : (v : Vec ℕ Global) (end : NodeEnd) (ds : Documents) → slice_get (nodes_on ns l.side) l.rule ≡ Some (node.List v end) → meets J (list ds) l ≡ true → elements_hold (λ y p. J l.side p y) v.items (end_of end) (elements ds) ≡ b
  list_is v end ds at met = sym (m l.side l.rule (node.List v end) (list ds) at) ∙ beq_is (J l.side l.rule (list ds)) l.holds met ∙ is
