-- Where the definitions that a root reaches are written, the schema of each rule that it reaches validates just the rule's
-- instances.
use Rattle.std.proofs.Common.{◌≡◌, ℕ, List, [], ◌∷◌, ◌++◌, flat_map, unwrap_or, Contains, Bool, Option, Some, None, refl, sym, ◌∙◌, subst}
use Rattle.std.specs.Prelude.{option_map}
use Rattle.std.specs.List.{AllByRecursion as Each}
use Rattle.std.proofs.lemmas.List.Elements.{Contains-append_left, Contains-append_right}
use Rattle.cs_document.specs.Document.{Document, null, boolean, integer, text, list, object, Documents, no_documents, document, Members, no_members, member, elements, entries, IsDocument, AreDocuments, AreMembers}
use Rattle.cs_document.specs.Opened.{opened}
use Rattle.cs_document.proofs.Each.{each_map, each_over, each_front, each_back, each_member}
use Rattle.cs_document.proofs.Children.{children, values, each_within}
use Rattle.cs_package.specs.Expression as cue
use Rattle.cs_package.specs.Expression.{Expression, Expressions, Declarations, operands, declarations}
use Rattle.cs_package.specs.Environment.{Environment, bodies}
use Rattle.cs_guard.specs.Guarded.{IsGuarded}
use Rattle.cs_guard.specs.Reachable.{referred, referred_all, referred_fields, referred_rest, RefersTo, Reaches}
use Rattle.cs_guard.proofs.Walks.{reaches_more}
use Rattle.cs_instance.specs.Instance.{IsInstance, Rule, node, definition, constraint_of, rest_of, all_bodies}
use Rattle.cs_instance.proofs.Induction.{guarded-induction}
use Rattle.cs_instance.proofs.Parts.{here_parts, inner_parts, declared_values, list_parts, rest_parts, satisfied_same}
use Rattle.cs_profile.specs.Keywords.{defined}
use Rattle.cs_profile.specs.Validity.{IsValidity}
use Rattle.cs_compile.specs.Translation.{schema_of, definition_schema}
use Rattle.cs_compile.proofs.Agreement.{rule_schema, rule_step, IsWritten}

each_apply : {X : Type 0} (P Q : X → Type 0) (xs : List X) → Each (λ x. P x → Q x) xs → Each P xs → Each Q xs
each_apply P Q [] f h = tt
each_apply P Q (x ∷ xs) f h = (f.0 h.0, each_apply P Q xs f.1 h.1)

-- what is directly inside a document are documents
elements_documents : (ds : Documents) → AreDocuments ds → Each IsDocument (elements ds)
elements_documents no_documents is = tt
elements_documents (document d ds) is = (is.0, elements_documents ds is.1)

values_documents : (ms : Members) → AreMembers ms → Each IsDocument (values (entries ms))
values_documents no_members is = tt
values_documents (member k d ms) is = (is.1, values_documents ms is.2)

children_documents : (x : Document) → IsDocument x → Each IsDocument (children x)
children_documents null is = tt
children_documents (boolean b) is = tt
children_documents (integer z) is = tt
children_documents (text s) is = tt
children_documents (list ds) is = elements_documents ds is
children_documents (object ms) is = values_documents ms is

module _ (E : Environment) (n : List ℕ) where
  -- each definition that the rule refers to is reached
  abbrev pub IsCovered : Rule → Type 0
  IsCovered (definition m) = Reaches E n m
  IsCovered (node e) = Each (Reaches E n) (referred e)

  operands_covered : (es : Expressions) → Each (Reaches E n) (referred_all es) → Each (λ e. IsCovered (node e)) (operands es)
  operands_covered cue.no_expressions c = tt
  operands_covered (cue.expression e es) c = (each_front (Reaches E n) (referred e) (referred_all es) c, operands_covered es (each_back (Reaches E n) (referred e) (referred_all es) c))

  values_covered : (ds : Declarations) → Each (Reaches E n) (referred_fields ds) → Each (λ e. IsCovered (node e)) (declared_values (declarations ds))
  values_covered cue.no_declarations c = tt
  values_covered (cue.declaration l m e ds) c = (each_front (Reaches E n) (referred e) (referred_fields ds) c, values_covered ds (each_back (Reaches E n) (referred e) (referred_fields ds) c))

  rest_covered : (rest : cue.Rest) → Each (Reaches E n) (referred_rest rest) → Each (λ e. IsCovered (node e)) (rest_parts (rest_of rest))
  rest_covered cue.closed c = tt
  rest_covered cue.any c = tt
  rest_covered (cue.each e) c = (c, tt)

  list_covered : (es : Expressions) (rest : cue.Rest) → Each (Reaches E n) (referred_all es ++ referred_rest rest) → Each (λ e. IsCovered (node e)) (list_parts (operands es) (rest_of rest))
  list_covered cue.no_expressions rest c = rest_covered rest c
  list_covered (cue.expression e es) rest c = (
    each_front (Reaches E n) (referred e) (referred_all es) (each_front (Reaches E n) (referred_all (cue.expression e es)) (referred_rest rest) c),
    list_covered es rest (later (referred e) (referred_all es) (referred_rest rest) c),
  )
    where
      later : (a b c : List (List ℕ)) → Each (Reaches E n) ((a ++ b) ++ c) → Each (Reaches E n) (b ++ c)
      later [] b c h = h
      later (m ∷ a) b c h = later a b c h.1

  bodies_covered : (m : List ℕ) (bs : List Expression) → Reaches E n m → ((k : List ℕ) → Contains (flat_map referred bs) k → RefersTo E m k) → Each (λ e. IsCovered (node e)) bs
  bodies_covered m [] r f = tt
  bodies_covered m (b ∷ bs) r f = (
    each_member (Reaches E n) (referred b) (λ k c. reaches_more E n m k r (f k (Contains-append_left (referred b) (flat_map referred bs) k c))),
    bodies_covered m bs r (λ k c. f k (Contains-append_right (referred b) (flat_map referred bs) k c)),
  )

  -- the parts of a rule are covered where it is
  here_covered : (r : Rule) → IsCovered r → Each IsCovered (here_parts (constraint_of E r))
  here_covered (definition m) c = go (bodies E m) refl
    where
      go : (o : Option (List Expression)) → bodies E m ≡ o → Each IsCovered (here_parts (all_bodies o))
      go None e = tt
      go (Some bs) e = each_over node IsCovered bs (bodies_covered m bs c (λ k h. subst (λ o. Contains (flat_map referred (unwrap_or o [])) k) (sym e) h))
  here_covered (node (cue.reference m)) c = (c.0, tt)
  here_covered (node (cue.conjunction es)) c = each_over node IsCovered (operands es) (operands_covered es c)
  here_covered (node (cue.disjunction es)) c = each_over node IsCovered (operands es) (operands_covered es c)
  here_covered (node (cue.atom a)) c = tt
  here_covered (node (cue.kind k)) c = tt
  here_covered (node (cue.range l g)) c = tt
  here_covered (node (cue.struct ds o)) c = tt
  here_covered (node (cue.list es rest)) c = tt

  inner_covered : (r : Rule) → IsCovered r → Each (λ e. IsCovered (node e)) (inner_parts (constraint_of E r))
  inner_covered (definition m) c = go (bodies E m)
    where
      go : (o : Option (List Expression)) → Each (λ e. IsCovered (node e)) (inner_parts (all_bodies o))
      go None = tt
      go (Some bs) = tt
  inner_covered (node (cue.struct ds o)) c = values_covered ds c
  inner_covered (node (cue.list es rest)) c = list_covered es rest c
  inner_covered (node (cue.reference m)) c = tt
  inner_covered (node (cue.conjunction es)) c = tt
  inner_covered (node (cue.disjunction es)) c = tt
  inner_covered (node (cue.atom a)) c = tt
  inner_covered (node (cue.kind k)) c = tt
  inner_covered (node (cue.range l g)) c = tt

  module _ (guarded : IsGuarded E) (R : Document) (written : (m : List ℕ) → Reaches E n m → defined R m ≡ option_map definition_schema (bodies E m))
      (V : Document → Document → Bool) (g : IsValidity R V) (I : Rule → Document → Bool) (h : IsInstance E I) where
    rule_written : (r : Rule) → IsCovered r → IsWritten E R r
    rule_written (node (cue.reference m)) c = written m c.0
    rule_written _ c = tt

    abbrev Agree : Rule → Document → Type 0
    Agree r x = IsDocument x → IsCovered r → V (rule_schema E r) x ≡ I r x

    agree_step : (r : Rule) (x : Document) → Each (λ p. Agree p x) (here_parts (constraint_of E r)) → Each (λ y. (p : Rule) → Agree p y) (children x) → Agree r x
    agree_step r x here kids = λ is c.
        rule_step E R V g r x is (rule_written r c)
        ∙ satisfied_same (λ p. V (rule_schema E p) x) (λ p. I p x) (λ y e. V (schema_of e) y) (λ y e. I (node e) y) (constraint_of E r) (opened x)
        (each_apply IsCovered (λ p. V (rule_schema E p) x ≡ I p x) (here_parts (constraint_of E r)) (each_map _ _ (λ p agree. agree is) (here_parts (constraint_of E r)) here) (here_covered r c))
        (each_within _ x (each_apply IsDocument _ (children x) (each_map _ _ (λ y f there. each_map _ _ (λ e covered. f (node e) there covered) (inner_parts (constraint_of E r)) (inner_covered r c)) (children x) kids) (children_documents x is)))
        ∙ sym (h r x)

    pub agreement : (r : Rule) (x : Document) → IsDocument x → IsCovered r → V (rule_schema E r) x ≡ I r x
    agreement r x is c = guarded-induction E guarded Agree agree_step r x is c
