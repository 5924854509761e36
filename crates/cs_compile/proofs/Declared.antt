-- Definitions under their names: each is the schema of the bodies of its name, which is one of those to be written.
use Rattle.std.proofs.Common.{if◌then◌else◌, ◌≡◌, ℕ, List, Bool, true, false, Option, Some, IfSome, unwrap_or, [], Ordering, Less, Equal, Greater, nat_cmp, bytes_eq, refl, sym, ap, ◌∙◌, subst}
use Rattle.std.specs.Ordering.{match_ordering, is_eq}
use Rattle.std.specs.Cmp.Lexicographic.{slice_cmp}
use Rattle.std.proofs.lemmas.Map.Text.{is_eq-slice_cmp}
use Rattle.std.proofs.lemmas.Slice.Eq.{bytes_eq-Decides}
use Rattle.cs_document.specs.Document.{Document, Members, no_members, member, entries, under, put}
use Rattle.cs_package.specs.Expression.{Expression}
use Rattle.cs_package.specs.Environment.{Environment, bodies, bodies_at, name_at, IsDefinitionName}
use Rattle.cs_guard.specs.Numbered.{name_of}
use Rattle.cs_compile.specs.Translation.{definition_schema}
use Rattle.cs_compile.specs.Definitions.{IsDefinition, AreDefinitionsOf}

module _ (E : Environment) (Asked : List ℕ → Type 0) (k : List ℕ) (d : Document) (is : IsDefinition E Asked k d) where
  put_by : (l : List ℕ) (e : Document) (ms : Members) (o : Ordering) → slice_cmp nat_cmp k l ≡ o → AreDefinitionsOf E Asked (member l e ms) → AreDefinitionsOf E Asked (put k d ms)
      → AreDefinitionsOf E Asked (match_ordering o (member k d (member l e ms)) (member l d ms) (member l e (put k d ms)))
  put_by l e ms Less o h more = (is, h)
  put_by l e ms Equal o h more =
      let same : k ≡ l = (bytes_eq-Decides k l).0 (sym (is_eq-slice_cmp k l) ∙ ap is_eq o) in
      (subst (λ m. IsDefinition E Asked m d) same is, h.1)
  put_by l e ms Greater o h more = (h.0, more)

  -- one definition more
  pub are_definitions-put : (ms : Members) → AreDefinitionsOf E Asked ms → AreDefinitionsOf E Asked (put k d ms)
  are_definitions-put no_members h = (is, tt)
  are_definitions-put (member l e ms) h = put_by l e ms (slice_cmp nat_cmp k l) refl h (are_definitions-put ms h.1)

at_first : (E : Environment) (Asked : List ℕ → Type 0) (n l : List ℕ) (e d : Document) (b : Bool) (o : Option Document) → bytes_eq n l ≡ b → (if b then Some e else o) ≡ Some d → IsDefinition E Asked l e → (o ≡ Some d → IsDefinition E Asked n d) → IsDefinition E Asked n d
at_first E Asked n l e d true o same is h more =
    let key : l ≡ n = sym ((bytes_eq-Decides n l).0 same) in
    let value : e ≡ d = cc in
    subst (λ m. IsDefinition E Asked m d) key (subst (IsDefinition E Asked l) value h)
at_first E Asked n l e d false o apart is h more = more is

-- what is under a name is its definition
pub definition_under : (E : Environment) (Asked : List ℕ → Type 0) (n : List ℕ) (ms : Members) (d : Document) → AreDefinitionsOf E Asked ms → under n (entries ms) ≡ Some d → IsDefinition E Asked n d
definition_under E Asked n no_members d h is = cc
definition_under E Asked n (member l e ms) d h is = at_first E Asked n l e d (bytes_eq n l) (under n (entries ms)) refl is h.0 (definition_under E Asked n ms d h.1)

-- what is written for a number
pub definition_at : (E : Environment) (Asked : List ℕ → Type 0) (n : List ℕ) (i : ℕ) (bs : List Expression) → Asked (name_of E i) → name_at E i ≡ Some n → IsDefinitionName n
    → IfSome (name_at E i) (λ m. bodies E m ≡ bodies_at E i) → bodies_at E i ≡ Some bs → IsDefinition E Asked n (definition_schema bs)
definition_at E Asked n i bs asked at spelled named has = record {
  asked = subst Asked (ap (λ (o : Option (List ℕ)). unwrap_or o []) at) asked;
  spelled = spelled;
  operands = bs;
  declared = subst (λ o. IfSome o (λ m. bodies E m ≡ bodies_at E i)) at named ∙ has;
  schema = refl;
}
