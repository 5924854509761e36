use Rattle.std.proofs.Common.{◌≡◌, ℕ, ◌+◌, ◌<◌, List, [], ◌∷◌, ◌++◌, map, length, take, get_or, string_bytes, sym, ap, ap₂, ◌∙◌, subst}
use Rattle.std.specs.List.{AllByRecursion}
use Rattle.std.proofs.lemmas.List.{append_assoc, map-append}
use Rattle.cs_grammar.specs.Tree.{defined_name}
use Rattle.cs_grammar.specs.View.{definition_view}
use Rattle.cs_grammar.specs.declared.ast.Definition.{Definition}
use Rattle.cs_resolve.specs.Declarations.{distinct}
use Rattle.cs_package.specs.Environment.{IsDefinitionName}
use Rattle.cs_package.specs.View.{names_of}
use Rattle.cs_resolve.specs.WellFormed.{IsWellFormedDefinition}
use Rattle.cs_package.proofs.Environments.{table-insert}
use Rattle.cs_resolve.proofs.Order.{put, put_there, names_insert, distinct_push}
use Rattle.cs_resolve.proofs.Trees.{map_more, mapped_at}
use Rattle.cs_resolve.proofs.resolving.add_names.Goals as goal

-- one name more is behind those of so many definitions
pushed : (ns : List (List ℕ)) (xs : List Definition) (i : ℕ) (d : Definition) → i < length xs → d ≡ get_or xs i d
    → put (string_bytes d.name) (distinct (ns ++ map defined_name (map definition_view (take i xs)))) ≡ distinct (ns ++ map defined_name (map definition_view (take (i + 1) xs)))
pushed ns xs i d l is =
    let before = map defined_name (map definition_view (take i xs)) in
    sym (distinct_push (ns ++ before) (string_bytes d.name))
    ∙ ap distinct (append_assoc ns before (string_bytes d.name ∷ []) ∙ ap (λ r. ns ++ r) (sym (ap (map defined_name) (map_more definition_view xs i d l is) ∙ map-append defined_name (map definition_view (take i xs)) (definition_view d ∷ []))))

-- a name that is there stays where it is
pub loop-definition-preserved-then-contains_key : goal.loop-definition-preserved-then-contains_key
loop-definition-preserved-then-contains_key c =
    let l = c.loop-definition in
    let d = c.definition-item.result in
    let there = put_there c.as_str.result.now l.names.entries (sym c.contains_key.ensures ∙ c.if-contains_key.true) in
    record {
      table = l.invariant.table;
      added = λ ns is.
          let same = l.invariant.added ns is in
          sym there ∙ ap₂ put c.as_str.ensures.value same ∙ pushed ns c.deref-definition-items.result.now l.definition-index d c.loop-definition-test.true c.definition-item.is;
    }

pub loop-definition-preserved : goal.loop-definition-preserved
loop-definition-preserved c =
    let l = c.loop-definition in
    let i = l.definition-index in
    let items = c.deref-definition-items.result.now in
    let d = c.definition-item.result in
    let name = c.in_ok-name.name in
    let written = c.in_ok-written.written in
    let old = l.names.entries in
    let new = c.insert.new.self.entries in
    let same : string_bytes name ≡ string_bytes d.name = c.in_ok-name.ensures.cases in
    let all = subst (λ es. AllByRecursion IsWellFormedDefinition (map definition_view es)) (sym c.deref-definition-items.ensures.value) c.requires.named in
    let formed = mapped_at IsWellFormedDefinition definition_view items i d c.loop-definition-test.true c.definition-item.is all in
    record {
      table = table-insert old new name written l.invariant.table c.in_ok-written.ensures (subst IsDefinitionName (sym same) formed.0) c.in_ok-insert.ensures.entries c.in_ok-insert.ensures.unique;
      added = λ ns is.
          ap names_of c.in_ok-insert.ensures.entries
          ∙ names_insert name written old
          ∙ ap₂ put same (l.invariant.added ns is)
          ∙ pushed ns items i d c.loop-definition-test.true c.definition-item.is;
    }
