use Rattle.std.proofs.Common.{◌≡◌, ◌++◌, [], ◌∷◌, ℕ, ◌<◌, List, String, Global, map, is_some, string_bytes, string_cmp, sym, ap, ◌∙◌, subst, append_assoc}
use Rattle.std.specs.Prelude.{IsSome}
use Rattle.std.specs.List.{AllByRecursion as Each}
use Rattle.std.specs.List.Sorted.{IsStrictlySortedBy}
use Rattle.std.specs.Map.{keys_of}
use Rattle.std.proofs.lemmas.List.{map-append}
use Rattle.cs_document.specs.Document.{Document, Entry}
use Rattle.cs_profile.specs.Loops.{RefersDirectly, IsRank}
use Rattle.cs_profile.specs.SchemaDocument.{schema_view, document_of, definition_of}
use Rattle.cs_profile.specs.declared.schema.Schema.{Schema}
use Rattle.cs_profile.proofs.Definitions.{defined_definition}
use Rattle.cs_validate.specs.Ranked.{definition, IsRanked}
use Rattle.cs_validate.specs.declared.numbering.definitions.Ranked.{Ranked}
use Rattle.cs_validate.proofs.Ordered.{found_there}
use Rattle.cs_rules.proofs.Lists.{each_push}
use Rattle.cs_validate.proofs.numbering.definitions.with_ranks.Goals as goal

pub loop-name-preserved-in-Continue-branch-2 : goal.loop-name-preserved-in-Continue-branch-2
loop-name-preserved-in-Continue-branch-2 c =
    let l = c.loop-name in
    let v = c.args.document.now in
    let k = c.in-Some.name.now in
    let x = c.in-Some.schema.now in
    let done = l.invariant.done in
    let left = c.next.new.self in
    let all : v.definitions ≡ done ++ (k, x) ∷ left = l.invariant.all ∙ ap (λ es. done ++ es) c.in-Some.ensures.steps in
    let sorted = subst (λ es. IsStrictlySortedBy string_cmp (keys_of es)) c.definitions-definitions.ensures c.len.ensures.ordered in
    let found = found_there v c.whole_law.ensures.whole done left k x all sorted in
    let n = c.as_str.ensures.value in
    let d : Ranked = record { rank = c.in-Some-rank.rank; name = c.in-Some.name; schema = c.in-Some.schema } in
    let put = c.in_ok-push.ensures.items in
    let shown : String Global × Schema → Entry Document = λ m. (string_bytes m.0, schema_view m.1) in
    let ranked : IsRanked (document_of v) d = record {
      found = defined_definition v c.whole_law.ensures.whole (string_bytes k) ∙ found;
      height = subst (λ m. IsRank (document_of v) m d.rank) n c.in-Some-rank.ensures.height;
      falls = subst (λ p. (m : List ℕ) (q : ℕ) → RefersDirectly (document_of v) p m → IsRank (document_of v) m q → q < d.rank) n c.in-Some-rank.ensures.falls;
    } in
    record {
      done = done ++ (k, x) ∷ [];
      all = all ∙ sym (append_assoc done ((k, x) ∷ []) left);
      same = ap (map definition) put ∙ map-append definition l.ranked.items (d ∷ []) ∙ ap (λ es. es ++ definition d ∷ []) l.invariant.same ∙ sym (map-append shown done ((k, x) ∷ []));
      ranks = subst (Each (IsRanked (document_of v))) (sym put) (each_push (IsRanked (document_of v)) l.ranked.items d l.invariant.ranks ranked);
    }

pub loop-name-preserved : goal.loop-name-preserved
loop-name-preserved c =
    let l = c.loop-name in
    let v = c.args.document.now in
    let k = c.in-Some.name.now in
    let x = c.in-Some.schema.now in
    let done = l.invariant.done in
    let left = c.next.new.self in
    let all : v.definitions ≡ done ++ (k, x) ∷ left = l.invariant.all ∙ ap (λ es. done ++ es) c.in-Some.ensures.steps in
    let sorted = subst (λ es. IsStrictlySortedBy string_cmp (keys_of es)) c.definitions-definitions.ensures c.len.ensures.ordered in
    let found = found_there v c.whole_law.ensures.whole done left k x all sorted in
    let there : IsSome (definition_of v (string_bytes k)) = ap is_some found in
    let ranked : IsSome c.rank.result = c.rank.ensures.declared.1 (subst (λ n. IsSome (definition_of v n)) (sym c.as_str.ensures.value) there) in
    let none = subst IsSome c.in_default.is ranked in absurd (let e = none in cc)
