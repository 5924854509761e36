use Rattle.std.proofs.Common.{◌≡◌, ◌++◌, [], ◌∷◌, ◌∙◌, List, ℕ, Vec, Global, map, sym, ap, ap₂, append_assoc, append-nil}
use Rattle.std.specs.BTreeMap.{values}
use Rattle.std.proofs.lemmas.List.{map-append}
use Rattle.std.proofs.lemmas.Simd.{map-map}
use Rattle.cs_graph.specs.Graph.{graph_of}
use Rattle.cs_profile.specs.Loops.{direct_names}
use Rattle.cs_profile.specs.Numbered.{by_text, numbers_of}
use Rattle.cs_profile.specs.SchemaDocument.{schema_view}
use Rattle.cs_profile.specs.declared.schema.Schema.{Schema}
use Rattle.cs_profile.proofs.references.graph_of_definitions.Goals as goal

pub loop-schema-preserved : goal.loop-schema-preserved
loop-schema-preserved c =
    let l = c.loop-schema in
    let done = l.invariant.done in
    let s = c.in-Some.schema.now in
    let left = c.next.new.self in
    let row : Schema → List ℕ = λ s. numbers_of (by_text c.args.numbers.now.entries) (direct_names (schema_view s)) in
    let v = c.in_ok-references_of.field-0 in
    let all : values c.args.definitions.now ≡ done ++ s ∷ left = l.invariant.all ∙ ap (λ ss. done ++ ss) c.in-Some.ensures.steps in record {
      done = done ++ s ∷ [];
      all = all ∙ sym (append_assoc done (s ∷ []) left);
      made = ap graph_of c.in_ok-push.ensures.items ∙ map-append (λ (w : Vec ℕ Global). w.items) l.graph.items (v ∷ [])
          ∙ ap₂ (λ xs ys. xs ++ ys) l.invariant.made (ap (λ r. r ∷ []) c.in_ok-references_of.ensures) ∙ sym (map-append row done (s ∷ []));
    }

pub returns : goal.returns
returns c =
    let done = c.loop-schema.invariant.done in
    let row : Schema → List ℕ = λ s. numbers_of (by_text c.args.numbers.now.entries) (direct_names (schema_view s)) in
    let all : values c.args.definitions.now ≡ done = c.loop-schema.invariant.all ∙ ap (λ ss. done ++ ss) c.in-None.ensures.steps.0 ∙ append-nil done in
    c.loop-schema.invariant.made ∙ ap (map row) (sym all) ∙ map-map row (λ d. d.1) c.args.definitions.now.entries
