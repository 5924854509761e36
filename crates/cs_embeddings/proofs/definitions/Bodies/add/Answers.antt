use Rattle.std.proofs.Common.{◌≡◌, ℕ, List, [], ◌∷◌, ◌++◌, None, Some, refl, sym, ap, subst, ◌∙◌}
use Rattle.std.specs.Map.{update}
use Rattle.std.specs.Str.{bytes_eq}
use Rattle.std.proofs.lemmas.Map.Text.{btree_map_updates_str}
use Rattle.cs_grammar.specs.View.{definition_view}
use Rattle.cs_grammar.specs.Bodies.{bodies}
use Rattle.cs_embeddings.specs.Flaws.{is_none}
use Rattle.cs_embeddings.proofs.Bodies.{Named, table_added, named_again, named_first, declared_by, at_name, entry_items}
use Rattle.cs_embeddings.proofs.definitions.Bodies.add.Goals as goal
use Rattle.cs_embeddings.proofs.definitions.Bodies.add.Goals.{in-Some, in-None+in_ok-push-in-None}

pub returns : goal.returns
returns c ds told =
    let d = c.args.definition.now in
    let name = c.as_str-name.result in
    let m = c.args.self.now.by_name in
    let r = c.remove.new.self in
    let v = c.push-2.new.self in
    let n = c.insert.new.self in
    let named = c.as_str-name.ensures.value in
    let without = btree_map_updates_str name.now m r None c.remove.ensures.updates in
    let after = btree_map_updates_str name.now c.match-remove.self.by_name n _ c.in_ok-insert.ensures.updates in
    elim c.match-remove.branch [
      | in-Some w ↦
          let after_it : (t : List ℕ) → at_name t n ≡ update bytes_eq (λ s. at_name s r) name.now (Some v) t = λ t. after t ∙ ap (λ b. update bytes_eq (λ s. at_name s b.by_name) name.now (Some v) t) w.self-is in
          let table = table_added m r n ds d _ c.match-remove.bodies v name.now told.table refl named
          (ap (λ w. w.items) w.bodies-is ∙ ap entry_items (sym w.in-Some.is ∙ c.remove.ensures.value)) c.in_ok-push.ensures.items without after_it in
          record {
            table = table;
            none = ap (λ b. b.none.items) w.self-is ∙ told.none;
            named = subst (λ b. Named b.names.items (ds ++ definition_view d ∷ [])) (sym w.self-is) (named_again c.args.self.now.names.items ds (definition_view d) told.named
                (ap (λ s. is_none (bodies s ds)) (sym named) ∙ declared_by (at_name name.now m) w.in-Some.bodies (bodies name.now ds) (told.table name.now) (sym c.remove.ensures.value ∙ w.in-Some.is)));
          }
      | in-None+in_ok-push-in-None w ↦
          let after_it : (t : List ℕ) → at_name t n ≡ update bytes_eq (λ s. at_name s r) name.now (Some v) t = λ t. after t ∙ ap (λ b. update bytes_eq (λ s. at_name s b.by_name) name.now (Some v) t) w.self-is in
          let table = table_added m r n ds d _ c.match-remove.bodies v name.now told.table refl named
          (ap (λ w. w.items) w.bodies-is ∙ w.new-bodies.ensures.items ∙ ap entry_items (sym w.in-None.is ∙ c.remove.ensures.value)) c.in_ok-push.ensures.items without after_it in
          record {
            table = table;
            none = ap (λ b. b.none.items) w.self-is ∙ told.none;
            named = subst (λ b. Named b.names.items (ds ++ definition_view d ∷ [])) (sym w.self-is) (subst (λ ns. Named ns (ds ++ definition_view d ∷ [])) (sym w.in_ok-push-in-None.ensures.items)
                (named_first c.args.self.now.names.items ds (definition_view d) name told.named (sym named)));
          }
    ]
