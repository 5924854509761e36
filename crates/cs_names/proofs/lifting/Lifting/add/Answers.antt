use Rattle.std.proofs.Common.{◌≡◌, ◌||◌, cond, [], ◌∷◌, ◌++◌, Some, map, ap, subst, ◌∙◌, string_bytes}
use Rattle.std.proofs.lemmas.List.{map-append}
use Rattle.std.specs.BTreeMap as tree
use Rattle.std.specs.Option.{option_map}
use Rattle.std.specs.Str.{bytes_eq}
use Rattle.cs_names.specs.Checks.{place_cmp, lifted_view}
use Rattle.cs_names.specs.Lifted as S
use Rattle.cs_names.specs.Lifted.{is_lifted, is_place}
use Rattle.cs_names.specs.Scopes.{Place}
use Rattle.cs_names.specs.Taken.{TellsTaken}
use Rattle.cs_names.proofs.Tables.{lifts_added, place_put}
use Rattle.cs_names.proofs.lifting.Lifting.add.Goals as goal

pub returns : goal.returns
returns c all ts tells new free =
    let t : S.Lifted = record { place = c.args.place; text = c.args.text.now; name = string_bytes c.args.name; origin = c.args.origin } in
    let named = subst (λ n. TellsTaken c.give.new.self all (λ s. is_lifted ts s || bytes_eq n s)) c.in_ok-clone.ensures.cases
    (c.in_ok-give.ensures all (is_lifted ts) tells.names) in
    let placed : (p : Place) → option_map string_bytes (tree.get place_cmp c.insert.new.self p)
    ≡ cond (is_place c.args.place p) (Some (string_bytes c.args.name)) (option_map string_bytes (tree.get place_cmp c.args.self.now.known p)) =
    (λ p. place_put c.args.self.now.known c.insert.new.self c.args.place c.in_ok-clone-2.field-0 c.in_ok-insert.ensures.updates p
    ∙ ap (λ n. cond (is_place c.args.place p) (Some n) (option_map string_bytes (tree.get place_cmp c.args.self.now.known p))) c.in_ok-clone-2.ensures.cases) in
    let grown : map lifted_view c.push.new.self.items ≡ map lifted_view c.args.self.now.order.items ++ t ∷ [] =
    ap (map lifted_view) c.in_ok-push.ensures.items ∙ map-append lifted_view c.args.self.now.order.items _ in
    lifts_added c.args.self.now _ all ts t tells new free named placed c.in_ok-add_unclosed.ensures grown
