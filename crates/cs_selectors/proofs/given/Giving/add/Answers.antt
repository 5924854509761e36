use Rattle.std.proofs.Common.{◌≡◌, ◌||◌, cond, [], ◌∷◌, ◌++◌, Some, map, refl, ap, ap₂, subst, ◌∙◌, string_bytes}
use Rattle.std.proofs.lemmas.List.{map-append}
use Rattle.std.proofs.lemmas.List.Elements.{same_from_all_zip}
use Rattle.std.specs.Option.{option_map}
use Rattle.std.specs.Str.{bytes_eq}
use Rattle.cs_names.specs.Taken.{TellsTaken}
use Rattle.cs_selectors.specs.Checks.{given_view, texts_at, tree_at}
use Rattle.cs_selectors.specs.Given as G
use Rattle.cs_selectors.specs.Given.{Path, is_path}
use Rattle.cs_selectors.proofs.Tables.{at_path, gifts_added, name_put}
use Rattle.cs_selectors.proofs.given.Giving.add.Goals as goal

pub returns : goal.returns
returns c all bs gs told new free reached =
    let g : G.Given = record { path = texts_at c.args.path.items; name = string_bytes c.args.name; home = c.args.home; values = map tree_at c.args.values.items } in
    let named = subst (λ n. TellsTaken c.give.new.self all (λ s. G.is_given gs s || bytes_eq n s)) c.in_ok-clone.ensures.cases
    (c.in_ok-give.ensures all (G.is_given gs) told.names) in
    let copied : c.in_ok-clone-2.field-0.items ≡ c.args.path.items = same_from_all_zip _ c.args.path.items c.in_ok-clone-2.field-0.items c.in_ok-clone-2.ensures.cases.0 (λ x y e. e) in
    let placed : (p : Path) → option_map string_bytes (at_path p c.insert.new.self)
    ≡ cond (is_path (texts_at c.args.path.items) p) (Some (string_bytes c.args.name)) (option_map string_bytes (at_path p c.args.self.now.known)) =
    (λ p. name_put c.args.self.now.known c.insert.new.self c.in_ok-clone-2.field-0 c.in_ok-clone-3.field-0 c.in_ok-insert.ensures.updates p
    ∙ ap₂ (λ q n. cond (is_path (texts_at q) p) (Some n) (option_map string_bytes (at_path p c.args.self.now.known))) copied c.in_ok-clone-3.ensures.cases) in
    let grown : map given_view c.push.new.self.items ≡ map given_view c.args.self.now.order.items ++ g ∷ [] =
    ap (map given_view) c.in_ok-push.ensures.items ∙ map-append given_view c.args.self.now.order.items _ in
    gifts_added c.args.self.now _ all bs gs g told new free reached refl named placed grown
