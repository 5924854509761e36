use Rattle.std.proofs.Common.{◌≡◌, ℕ, ◌<◌, [], Some, map, length, get_or, refl, sym, ap, ◌∙◌, subst, true≢false}
use Rattle.std.specs.Prelude.{IfSome}
use Rattle.std.specs.Option.{unwrap_or}
use Rattle.std.specs.List.{IsDistinct}
use Rattle.std.specs.Str.{bytes_eq}
use Rattle.cs_package.specs.Environment.{Environment, bodies, bodies_at, declared_names, IsDefinitionName}
use Rattle.cs_package.specs.View.{expression_of}
use Rattle.cs_guard.specs.Numbered.{name_of}
use Rattle.cs_guard.proofs.Numbers.{name_within}
use Rattle.cs_instance.specs.Placing.{PlacesAll, named_all}
use Rattle.cs_instance.proofs.Ordered.{distinct_of, one_place, names_at, placed_more}
use Rattle.cs_instance.proofs.numbering.definitions.place_definition.Goals as goal

pub returns : goal.returns
returns c = λ ns placed back.
    let E = c.args.«package».now in
    let F = c.package-package.result.now in
    let i = c.args.i in
    let names = declared_names E in
    let n = name_of E i in
    let shapes = c.bodies-bodies.result.now in
    let kept : F ≡ E = c.package-package.ensures.kept in
    let found : bodies E n ≡ Some (map (expression_of names) shapes) =
    subst (λ (G : Environment). bodies G (name_of G i) ≡ Some (map (expression_of (declared_names G)) shapes)) kept
    (subst (λ o. IfSome o (λ m. bodies F m ≡ bodies_at F i)) (name_within F i (subst (λ (G : Environment). i < length G) (sym kept) c.requires.inside)) c.bodies-bodies.ensures.named ∙ c.bodies-bodies.ensures.at) in
    let spelled : IsDefinitionName n = subst (λ (G : Environment). IsDefinitionName (name_of G i)) kept (subst IsDefinitionName (sym (ap (λ o. unwrap_or o []) c.bare_name-name.ensures.at)) c.bare_name-name.ensures.spelled) in
    let some : ¬ (n ≡ []) = λ e. true≢false (sym (subst IsDefinitionName e spelled)) in
    let distinct = distinct_of names (subst (λ (G : Environment). IsDistinct bytes_eq (declared_names G)) kept c.count-count.ensures.distinct) in
    let only = λ (j : ℕ) (e : get_or names j [] ≡ n). one_place names i j n distinct some (names_at E i) e in
    let all = subst (λ xs. PlacesAll xs c.args.placement.now.numberer c.place_all.new.numberer (named_all shapes) c.in_ok-parts.parts.items) c.deref.ensures.value c.in_ok-parts.ensures in
    placed_more E ns i c.in_ok-number.number c.args.placement.now _ c.place_all.new.numberer shapes c.in_ok-parts.parts c.requires.inside found only all c.in_ok-number.ensures.number c.in_ok-number.ensures.pending refl placed back
