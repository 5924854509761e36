use Rattle.std.specs.Prelude.{IsTrue, slice_get}
use Rattle.std.proofs.Common.{◌≡◌, ℕ, List, Some, map, length, option_map, IfSome, refl, sym, ap, ◌∙◌, subst, arith}
use Rattle.std.specs.List.{IsDistinct, AllByRecursion, list_all}
use Rattle.std.specs.Str.{bytes_eq}
use Rattle.std.proofs.lemmas.Option.{slice_get-map, slice_get_read}
use Rattle.cs_package.specs.Environment.{Environment, declared_names, name_at, bodies, bodies_at}
use Rattle.cs_package.specs.Joined.{IsJoined}
use Rattle.cs_package.specs.View.{expression_of, bodies_of, environment_of, names_of, is_known}
use Rattle.cs_package.specs.declared.shape.Shape.{Shape}
use Rattle.cs_package.proofs.Environments.{length-is, within-both, names-is, bodies_at-is, bodies-named, all-at}
use Rattle.cs_package.proofs.package.Package.bodies.Goals as goal

pub index-requires : goal.index-requires
index-requires c =
    let inside = c.self.inside in
    let within = within-both (names_of inside.names.entries) inside.names.entries inside.bodies.items c.args.i c.self.invariant.long c.self.view_is c.requires in
    omega (arith, within.1, inside.bodies.ok.0)

-- what is read is at the definition's number
there : (c : goal.After-deref) → slice_get c.self.inside.bodies.items c.args.i ≡ Some c.index.result.now
there c =
    let vs = c.self.inside.bodies.items in
    let within = within-both (names_of c.self.inside.names.entries) c.self.inside.names.entries vs c.args.i c.self.invariant.long c.self.view_is c.requires in
    slice_get_read vs (length vs) c.args.i c.index.result.now refl within.1 c.index.ensures

pub returns-clause-at : goal.returns-clause-at
returns-clause-at c =
    let inside = c.self.inside in
    let es = inside.names.entries in
    let vs = inside.bodies.items in
    let ns = names_of es in
    let long = c.self.invariant.long in
    let P : Environment → Type 0 = λ E. bodies_at E c.args.i ≡ Some (map (expression_of (declared_names E)) c.deref.result.now) in
    subst P c.self.view_is
    (bodies_at-is ns es vs c.args.i long ∙ slice_get-map _ vs c.args.i ∙ ap (option_map _) (there c) ∙ ap (λ ss. Some (map (expression_of ns) ss)) (sym c.deref.ensures.value)
    ∙ ap (λ ms. Some (map (expression_of ms) c.deref.result.now)) (sym (names-is ns es vs long)))

pub returns-clause-known : goal.returns-clause-known
returns-clause-known c =
    let inside = c.self.inside in
    let es = inside.names.entries in
    let vs = inside.bodies.items in
    let whole = length-is (names_of es) es vs c.self.invariant.long in
    let K : ℕ → List Shape → Type 0 = λ n ss. IsTrue (list_all (is_known n) ss) in
    let n : length es ≡ length c.args.self.now = omega (arith, c.self.invariant.long, whole, ap length c.self.view_is) in
    let here : K (length es) c.index.result.now.items = all-at (λ v. K (length es) v.items) vs c.args.i c.index.result.now c.self.invariant.known (there c) in
    subst (λ m. K m c.deref.result.now) n (subst (K (length es)) (sym c.deref.ensures.value) here)

pub returns-clause-joined : goal.returns-clause-joined
returns-clause-joined c =
    let inside = c.self.inside in
    let es = inside.names.entries in
    let vs = inside.bodies.items in
    let ns = names_of es in
    let long = c.self.invariant.long in
    let P : List (List ℕ) → List Shape → Type 0 = λ ms ss. AllByRecursion IsJoined (map (expression_of ms) ss) in
    let here : P ns c.index.result.now.items = all-at (AllByRecursion IsJoined) (bodies_of ns vs) c.args.i _ c.self.invariant.joined (slice_get-map _ vs c.args.i ∙ ap (option_map _) (there c)) in
    subst (λ E. P (declared_names E) c.deref.result.now) c.self.view_is
    (subst (λ ms. P ms c.deref.result.now) (sym (names-is ns es vs long)) (subst (P ns) (sym c.deref.ensures.value) here))

pub returns-clause-named : goal.returns-clause-named
returns-clause-named c =
    let inside = c.self.inside in
    let P : Environment → Type 0 = λ E. IfSome (name_at E c.args.i) (λ n. bodies E n ≡ bodies_at E c.args.i) in
    let Q : List (List ℕ) → Type 0 = λ ns. IsDistinct bytes_eq ns in
    subst P c.self.view_is (bodies-named (environment_of (names_of inside.names.entries) inside.names.entries inside.bodies.items) c.args.i (subst Q (sym (names-is (names_of inside.names.entries) inside.names.entries inside.bodies.items c.self.invariant.long)) c.self.invariant.table.distinct))
