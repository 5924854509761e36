use Rattle.std.proofs.Common.{rules, Some, FitsSigned, w64, to_z, of_z, sym, ap, ◌∙◌, subst}
use Rattle.std.proofs.lemmas.Int.{to_z-of_z}
use Rattle.std.proofs.lemmas.Fn.{always_returns_same}
use Rattle.cs_flat.specs.Listed.{values}
use Rattle.cs_flat.specs.Nodes.{node_at}
use Rattle.cs_flat.specs.Sorted.{IsInOrder, hashed_cmp, seen}
use Rattle.cs_flat.proofs.Halving.{among_integers, among_others}
use Rattle.cs_flat.proofs.set.DocSet.contains.Goals as goal

pub returns-in-Some : goal.returns-in-Some
returns-in-Some c =
    let x = node_at (values c.args.flat.now) c.args.i in
    let zs = c.self.inside.integers.items in
    let es = c.self.inside.others.items in
    let order = subst (λ vs. IsInOrder vs zs es) c.self.view_is c.self.invariant in
    let fits : FitsSigned w64 c.in-Some.n = search rules in
    let is = ap Some (to_z-of_z w64 c.in-Some.n fits) ∙ sym c.in-Some.is ∙ c.integer.ensures in
    c.is_ok.ensures.value
    ∙ among_integers x (to_z w64 (of_z w64 c.in-Some.n)) c.args.self.now zs c.deref.result.now es c.binary_search.result is order c.deref.ensures.value
    c.binary_search.ensures.bound c.binary_search.ensures.position

pub returns-in-None : goal.returns-in-None
returns-in-None c =
    let x = node_at (values c.args.flat.now) c.args.i in
    let zs = c.self.inside.integers.items in
    let es = c.self.inside.others.items in
    let order = subst (λ vs. IsInOrder vs zs es) c.self.view_is c.self.invariant in
    let halved = c.binary_search_by.ensures.position (λ e. hashed_cmp (seen e) (c.hash-hash.result, x)) (always_returns_same _ _ _ (λ a r g called. search rules)) in
    c.is_ok-in-None.ensures.value
    ∙ among_others x c.hash-hash.result c.hash-hash.ensures (sym c.in-None.is ∙ c.integer.ensures) c.args.self.now zs es c.deref-in-None.result.now c.binary_search_by.result order
    c.deref-in-None.ensures.value c.binary_search_by.ensures.bound halved
