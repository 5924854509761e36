use Rattle.std.proofs.Common.{◌≡◌, ℕ, List, [], length, sym, ap, ◌∙◌, subst}
use Rattle.std.specs.Option.{option_copied}
use Rattle.cs_embeddings.specs.Alternatives.{Brought}
use Rattle.cs_embeddings.specs.Gathered.{those_of}
use Rattle.cs_embeddings.specs.GatheredTable.{TellsLabel}
use Rattle.cs_embeddings.proofs.gathered.Labels.count.Goals as goal

none_of : (s : List ℕ) (all : List Brought) → those_of s all ≡ [] → 0 ≡ length (those_of s all)
none_of s all h = ap length (sym h)

pub returns-in-Some : goal.returns-in-Some
returns-in-Some c ds all tells =
    let s = c.args.label.now in
    let is = sym c.get.ensures.value ∙ ap option_copied c.in-Some.is in
    c.count.ensures ds s all (subst (λ o. TellsLabel o ds s all []) is (tells s))

pub returns-in-None : goal.returns-in-None
returns-in-None c ds all tells =
    let s = c.args.label.now in
    let is = sym c.get.ensures.value ∙ ap option_copied c.in-None.is in
    none_of s all (subst (λ o. TellsLabel o ds s all []) is (tells s))
