use Rattle.std.proofs.Common.{sym, ◌∙◌, subst, arith}
use Rattle.cs_graph.proofs.Paths.{height_falls}
use Rattle.cs_profile.specs.Loops.{RefersDirectly, IsRank}
use Rattle.cs_profile.specs.Numbered.{AreRanks}
use Rattle.cs_profile.specs.SchemaDocument.{document_of}
use Rattle.cs_profile.proofs.Ranked.{number_inside, rank_there}
use Rattle.cs_profile.proofs.schema_doc.SchemaDoc.rank.Goals as goal

pub index-requires : goal.index-requires
index-requires c =
    let are = subst (λ v. AreRanks v c.self.inside.numbers.entries c.self.inside.ranks.items) c.self.view_is c.self.invariant in
    let inside = number_inside c.args.self.now c.args.name.now c.self.inside.numbers.entries c.self.inside.ranks.items are c.in_ok-number.number (sym c.in_ok-number.was ∙ c.number.ensures.place) in
    omega (arith, inside, c.self.inside.ranks.ok.0)

pub returns-clause-height : goal.returns-clause-height
returns-clause-height c =
    let are = subst (λ v. AreRanks v c.self.inside.numbers.entries c.self.inside.ranks.items) c.self.view_is c.self.invariant in
    let high = rank_there c.args.self.now c.args.name.now c.self.inside.numbers.entries c.self.inside.ranks.items are c.in_ok-number.number (sym c.in_ok-number.was ∙ c.number.ensures.place) in
    subst (IsRank (document_of c.args.self.now) c.args.name.now) (sym c.index.ensures) (high c.index.result.now)

pub returns-clause-falls : goal.returns-clause-falls
returns-clause-falls c = λ m q refers low. height_falls (RefersDirectly (document_of c.args.self.now)) c.args.name.now m c.index.result.now q (returns-clause-height c) refers low
