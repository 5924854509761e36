use Rattle.std.proofs.Common.{length, is_some, refl, sym, ap, ◌∙◌, arith}
use Rattle.std.proofs.lemmas.Option.{slice_get_read}
use Rattle.cs_package.specs.View.{names_of}
use Rattle.cs_package.proofs.Environments.{place}
use Rattle.cs_resolve.proofs.Gathered.{bodies-added, bodies-kept, other_names}
use Rattle.cs_resolve.proofs.resolving.add_body.Goals as goal

pub returns-in_ok-push-clause-added : goal.returns-in_ok-push-clause-added
returns-in_ok-push-clause-added c rs ds o t before is =
    let table = c.args.names.now.entries in
    let ns = names_of table in
    let name = c.args.name.now in
    let vs = c.args.bodies.now.items in
    let i = c.in-Some.i in
    let old = c.index_mut.result.now in
    let there = slice_get_read vs (length vs) i old refl (omega (arith, c.in-Some.ensures.within, c.requires.long)) c.index_mut.ensures.value in
    let at = place ns name table i (sym c.in-Some.ensures.index) in
    bodies-added rs ns name o t c.args.shape ds vs i old c.push.new.self c.requires.table.distinct at there c.in_ok-push.ensures.items before is

pub returns-in_default-clause-added : goal.returns-in_default-clause-added
returns-in_default-clause-added c rs ds o t before is =
    let table = c.args.names.now.entries in
    let none = sym c.get_index_of.ensures.found ∙ ap is_some c.in_default.is in
    bodies-kept rs (names_of table) c.args.name.now o t ds c.args.bodies.now.items (other_names c.args.name.now table none) before
