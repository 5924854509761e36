use Rattle.std.proofs.Common.{None, [], refl, sym, subst}
use Rattle.std.proofs.lemmas.Map.Text.{btree_map_updates_str}
use Rattle.cs_embeddings.specs.Gathered.{those_of}
use Rattle.cs_embeddings.specs.GatheredTable.{declared_view, TellsLabel}
use Rattle.cs_embeddings.proofs.Gathering.{label_added}
use Rattle.cs_embeddings.proofs.gathered.Labels.add.Goals as goal

pub returns : goal.returns
returns c ds bs told =
    let name = c.args.declared.label.now in
    let without = btree_map_updates_str name c.args.self.now.by_text c.remove-known.new.self None c.remove-known.ensures.updates in
    let after = btree_map_updates_str name c.remove-known.new.self c.insert.new.self _ c.in_ok-insert.ensures.updates in
    let known = subst (λ o. TellsLabel o ds name bs []) (sym c.remove-known.ensures.value) (told name) in
    let more = c.in_ok-add.ensures.seen name (those_of name bs) (c.together-together.ensures ds bs known) in
    label_added c.args.self.now (record { by_text = c.insert.new.self }) c.remove-known.new.self ds bs (declared_view c.args.declared) name c.add.new.self
    refl c.requires told without after more
