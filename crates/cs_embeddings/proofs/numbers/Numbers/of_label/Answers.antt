use Rattle.std.proofs.Common.{◌≡◌, suc, None, refl, sym, ◌∙◌, arith}
use Rattle.std.proofs.lemmas.Map.Text.{btree_map_updates_str}
use Rattle.cs_embeddings.specs.NarrowedTable.{number_of}
use Rattle.cs_embeddings.specs.declared.numbers.Numbers.{Numbers}
use Rattle.cs_embeddings.proofs.LabelSteps.{put_number, next_has, next_grows, next_numbers}
use Rattle.cs_embeddings.proofs.numbers.Numbers.of_label.Goals as goal

pub returns : goal.returns
returns c are =
    let m = c.args.self.now in
    let t = c.args.label.now in
    let n : Numbers = record { below = m.below; own = c.insert.new.self; count = c.in-Some-checked_add.count } in
    let count : n.count ≡ suc m.count = omega (arith, c.in-Some-checked_add.ensures) in
    let none : number_of m t ≡ None = sym c.get.ensures ∙ c.in_default.is in
    let put = put_number m n t m.count none refl (btree_map_updates_str t m.own n.own _ c.in_ok-insert.ensures.updates) in
    (next_numbers m n t none refl count put are, next_grows m n t none refl count put, next_has m n t none refl count put)
