use Rattle.std.proofs.Common.{◌++◌, sym, ap, ◌∙◌, slice_index}
use Rattle.cs_flat.specs.View.{entry_of}
use Rattle.cs_table.specs.Judged.{verdicts}
use Rattle.cs_profile.specs.Numbered.{names_in}
use Rattle.cs_validity_reasons.specs.CauseLists.{each_from, other_told}
use Rattle.cs_validity_reasons.proofs.CauseLists.{told_out, mapped_told}
use Rattle.cs_validity_reasons.proofs.causes.maps.additional_causes.Goals as goal

pub returns : goal.returns
returns c =
    let l = c.loop-place in
    let told = other_told (verdicts c.args.known.now.done.now) (names_in c.args.properties.now.entries) (slice_index c.args.known.now.children.now c.args.part) in
    let each = λ (k : _) (m : _). told k (entry_of m) in
    let old = c.args.found.now.items in
    told_out each (old ++ each_from each 0 c.args.members.now) l.found.items c.args.members.now l.place l.place c.loop-place-test.false l.invariant.told ∙ ap (λ r. old ++ r) (sym (mapped_told told entry_of 0 c.args.members.now))
