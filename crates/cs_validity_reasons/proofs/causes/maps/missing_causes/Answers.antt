use Rattle.std.proofs.Common.{◌++◌, map, string_bytes, sym, ap, ◌∙◌}
use Rattle.cs_flat.specs.View.{entry_of}
use Rattle.cs_validity_reasons.specs.CauseLists.{each_from, missing_told}
use Rattle.cs_validity_reasons.proofs.CauseLists.{told_out, mapped_told}
use Rattle.cs_validity_reasons.proofs.causes.maps.missing_causes.Goals as goal

pub returns : goal.returns
returns c =
    let l = c.loop-place in
    let ms = map entry_of c.args.members.now in
    let told = λ (k : _) (s : _). missing_told ms k (string_bytes s) in
    let old = c.args.found.now.items in
    told_out told (old ++ each_from told 0 c.args.required.now) l.found.items c.args.required.now l.place l.place c.loop-place-test.false l.invariant ∙ ap (λ r. old ++ r) (sym (mapped_told (missing_told ms) string_bytes 0 c.args.required.now))
