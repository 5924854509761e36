use Rattle.std.proofs.Common.{take, ap, ◌∙◌}
use Rattle.std.proofs.lemmas.List.{take_all, take_min}
use Rattle.cs_flat.specs.Sorted.{hash_bytes}
use Rattle.cs_flat.proofs.set.text_hash.Goals as goal

pub returns : goal.returns
returns c =
    let bytes = c.as_bytes-bytes.result.now in
    let whole = take_all c.loop-byte.byte-index (take c.min.result bytes) c.loop-byte-test.false in
    let start = ap (λ n. take n bytes) c.min.ensures ∙ take_min 64 bytes ∙ ap (take 64) c.as_bytes-bytes.ensures.value in
    c.loop-byte.invariant ∙ ap hash_bytes (whole ∙ start)
