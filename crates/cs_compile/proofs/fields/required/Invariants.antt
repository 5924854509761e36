use Rattle.std.proofs.Common.{◌≡◌, ℕ, List, map, filter, take, Bor, not, ◌&&◌, string_bytes, bytes_eq}
use Rattle.std.specs.List.{list_any}
use Rattle.cs_compile.specs.Grouped.{declarations_at, has_label, is_asked}
use Rattle.cs_compile.specs.Translation.{firsts, labelled, labels_of}
use Rattle.cs_compile.proofs.fields.required.Given as goal

abbrev pub invariant-loop-part : goal.invariant-loop-part
invariant-loop-part l = record {
  listed : (ns : List (List ℕ)) → map string_bytes l.labels.items ≡ filter (is_asked (labelled (declarations_at ns l.parts))) (firsts bytes_eq (labels_of (labelled (declarations_at ns (take l.part-index l.parts)))));
  left : (ns : List (List ℕ)) (k : Bor (List ℕ)) → has_label l.asked k ≡ (is_asked (labelled (declarations_at ns l.parts)) k.now && not (list_any (bytes_eq k.now) (labels_of (labelled (declarations_at ns (take l.part-index l.parts))))));
}
