use Rattle.std.proofs.Common.{◌≡◌, ◌++◌, string_bytes, codes}
use Rattle.std.specs.Str.{IsUtf8}
use Rattle.std.specs.Str.Iter.{chars_rest}
use Rattle.cs_place.specs.Shown.{spelled_by, quoted_by}
use Rattle.cs_place.proofs.shown.put_quoted.Given as goal

abbrev pub invariant-loop-character : goal.invariant-loop-character
invariant-loop-character l =
    IsUtf8 (chars_rest l.character-iterator)
    × (string_bytes l.text ++ spelled_by quoted_by (chars_rest l.character-iterator) ≡ (string_bytes l.fn.text ++ codes "\"") ++ spelled_by quoted_by l.inside)
