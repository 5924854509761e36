use Rattle.std.proofs.Common.{◌≡◌, ◌++◌, string_bytes}
use Rattle.std.specs.Str.{IsUtf8}
use Rattle.std.specs.Str.Iter.{chars_rest}
use Rattle.cs_place.specs.Shown.{shown}
use Rattle.cs_place.proofs.shown.put_shown.Given as goal

abbrev pub invariant-loop-character : goal.invariant-loop-character
invariant-loop-character l =
    IsUtf8 (chars_rest l.character-iterator) × (string_bytes l.text ++ shown (chars_rest l.character-iterator) ≡ string_bytes l.fn.text ++ shown l.inside)
