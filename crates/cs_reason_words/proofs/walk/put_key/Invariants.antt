use Rattle.std.proofs.Common.{◌≡◌, ◌++◌, string_bytes}
use Rattle.std.specs.Str.Iter.{chars_rest}
use Rattle.cs_profile.specs.Places.{escaped, at_key}
use Rattle.cs_reason_words.proofs.walk.put_key.Given as goal

abbrev pub invariant-loop-character : goal.invariant-loop-character
invariant-loop-character l = string_bytes l.pointer ++ escaped (chars_rest l.character-iterator) ≡ at_key (string_bytes l.fn.pointer) l.key
