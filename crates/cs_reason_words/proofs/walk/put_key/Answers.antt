use Rattle.std.proofs.Common.{rules, ◌≡◌, ◌++◌, ◌∙◌, ap, sym, string_bytes}
use Rattle.std.proofs.Math.Utf8.{encode}
use Rattle.cs_reason_words.proofs.Pointers.{one_more, plain_character}
use Rattle.cs_reason_words.proofs.walk.put_key.Goals as goal

pub loop-character-preserved : goal.loop-character-preserved
loop-character-preserved c =
    let plain = plain_character c.in-Some.character (search rules) (search rules) in
    let pushed : string_bytes c.push.new.self ≡ string_bytes c.loop-character.pointer ++ encode c.in-Some.character = search rules in
    one_more _ _ _ _ _ c.in-Some.character c.loop-character.invariant c.in-Some.ensures.steps.0 (pushed ∙ ap (λ l. string_bytes c.loop-character.pointer ++ l) (sym plain))
