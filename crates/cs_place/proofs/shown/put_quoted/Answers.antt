use Rattle.std.proofs.Common.{string_bytes}
use Rattle.std.proofs.lemmas.Str.{IsUtf8-past_char}
use Rattle.cs_place.specs.Shown.{spelled_by, quoted_by}
use Rattle.cs_place.proofs.ShownTexts.{one_more, none_left, quote_put}
use Rattle.cs_place.proofs.shown.put_quoted.Goals as goal

pub loop-character-preserved : goal.loop-character-preserved
loop-character-preserved c =
    let is = c.in-Some.ensures.steps.0 in
    let text = c.loop-character.invariant.0 in
    (IsUtf8-past_char _ _ c.in-Some.character text is, one_more quoted_by _ _ _ _ _ c.in-Some.character text c.loop-character.invariant.1 is c.in_ok-put_in_string.ensures)

pub returns : goal.returns
returns c = quote_put c.push_str-2.result (string_bytes c.args.text.now) (spelled_by quoted_by c.args.inside.now) _ _ (none_left quoted_by _ _ _ c.in-None.ensures.steps.0.0 c.loop-character.invariant.1) c.push_str-2.ensures.bytes
