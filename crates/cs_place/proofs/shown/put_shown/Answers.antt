use Rattle.std.proofs.lemmas.Str.{IsUtf8-past_char}
use Rattle.cs_place.specs.Shown.{shown_by}
use Rattle.cs_place.proofs.ShownTexts.{one_more, none_left}
use Rattle.cs_place.proofs.shown.put_shown.Goals as goal

pub loop-character-preserved : goal.loop-character-preserved
loop-character-preserved c =
    let is = c.in-Some.ensures.steps.0 in
    let text = c.loop-character.invariant.0 in
    (IsUtf8-past_char _ _ c.in-Some.character text is, one_more shown_by _ _ _ _ _ c.in-Some.character text c.loop-character.invariant.1 is c.in_ok-put_character.ensures)

pub returns : goal.returns
returns c = none_left shown_by _ _ _ c.in-None.ensures.steps.0.0 c.loop-character.invariant.1
