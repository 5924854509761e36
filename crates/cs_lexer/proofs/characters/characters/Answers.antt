use Rattle.std.proofs.Common.{◌<◌, ◌≤◌, ◌++◌, [], ◌∷◌, string_bytes, sym, ap, ◌∙◌, arith}
use Rattle.std.proofs.lemmas.Grind.{common_steps}
use Rattle.std.specs.Str.Iter.{chars_rest}
use Rattle.cs_lexer.proofs.CharacterSteps.{value_behind, wide_more, wide_failed, is_low, ascii_over, ascii_more}
use Rattle.cs_lexer.proofs.characters.characters.Goals as goal

pub text-preserved-then-not-is_ascii : goal.text-preserved-then-not-is_ascii
text-preserved-then-not-is_ascii c =
    let wide : 128 ≤ c.in-Some.character = grind (arith, common_steps) in
    let rest = chars_rest c.next.new.self ++ 34 ∷ [] in
    c.text.invariant ∙ wide_more (string_bytes c.text.found) c.text.state c.in-Some.character _ _ (34 ∷ []) c.in-Inside.is wide c.in-Some.ensures.steps.0 ∙ ap (λ l. value_behind l c.text.state rest) (sym c.in_ok-push-in-Inside.ensures.bytes)

pub returns-in_default : goal.returns-in_default
returns-in_default c =
    let wide : 128 ≤ c.in-Some.character = grind (arith, common_steps) in
    c.new.ensures.bytes ∙ sym (c.text.invariant ∙ wide_failed (string_bytes c.text.found) c.text.state c.in-Some.character _ _ _ c.in_default.not-Inside wide c.in-Some.ensures.steps.0)

pub put_character-requires : goal.put_character-requires
put_character-requires c = is_low c.in-Some.character (sym c.is_ascii.ensures ∙ c.if-not-is_ascii.false)

pub text-preserved : goal.text-preserved
text-preserved c =
    let ascii : c.in-Some.character < 128 = is_low _ (sym c.is_ascii.ensures ∙ c.if-not-is_ascii.false) in
    let next = c.in-More.next in
    let rest = chars_rest c.next.new.self ++ 34 ∷ [] in
    c.text.invariant ∙ ascii_more (string_bytes c.text.found) c.text.state next c.in-Some.character _ _ _ ascii c.in-Some.ensures.steps.0 c.text_step.ensures c.in-More.is
    ∙ ap (λ l. value_behind l next rest) (sym (c.in_ok-put_character-in-More.ensures _ (sym c.text_step.ensures ∙ c.in-More.is)))

pub returns-in-Ends : goal.returns-in-Ends
returns-in-Ends c =
    let ascii : c.in-Some.character < 128 = is_low _ (sym c.is_ascii.ensures ∙ c.if-not-is_ascii.false) in
    c.new-in-Ends.ensures.bytes ∙ sym (c.text.invariant ∙ ascii_over (string_bytes c.text.found) c.text.state c.in-Some.character _ _ _ ascii c.in-Some.ensures.steps.0 c.text_step.ensures c.in-Ends.is)

pub text-init : goal.text-init
text-init c = simp (c.new-found.ensures.bytes, c.into_iter-character-iterator.ensures.into_iter_gives, c.chars-character-items.ensures.rest)
