use Rattle.std.proofs.Common.{◌≡◌, ◌+◌, ◌-◌, ◌++◌, ◌∷◌, [], drop, take, sym, ap, ◌∙◌, arith}
use Rattle.std.proofs.lemmas.List.{map_push}
use Rattle.cs_grammar.specs.declared.token.Sort.TheVariants as sorts
use Rattle.cs_grammar.specs.Cut.{lexeme, line_after, comma_if}
use Rattle.cs_grammar.specs.View.{lexeme_view, lexemes_view}
use Rattle.cs_lexer.proofs.Cutting.{comma_front, at_end, turn_blank, turn_line, turn_comment, comment_within, turn_token, turn_attribute, turn_none, turn_large, attribute_within, token_within, token_boundary}
use Rattle.cs_lexer.proofs.cut.put_tokens.Goals as goal

pub text-preserved-in-Space : goal.text-preserved-in-Space
text-preserved-in-Space c = record { in_range = omega arith; before = turn_blank _ _ _ _ _ c.text.invariant.before c.text-test.true c.in-Space.ensures }

pub text-preserved-in-NewLine : goal.text-preserved-in-NewLine
text-preserved-in-NewLine c = record { in_range = omega arith; before = rw (c.line_ended-line.ensures, c.in_ok-end_line-in-NewLine.ensures) (turn_line _ _ _ _ _ c.text.invariant.before c.text-test.true c.in-NewLine.ensures) }

pub overflow_add-at-in-Comment : goal.overflow_add-at-in-Comment
overflow_add-at-in-Comment c = omega (arith, comment_within c.as_bytes-bytes.result.now c.text.at c.in-Comment.len c.text.invariant.in_range c.in-Comment.ensures.1)

pub text-preserved-in-Comment : goal.text-preserved-in-Comment
text-preserved-in-Comment c = record { in_range = comment_within c.as_bytes-bytes.result.now c.text.at c.in-Comment.len c.text.invariant.in_range c.in-Comment.ensures.1; before = rw (c.line_ended-line-in-Comment.ensures, c.in_ok-end_line-in-Comment.ensures) (turn_comment _ _ _ _ _ c.text.invariant.before c.in-Comment.len c.in-Comment.ensures.0 c.in-Comment.ensures.1) }

pub range-requires-clause-end_boundary : goal.range-requires-clause-end_boundary
range-requires-clause-end_boundary c =
    let e = c.as_bytes-bytes.ensures.value in
    rw (← e) (token_boundary c.as_bytes-bytes.result.now c.text.at c.in-Token.len (rw e c.utf8.source) c.text.invariant.in_range c.in-Token.ensures.1)

pub text-preserved-in-Token : goal.text-preserved-in-Token
text-preserved-in-Token c =
    let bs = c.as_bytes-bytes.result.now in
    let at = c.text.at in
    let len = c.in-Token.len in
    let front = lexemes_view c.text.tokens.items in
    let back : at + len - at ≡ len = omega arith in
    let text-is : c.range.result.now ≡ take len (drop at bs) = c.range.ensures.value ∙ ap (λ k. take k (drop at c.args.source.now)) back ∙ ap (λ t. take len (drop at t)) (sym c.as_bytes-bytes.ensures.value) in
    let line-is : c.line_after-line.result ≡ line_after c.in-Token.sort (take len (drop at bs)) = c.line_after-line.ensures ∙ ap (λ k. line_after c.in-Token.sort (take k (drop at bs))) back in
    let pushed : lexemes_view c.push.new.self.items ≡ front ++ lexeme c.in-Token.sort (take len (drop at bs)) at ∷ [] =
    ap lexemes_view c.in_ok-push-in-Token.ensures.items ∙ map_push lexeme_view c.text.tokens.items _ ∙ ap (λ t. front ++ lexeme c.in-Token.sort t at ∷ []) text-is in
    record { in_range = token_within bs at len c.text.invariant.in_range c.in-Token.ensures.1; before = rw (line-is, pushed) (turn_token _ _ _ _ _ c.text.invariant.before len c.in-Token.sort c.in-Token.ensures.0) }

pub overflow_add-at-in-Some : goal.overflow_add-at-in-Some
overflow_add-at-in-Some c = omega (arith, attribute_within c.args.profile c.as_bytes-bytes.result.now c.text.at c.in-Some.len c.text.invariant.in_range (sym c.in_ok-len-in-NoToken.ensures ∙ c.in-Some.is))

pub text-preserved : goal.text-preserved
text-preserved c =
    let is = sym c.in_ok-len-in-NoToken.ensures ∙ c.in-Some.is in
    record { in_range = attribute_within c.args.profile c.as_bytes-bytes.result.now c.text.at c.in-Some.len c.text.invariant.in_range is; before = turn_attribute _ _ _ _ _ c.text.invariant.before c.in-Some.len is }

pub returns-in-None : goal.returns-in-None
returns-in-None c = rw (← c.as_bytes-bytes.ensures.value) (turn_none _ _ _ _ _ c.text.invariant.before c.in-NoToken.ensures (sym c.in_ok-len-in-NoToken.ensures ∙ c.in-None.is))

pub returns-in-TooLarge : goal.returns-in-TooLarge
returns-in-TooLarge c = rw (← c.as_bytes-bytes.ensures.value) (turn_large _ _ _ _ _ c.text.invariant.before _ c.in-TooLarge.ensures.1)

pub returns : goal.returns
returns c =
    let front = lexemes_view c.text.tokens.items in
    let pushed : lexemes_view c.put.new.tokens.items ≡ front ++ comma_if c.text.line c.text.at (lexeme sorts.End [] c.text.at ∷ []) =
    c.in_ok-put.ensures ∙ ap (λ ks. ks ++ lexeme sorts.End [] c.text.at ∷ []) c.in_ok-end_line.ensures ∙ comma_front front (lexeme sorts.End [] c.text.at ∷ []) c.text.line c.text.at in
    rw (pushed, ← c.as_bytes-bytes.ensures.value) (at_end _ _ _ _ _ c.text.invariant.before (omega arith))
