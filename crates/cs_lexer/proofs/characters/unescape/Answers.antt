use Rattle.std.proofs.Common.{sym, ap, ◌∙◌, arith, Some, None}
use Rattle.std.proofs.lemmas.Str.{IsCharBoundary-after_ascii}
use Rattle.std.proofs.lemmas.Str.Pattern.{strip_suffix_char}
use Rattle.cs_lexer.specs.declared.text.TextState.TheVariants.{Inside}
use Rattle.cs_lexer.specs.Automaton.{value_from}
use Rattle.cs_lexer.proofs.CharacterSteps.{first_byte}
use Rattle.cs_lexer.proofs.Texts.{none_unquoted}
use Rattle.cs_lexer.proofs.TextValues.{unescaped_is}
use Rattle.cs_lexer.proofs.characters.unescape.Goals as goal

pub range_from-requires : goal.range_from-requires
range_from-requires c _ =
    let h = first_byte c.args.text.now c.requires in
    IsCharBoundary-after_ascii c.args.text.now 0 c.utf8.text h.0 h.1

pub returns-in-None : goal.returns-in-None
returns-in-None c =
    let rest = c.range_from.result.now in
    c.new.ensures.bytes ∙ sym (unescaped_is c.args.text.now rest c.range_from.ensures.value ∙ none_unquoted rest Inside (strip_suffix_char 34 rest None c.in-None.ensures.cases (omega arith)))

pub returns-in_ok-characters-in-Some : goal.returns-in_ok-characters-in-Some
returns-in_ok-characters-in-Some c =
    let rest = c.range_from.result.now in
    c.in_ok-characters-in-Some.ensures ∙ sym (unescaped_is c.args.text.now rest c.range_from.ensures.value ∙ ap (value_from Inside) (strip_suffix_char 34 rest (Some c.in-Some.inside) c.in-Some.ensures.cases (omega arith)))
