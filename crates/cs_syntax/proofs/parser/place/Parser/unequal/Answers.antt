use Rattle.std.proofs.Common.{◌+◌, drop, sym, ap, ◌∙◌}
use Rattle.std.proofs.lemmas.Result.{err_from_is_err_and}
use Rattle.cs_grammar.specs.TokenWords.{kind_of, words}
use Rattle.cs_grammar.specs.View.{lexemes_view}
use Rattle.cs_syntax.specs.Reading.{unequal_at}
use Rattle.cs_syntax.proofs.Reader.{fails-bind}
use Rattle.cs_syntax.proofs.QuotedTexts.{next_quoted}
use Rattle.cs_syntax.proofs.WordKinds.{at_end, unequal_end, unequal_other}
use Rattle.cs_syntax.proofs.parser.place.Parser.unequal.Goals as goal

pub unescape-requires : goal.unescape-requires
unescape-requires c = next_quoted c.args.self.now.tokens.now _ c.args.self.now.next c.in-Some.token c.args.self.now.quoted c.in-Some.ensures (sym c.kind_of.ensures ∙ c.in-Text.is)

pub returns-in_default : goal.returns-in_default
returns-in_default c = at_end unequal_at _ c.fault.result c.in_default.ensures c.fault.ensures unequal_end

pub returns-in_err-number-in_default-kind_of : goal.returns-in_err-number-in_default-kind_of
returns-in_err-number-in_default-kind_of c =
    let other = c.in_default-kind_of in
    let p = err_from_is_err_and c.from_residual-in_err-number-in_default-kind_of.result c.from_residual-in_err-number-in_default-kind_of.ensures.1 in
    let t = c.in-Some.token in
    let rest = words (lexemes_view (drop (c.args.self.now.next + 1) c.args.self.now.tokens.now)) in
    let first = ap (λ ts. words (lexemes_view ts)) c.in-Some.ensures in
    rw (p.1, p.2) (rw (first, unequal_other (kind_of t.sort t.text.now) t.text.now t.start rest (λ e. other.not-Text (c.kind_of.ensures ∙ e)) (λ e. other.not-Name (c.kind_of.ensures ∙ e)))
    (fails-bind _ _ _ (rw first at c.in_err-number-in_default-kind_of.ensures)))
