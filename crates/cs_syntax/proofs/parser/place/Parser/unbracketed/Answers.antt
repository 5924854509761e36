use Rattle.std.proofs.Common.{sym, ◌∙◌}
use Rattle.cs_syntax.proofs.QuotedTexts.{next_quoted}
use Rattle.cs_syntax.proofs.parser.place.Parser.unbracketed.Goals as goal

pub unescape-requires : goal.unescape-requires
unescape-requires c = next_quoted c.args.self.now.tokens.now _ c.args.self.now.next c.in-Some.token c.args.self.now.quoted c.in-Some.ensures (sym c.kind_of.ensures ∙ c.in-Text.is)
