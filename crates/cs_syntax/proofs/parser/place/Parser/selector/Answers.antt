use Rattle.std.proofs.Common.{sym, ◌∙◌}
use Rattle.cs_syntax.specs.Reading.{selector_at}
use Rattle.cs_syntax.proofs.QuotedTexts.{next_quoted}
use Rattle.cs_syntax.proofs.WordKinds.{at_end, selector_end}
use Rattle.cs_syntax.proofs.parser.place.Parser.selector.Goals as goal

pub unescape-requires : goal.unescape-requires
unescape-requires c = next_quoted c.args.self.now.tokens.now _ c.args.self.now.next c.in-Some.token c.args.self.now.quoted c.in-Some.ensures (sym c.kind_of.ensures ∙ c.in-Text.is)

pub returns-in_default : goal.returns-in_default
returns-in_default c = at_end selector_at _ c.fault.result c.in_default.ensures c.fault.ensures selector_end
