use Rattle.cs_lexer.proofs.TextValues.{text_parts, parts_text}
use Rattle.cs_lexer.proofs.text.text_parts.Goals as goal

pub returns-clause-parts : goal.returns-clause-parts
returns-clause-parts c xs h = text_parts xs h

pub returns-clause-text : goal.returns-clause-text
returns-clause-text c xs cs h = parts_text xs cs h
