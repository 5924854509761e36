use Rattle.std.proofs.Common.{sym, ◌∙◌, arith}
use Rattle.cs_lexer.proofs.Texts.{text_more, text_ended, text_failed, text_out}
use Rattle.cs_lexer.proofs.text.text_len.Goals as goal

pub returns-in-Ends : goal.returns-in-Ends
returns-in-Ends c = sym (text_ended c.args.bytes.now c.text.i c.text.state (omega arith) (sym c.in-Ends.ensures)) ∙ c.text.invariant

pub returns-in-Fails : goal.returns-in-Fails
returns-in-Fails c = sym (text_failed c.args.bytes.now c.text.i c.text.state (omega arith) (sym c.in-Fails.ensures)) ∙ c.text.invariant

pub text-preserved : goal.text-preserved
text-preserved c = sym (text_more c.args.bytes.now c.text.i c.text.state (omega arith) c.in-More.next (sym c.in-More.ensures)) ∙ c.text.invariant

pub returns : goal.returns
returns c = sym (text_out c.args.bytes.now c.text.i c.text.state (omega arith)) ∙ c.text.invariant
