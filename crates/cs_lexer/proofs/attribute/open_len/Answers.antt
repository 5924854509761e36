use Rattle.std.proofs.Common.{◌≡◌, [], ◌∷◌, reverse, sym, ap, ◌∙◌, arith}
use Rattle.std.proofs.lemmas.List.{reverse-append, nil_from_length}
use Rattle.cs_lexer.proofs.Attributes.{open_opens, open_closes, open_ends, open_stays, open_fails, open_out}
use Rattle.cs_lexer.proofs.attribute.open_len.Goals.{in-Opens+in_ok-push-in-Opens, in-Closes+in-Some, in-Stays}
use Rattle.cs_lexer.proofs.attribute.open_len.Goals as goal

pub returns-in-None : goal.returns-in-None
returns-in-None c = sym (open_ends c.args.bytes.now c.attribute.i c.attribute.innermost (reverse c.attribute.outer.items) (omega arith) (sym c.in-Closes.ensures) (ap reverse (nil_from_length c.attribute.outer.items (omega (arith, c.in-None.ensures.cases.0))))) ∙ c.attribute.invariant

pub returns-in-Fails : goal.returns-in-Fails
returns-in-Fails c = sym (open_fails c.args.bytes.now c.attribute.i c.attribute.innermost (reverse c.attribute.outer.items) (omega arith) (sym c.in-Fails.ensures)) ∙ c.attribute.invariant

pub attribute-preserved : goal.attribute-preserved
attribute-preserved c = elim c.match-attribute_step.branch [
  | in-Opens+in_ok-push-in-Opens w ↦
      let items = w.in_ok-push-in-Opens.ensures.items in
      rw (w.outer-is, w.innermost-is, items, reverse-append) (sym (open_opens c.args.bytes.now c.attribute.i c.attribute.innermost (reverse c.attribute.outer.items) (omega arith) w.in-Opens.next (sym w.in-Opens.ensures)) ∙ c.attribute.invariant)
  | in-Closes+in-Some w ↦
      let around : reverse c.attribute.outer.items ≡ w.in-Some.next ∷ reverse w.pop.new.self.items = ap reverse w.in-Some.ensures.items ∙ reverse-append w.pop.new.self.items (w.in-Some.next ∷ []) in
      rw (w.outer-is, w.innermost-is) (sym (open_closes c.args.bytes.now c.attribute.i c.attribute.innermost (reverse c.attribute.outer.items) (omega arith) w.in-Some.next (reverse w.pop.new.self.items) (sym w.in-Closes.ensures) around) ∙ c.attribute.invariant)
  | in-Stays w ↦ rw (w.outer-is, w.innermost-is) (sym (open_stays c.args.bytes.now c.attribute.i c.attribute.innermost (reverse c.attribute.outer.items) (omega arith) (sym w.in-Stays.ensures)) ∙ c.attribute.invariant)
]

pub returns : goal.returns
returns c = sym (open_out c.args.bytes.now c.attribute.i c.attribute.innermost (reverse c.attribute.outer.items) (omega arith)) ∙ c.attribute.invariant
