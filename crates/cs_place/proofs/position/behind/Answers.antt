use Rattle.std.proofs.Common.{ℕ, ◌+◌, sym, ap, ap₂, ◌∙◌, count_by, length, arith}
use Rattle.std.proofs.lemmas.Slice.{between_to_end}
use Rattle.cs_place.specs.declared.position.Position.{Position}
use Rattle.cs_place.specs.Positions.{begins_character}
use Rattle.cs_place.proofs.Lines.{same_line, next_line}
use Rattle.cs_place.proofs.position.behind.Goals as goal

abbrev place : ℕ → ℕ → Position
place l c = record { line = l; column = c }

pub returns-in-None : goal.returns-in-None
returns-in-None c = λ before from.
    ap₂ place (ap (λ (p : Position). p.line) from) (ap₂ (λ m n. m + n) (ap (λ (p : Position). p.column) from) c.characters.ensures.value)
    ∙ sym (same_line before c.args.bytes.now c.in-None.ensures)

pub returns-in-Some : goal.returns-in-Some
returns-in-Some c = λ before from.
    ap₂ place (ap₂ (λ m n. m + n) (ap (λ (p : Position). p.line) from) c.newlines.ensures.value)
    (ap (λ n. 1 + n) (c.characters-in-Some.ensures.value
    ∙ ap (count_by begins_character) (between_to_end c.args.bytes.now (c.in-Some.place + 1) (length c.args.bytes.now) (omega arith))))
    ∙ sym (next_line before c.args.bytes.now c.in-Some.place c.in-Some.ensures.0 c.in-Some.ensures.1)
