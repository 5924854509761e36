use Rattle.std.proofs.Common.{◌≡◌, ℕ, List, ◌∷◌, ◌+◌, ◌-◌, length, take, drop, false, sym, subst, arith}
use Rattle.cs_grammar.specs.declared.token.Sort.TheVariants as sorts
use Rattle.cs_grammar.specs.Cut.{Begins, begins_quotes}
use Rattle.cs_grammar.specs.Stuck.{NoneBegins, quotes}
use Rattle.cs_lexer.specs.Pieces.{Edges}
use Rattle.cs_lexer.proofs.ByteClasses.{opened}
use Rattle.cs_lexer.proofs.Texts.{text_case, bad_text_case}
use Rattle.cs_lexer.proofs.piece.text_piece.Goals as goal

abbrev rest : List ℕ → List ℕ
rest bs = take (length bs - 1) (drop 1 bs)

pub returns-then-begins_quotes : goal.returns-then-begins_quotes
returns-then-begins_quotes c = quotes (sym c.if-begins_quotes.ensures)

pub returns-in-Some : goal.returns-in-Some
returns-in-Some c =
    let bs = c.args.bytes.now in
    let n = c.in-Some.len in
    let is = opened bs 34 c.requires.some c.requires.quote in
    let single : begins_quotes (34 ∷ rest bs) ≡ false = subst (λ t. begins_quotes t ≡ false) (sym is) (sym c.if-begins_quotes.ensures) in
    subst (λ t. Begins c.args.line t (n + 1) sorts.Text × Edges t (n + 1)) is (text_case (rest bs) c.args.line n single (sym c.in-Some.ensures))

pub overflow_add-result : goal.overflow_add-result
overflow_add-result c =
    let bs = c.args.bytes.now in
    let n = c.in-Some.len in
    let is = opened bs 34 c.requires.some c.requires.quote in
    let single : begins_quotes (34 ∷ rest bs) ≡ false = subst (λ t. begins_quotes t ≡ false) (sym is) (sym c.if-begins_quotes.ensures) in
    let h = subst (λ t. Begins c.args.line t (n + 1) sorts.Text × Edges t (n + 1)) is (text_case (rest bs) c.args.line n single (sym c.in-Some.ensures)) in
    omega (arith, h.1.within)

pub returns-in-None : goal.returns-in-None
returns-in-None c = subst NoneBegins (opened c.args.bytes.now 34 c.requires.some c.requires.quote) (bad_text_case (rest c.args.bytes.now) (sym c.in-None.ensures))
