use Rattle.std.proofs.Common.{◌≡◌, ◌+◌, ◌-◌, ◌<◌, ◌++◌, [], ◌∷◌, suc, Ok, refl, map, sym, ap, ◌∙◌, arith, length, false}
use Rattle.std.proofs.lemmas.Result.{err_from_is_err_and}
use Rattle.cs_grammar.specs.declared.kind.Kind.TheVariants as kinds
use Rattle.cs_grammar.specs.View.{expr_view, field_view, declaration_view, end_view}
use Rattle.cs_grammar.proofs.Views.{view-And, view-Or}
use Rattle.cs_syntax.specs.Left.{left}
use Rattle.cs_syntax.specs.Reading.{inner, field_with, declaration_with, uncalled_with, operand_with, conj_with, branch_with, expr_with, after, another_field, another_element, opening_at, end_with, struct_with, wide_struct_with, list_with}
use Rattle.cs_syntax.proofs.WordKinds.{at_end, uncalled_end}
use Rattle.cs_syntax.proofs.Reader.{goes_on, ends, out, breaks, fails-bind, fails-of, front-fails, first_and_others, met, joined}
use Rattle.cs_syntax.proofs.parser.place.Parser.+parse.Goals as goal

pub fields-returns-in_err-field : goal.fields-returns-in_err-field
fields-returns-in_err-field t c =
    let p = err_from_is_err_and c.from_residual.result c.from_residual.ensures.1 in
    let k = length c.args.self.now.tokens.now - c.loop.counter in
    let n = length c.args.self.now.tokens.now - (c.loop.counter + 1) in
    let is : k ≡ suc n = omega arith in
    let f = c.in_err-field.field-0.0 in
    rw (p.1, p.2) (fails-of f _ _ c.loop.invariant (breaks field_view another_field (field_with (inner c.args.depth)) c.loop.fields.items f k n (left c.loop.self) (left c.skip_to_field.new.self) is c.if-not-skip_to_field.ensures c.in_err-field.ensures.read))

pub fields-loop-preserved : goal.fields-loop-preserved
fields-loop-preserved t c =
    let k = length c.args.self.now.tokens.now - c.loop.counter in
    let n = length c.args.self.now.tokens.now - (c.loop.counter + 1) in
    let is : k ≡ suc n = omega arith in
    rw c.in_ok-push.ensures.items (goes_on field_view another_field (field_with (inner c.args.depth)) c.loop.fields.items c.in_ok-field.field-0 k n (left c.loop.self) (left c.skip_to_field.new.self) (left c.field.new.self) is c.if-not-skip_to_field.ensures c.in_ok-field.ensures.read ∙ c.loop.invariant)

pub fields-returns-then-not-skip_to_field : goal.fields-returns-then-not-skip_to_field
fields-returns-then-not-skip_to_field t c = sym c.loop.invariant ∙ ends field_view another_field (field_with (inner c.args.depth)) c.loop.fields.items _ (left c.loop.self) c.if-not-skip_to_field.ensures.0 ∙ ap (λ ts. Ok (map field_view c.loop.fields.items, ts)) (sym c.if-not-skip_to_field.ensures.1)

pub fields-returns : goal.fields-returns
fields-returns t c = sym c.loop.invariant ∙ out field_view another_field (field_with (inner c.args.depth)) c.loop.fields.items _ (left c.loop.self) (omega arith)

pub declarations-returns-in_err-declaration : goal.declarations-returns-in_err-declaration
declarations-returns-in_err-declaration t c =
    let p = err_from_is_err_and c.from_residual.result c.from_residual.ensures.1 in
    let k = length c.args.self.now.tokens.now - c.loop.counter in
    let n = length c.args.self.now.tokens.now - (c.loop.counter + 1) in
    let is : k ≡ suc n = omega arith in
    let f = c.in_err-declaration.field-0.0 in
    rw (p.1, p.2) (fails-of f _ _ c.loop.invariant (breaks declaration_view another_field (declaration_with (inner c.args.depth)) c.loop.declarations.items f k n (left c.loop.self) (left c.skip_to_field.new.self) is c.if-not-skip_to_field.ensures c.in_err-declaration.ensures))

pub declarations-loop-preserved : goal.declarations-loop-preserved
declarations-loop-preserved t c =
    let k = length c.args.self.now.tokens.now - c.loop.counter in
    let n = length c.args.self.now.tokens.now - (c.loop.counter + 1) in
    let is : k ≡ suc n = omega arith in
    rw c.in_ok-push.ensures.items (goes_on declaration_view another_field (declaration_with (inner c.args.depth)) c.loop.declarations.items c.in_ok-declaration.field-0 k n (left c.loop.self) (left c.skip_to_field.new.self) (left c.declaration.new.self) is c.if-not-skip_to_field.ensures c.in_ok-declaration.ensures ∙ c.loop.invariant)

pub declarations-returns-then-not-skip_to_field : goal.declarations-returns-then-not-skip_to_field
declarations-returns-then-not-skip_to_field t c = sym c.loop.invariant ∙ ends declaration_view another_field (declaration_with (inner c.args.depth)) c.loop.declarations.items _ (left c.loop.self) c.if-not-skip_to_field.ensures.0 ∙ ap (λ ts. Ok (map declaration_view c.loop.declarations.items, ts)) (sym c.if-not-skip_to_field.ensures.1)

pub declarations-returns : goal.declarations-returns
declarations-returns t c = sym c.loop.invariant ∙ out declaration_view another_field (declaration_with (inner c.args.depth)) c.loop.declarations.items _ (left c.loop.self) (omega arith)

pub elements-returns-in_err-inside : goal.elements-returns-in_err-inside
elements-returns-in_err-inside t c =
    let p = err_from_is_err_and c.from_residual.result c.from_residual.ensures.1 in
    let k = length c.args.self.now.tokens.now - c.loop.counter in
    let n = length c.args.self.now.tokens.now - (c.loop.counter + 1) in
    let is : k ≡ suc n = omega arith in
    let f = c.in_err-inside.field-0.0 in
    rw (p.1, p.2) (fails-of f _ _ c.loop.invariant (breaks expr_view another_element (inner c.args.depth false) c.loop.elements.items f k n (left c.loop.self) (left c.skip_to_element.new.self) is c.if-not-skip_to_element.ensures c.in_err-inside.ensures))

pub elements-loop-preserved : goal.elements-loop-preserved
elements-loop-preserved t c =
    let k = length c.args.self.now.tokens.now - c.loop.counter in
    let n = length c.args.self.now.tokens.now - (c.loop.counter + 1) in
    let is : k ≡ suc n = omega arith in
    rw c.in_ok-push.ensures.items (goes_on expr_view another_element (inner c.args.depth false) c.loop.elements.items c.in_ok-inside.field-0 k n (left c.loop.self) (left c.skip_to_element.new.self) (left c.inside.new.self) is c.if-not-skip_to_element.ensures c.in_ok-inside.ensures ∙ c.loop.invariant)

pub elements-returns-then-not-skip_to_element : goal.elements-returns-then-not-skip_to_element
elements-returns-then-not-skip_to_element t c = sym c.loop.invariant ∙ ends expr_view another_element (inner c.args.depth false) c.loop.elements.items _ (left c.loop.self) c.if-not-skip_to_element.ensures.0 ∙ ap (λ ts. Ok (map expr_view c.loop.elements.items, ts)) (sym c.if-not-skip_to_element.ensures.1)

pub elements-returns : goal.elements-returns
elements-returns t c = sym c.loop.invariant ∙ out expr_view another_element (inner c.args.depth false) c.loop.elements.items _ (left c.loop.self) (omega arith)

pub amps-returns-in_err-operand : goal.amps-returns-in_err-operand
amps-returns-in_err-operand t c =
    let p = err_from_is_err_and c.from_residual.result c.from_residual.ensures.1 in
    let k = length c.args.self.now.tokens.now - c.loop.counter in
    let n = length c.args.self.now.tokens.now - (c.loop.counter + 1) in
    let is : k ≡ suc n = omega arith in
    let f = c.in_err-operand.field-0.0 in
    rw (p.1, p.2) (fails-of f _ _ c.loop.invariant (breaks expr_view (after kinds.Amp) (operand_with (inner c.args.depth)) c.loop.operands.items f k n (left c.loop.self) (left c.skip.new.self) is c.if-not-skip.ensures c.in_err-operand.ensures))

pub amps-loop-preserved : goal.amps-loop-preserved
amps-loop-preserved t c =
    let k = length c.args.self.now.tokens.now - c.loop.counter in
    let n = length c.args.self.now.tokens.now - (c.loop.counter + 1) in
    let is : k ≡ suc n = omega arith in
    rw c.in_ok-push.ensures.items (goes_on expr_view (after kinds.Amp) (operand_with (inner c.args.depth)) c.loop.operands.items c.in_ok-operand.field-0 k n (left c.loop.self) (left c.skip.new.self) (left c.operand.new.self) is c.if-not-skip.ensures c.in_ok-operand.ensures ∙ c.loop.invariant)

pub amps-returns-then-not-skip : goal.amps-returns-then-not-skip
amps-returns-then-not-skip t c = sym c.loop.invariant ∙ ends expr_view (after kinds.Amp) (operand_with (inner c.args.depth)) c.loop.operands.items _ (left c.loop.self) c.if-not-skip.ensures.0 ∙ ap (λ ts. Ok (map expr_view c.loop.operands.items, ts)) (sym c.if-not-skip.ensures.1)

pub amps-returns : goal.amps-returns
amps-returns t c = sym c.loop.invariant ∙ out expr_view (after kinds.Amp) (operand_with (inner c.args.depth)) c.loop.operands.items _ (left c.loop.self) (omega arith)

pub bars-returns-in_err-branch : goal.bars-returns-in_err-branch
bars-returns-in_err-branch t c =
    let p = err_from_is_err_and c.from_residual.result c.from_residual.ensures.1 in
    let k = length c.args.self.now.tokens.now - c.loop.counter in
    let n = length c.args.self.now.tokens.now - (c.loop.counter + 1) in
    let is : k ≡ suc n = omega arith in
    let f = c.in_err-branch.field-0.0 in
    rw (p.1, p.2) (fails-of f _ _ c.loop.invariant (breaks expr_view (after kinds.Bar) (branch_with (inner c.args.depth)) c.loop.operands.items f k n (left c.loop.self) (left c.skip.new.self) is c.if-not-skip.ensures c.in_err-branch.ensures))

pub bars-loop-preserved : goal.bars-loop-preserved
bars-loop-preserved t c =
    let k = length c.args.self.now.tokens.now - c.loop.counter in
    let n = length c.args.self.now.tokens.now - (c.loop.counter + 1) in
    let is : k ≡ suc n = omega arith in
    rw c.in_ok-push.ensures.items (goes_on expr_view (after kinds.Bar) (branch_with (inner c.args.depth)) c.loop.operands.items c.in_ok-branch.field-0 k n (left c.loop.self) (left c.skip.new.self) (left c.branch-self.new.self) is c.if-not-skip.ensures c.in_ok-branch.ensures ∙ c.loop.invariant)

pub bars-returns-then-not-skip : goal.bars-returns-then-not-skip
bars-returns-then-not-skip t c = sym c.loop.invariant ∙ ends expr_view (after kinds.Bar) (branch_with (inner c.args.depth)) c.loop.operands.items _ (left c.loop.self) c.if-not-skip.ensures.0 ∙ ap (λ ts. Ok (map expr_view c.loop.operands.items, ts)) (sym c.if-not-skip.ensures.1)

pub bars-returns : goal.bars-returns
bars-returns t c = sym c.loop.invariant ∙ out expr_view (after kinds.Bar) (branch_with (inner c.args.depth)) c.loop.operands.items _ (left c.loop.self) (omega arith)

-- ---- what is between brackets

pub struct_inside-returns : goal.struct_inside-returns
unfolding struct_with
struct_inside-returns t c =
    let r = inner c.args.depth in
    let same = c.if-skip-2.ensures.1 ∙ c.if-skip.ensures.1 in
    let none = ap (after kinds.Dots) (sym c.if-skip.ensures.1) ∙ c.if-skip-2.ensures.0 in
    let first = ap (field_with r) (sym same) ∙ c.in_ok-first.ensures.read in
    let alone = c.in_ok-push.ensures.items ∙ ap (λ xs. xs ++ c.in_ok-first.first ∷ []) c.requires.none in
    rw (c.if-skip.ensures.0, none, first) (first_and_others field_view (λ b. b) c.in_ok-first.first _ _ opening_at _ (rw alone at c.in_ok-fields.ensures) _ _ c.opening.ensures)

pub struct_inside-returns-in_err-fields : goal.struct_inside-returns-in_err-fields
unfolding struct_with
struct_inside-returns-in_err-fields t c =
    let r = inner c.args.depth in
    let p = err_from_is_err_and c.from_residual-in_err-fields.result c.from_residual-in_err-fields.ensures.1 in
    let same = c.if-skip-2.ensures.1 ∙ c.if-skip.ensures.1 in
    let none = ap (after kinds.Dots) (sym c.if-skip.ensures.1) ∙ c.if-skip-2.ensures.0 in
    let first = ap (field_with r) (sym same) ∙ c.in_ok-first.ensures.read in
    let f = c.in_err-fields.field-0.0 in
    rw (p.1, p.2) (rw (c.if-skip.ensures.0, none, first) (fails-bind f _ _ (front-fails field_view another_field (field_with r) _ f _ c.in_err-fields.ensures)))

pub wide_inside-returns : goal.wide_inside-returns
unfolding wide_struct_with
wide_inside-returns t c =
    let r = inner c.args.depth in
    let same = c.if-skip-2.ensures.1 ∙ c.if-skip.ensures.1 in
    let none = ap (after kinds.Dots) (sym c.if-skip.ensures.1) ∙ c.if-skip-2.ensures.0 in
    let first = ap (declaration_with r) (sym same) ∙ c.in_ok-first.ensures in
    let alone = c.in_ok-push.ensures.items ∙ ap (λ xs. xs ++ c.in_ok-first.first ∷ []) c.requires.none in
    rw (c.if-skip.ensures.0, none, first) (first_and_others declaration_view (λ b. b) c.in_ok-first.first _ _ opening_at _ (rw alone at c.in_ok-declarations.ensures) _ _ c.opening.ensures)

pub wide_inside-returns-in_err-declarations : goal.wide_inside-returns-in_err-declarations
unfolding wide_struct_with
wide_inside-returns-in_err-declarations t c =
    let r = inner c.args.depth in
    let p = err_from_is_err_and c.from_residual-in_err-declarations.result c.from_residual-in_err-declarations.ensures.1 in
    let same = c.if-skip-2.ensures.1 ∙ c.if-skip.ensures.1 in
    let none = ap (after kinds.Dots) (sym c.if-skip.ensures.1) ∙ c.if-skip-2.ensures.0 in
    let first = ap (declaration_with r) (sym same) ∙ c.in_ok-first.ensures in
    let f = c.in_err-declarations.field-0.0 in
    rw (p.1, p.2) (rw (c.if-skip.ensures.0, none, first) (fails-bind f _ _ (front-fails declaration_view another_field (declaration_with r) _ f _ c.in_err-declarations.ensures)))

pub list_inside-returns : goal.list_inside-returns
unfolding list_with
list_inside-returns t c =
    let r = inner c.args.depth in
    let same = c.if-skip-2.ensures.1 ∙ c.if-skip.ensures.1 in
    let none = ap (after kinds.Dots) (sym c.if-skip.ensures.1) ∙ c.if-skip-2.ensures.0 in
    let first = ap (r false) (sym same) ∙ c.in_ok-first.ensures in
    let alone = c.in_ok-push.ensures.items ∙ ap (λ xs. xs ++ c.in_ok-first.first ∷ []) c.requires.none in
    rw (c.if-skip.ensures.0, none, first) (first_and_others expr_view end_view c.in_ok-first.first _ _ (end_with r) _ (rw alone at c.in_ok-elements.ensures) _ _ c.list_end.ensures)

pub list_inside-returns-in_err-elements : goal.list_inside-returns-in_err-elements
unfolding list_with
list_inside-returns-in_err-elements t c =
    let r = inner c.args.depth in
    let p = err_from_is_err_and c.from_residual-in_err-elements.result c.from_residual-in_err-elements.ensures.1 in
    let same = c.if-skip-2.ensures.1 ∙ c.if-skip.ensures.1 in
    let none = ap (after kinds.Dots) (sym c.if-skip.ensures.1) ∙ c.if-skip-2.ensures.0 in
    let first = ap (r false) (sym same) ∙ c.in_ok-first.ensures in
    let f = c.in_err-elements.field-0.0 in
    rw (p.1, p.2) (rw (c.if-skip.ensures.0, none, first) (fails-bind f _ _ (front-fails expr_view another_element (r false) _ f _ c.in_err-elements.ensures)))

-- ---- operands

pub conj-returns : goal.conj-returns
unfolding conj_with
conj-returns t c =
    let some : 0 < length c.in_ok-operands.operands.items = grind (arith, c.if-is_empty.ensures) in
    rw (c.in_ok-first.ensures, c.in_ok-operands.ensures, met _ _ some, view-And) (rw c.in_ok-insert.ensures.items refl)

pub expr-returns : goal.expr-returns
unfolding expr_with
expr-returns t c =
    let some : 0 < length c.in_ok-operands.operands.items = grind (arith, c.if-is_empty.ensures) in
    rw (c.in_ok-first.ensures, c.in_ok-operands.ensures, joined _ _ some, view-Or) (rw c.in_ok-insert.ensures.items refl)

pub uncalled-returns-in_default : goal.uncalled-returns-in_default
uncalled-returns-in_default t c = at_end (uncalled_with (inner c.args.depth)) _ c.fault.result c.in_default.ensures c.fault.ensures (uncalled_end (inner c.args.depth))
