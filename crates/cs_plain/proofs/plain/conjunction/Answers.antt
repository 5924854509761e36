use Rattle.std.proofs.Common.{Some, sym, ap, ◌∙◌}
use Rattle.std.specs.Option.{option_map}
use Rattle.cs_grammar.specs.Tree.{conjunction}
use Rattle.cs_grammar.specs.View.{exprs_view}
use Rattle.cs_grammar.proofs.Views.{view-And}
use Rattle.cs_plain.specs.Checks.{exprs_of}
use Rattle.cs_plain.specs.Plain.{are_few, are_single}
use Rattle.cs_plain.proofs.Values.{many, few, too_many, all_copied, not_copied}
use Rattle.cs_plain.proofs.plain.conjunction.Goals as goal

pub returns-then-operands-gt-MOST_OPERANDS : goal.returns-then-operands-gt-MOST_OPERANDS
returns-then-operands-gt-MOST_OPERANDS c =
    let es = c.args.operands.now in
    too_many conjunction (exprs_view es) (are_few (exprs_view es)) (are_single (exprs_view es)) (many es c.if-operands-gt-MOST_OPERANDS.true)

pub returns-in-Some : goal.returns-in-Some
returns-in-Some c =
    let es = c.args.operands.now in
    let copied = sym (ap (option_map exprs_of) c.in-Some.is) ∙ c.in_ok-copies.ensures in
    ap Some (view-And c.in-Some.copies) ∙ all_copied conjunction (exprs_view es) (are_few (exprs_view es)) (are_single (exprs_view es)) (exprs_of c.in-Some.copies) (few es c.if-operands-gt-MOST_OPERANDS.false) copied

pub returns-in-None : goal.returns-in-None
returns-in-None c =
    let es = c.args.operands.now in
    let none = sym (ap (option_map exprs_of) c.in-None.is) ∙ c.in_ok-copies.ensures in
    not_copied conjunction (exprs_view es) (are_few (exprs_view es)) (are_single (exprs_view es)) none
