use Rattle.std.proofs.Common.{Some, None, map, cond, sym, ap, refl, ◌∙◌}
use Rattle.std.specs.Option.{option_map}
use Rattle.std.proofs.lemmas.List.{take_all}
use Rattle.cs_grammar.specs.View.{expr_view, exprs_view, trees_of}
use Rattle.cs_plain.specs.Plain.{is_single, are_single}
use Rattle.cs_plain.proofs.Values.{is_so, same_so, not_so}
use Rattle.cs_plain.proofs.Walks.{map_pushed, well_more, one_ill, all_well}
use Rattle.cs_plain.proofs.plain.singles.Goals as goal

pub loop-expr-preserved : goal.loop-expr-preserved
loop-expr-preserved c =
    let xs = c.args.exprs.now in
    let i = c.loop-expr.expr-index in
    let x = c.expr-item.result in
    let told = sym (ap (option_map expr_view) c.in-Some.is) ∙ c.in_ok-copy.ensures in record {
      copied = map_pushed expr_view expr_view xs i x c.loop-expr-test.true c.expr-item.is _ _ _ c.in_ok-push.ensures.items c.loop-expr.invariant.copied
          (same_so (is_single (expr_view x)) (expr_view c.in-Some.copy) (expr_view x) told);
      left = well_more (λ es. are_single (exprs_view es)) (λ e. is_single (expr_view e)) (λ e es. refl) xs i c.loop-expr.invariant.left x c.loop-expr-test.true c.expr-item.is
          (is_so (is_single (expr_view x)) (expr_view c.in-Some.copy) (expr_view x) told);
    }

pub returns-in_default : goal.returns-in_default
returns-in_default c =
    let xs = c.args.exprs.now in
    let x = c.expr-item.result in
    let told = sym (ap (option_map expr_view) c.in_default.is) ∙ c.in_ok-copy.ensures in
    let ill = not_so (is_single (expr_view x)) (expr_view x) told in
    ap (λ b. cond b (Some (exprs_view xs)) None) (one_ill (λ es. are_single (exprs_view es)) (λ e. is_single (expr_view e)) (λ e es. refl) xs c.loop-expr.expr-index c.loop-expr.invariant.left
    x c.loop-expr-test.true c.expr-item.is ill)

pub returns : goal.returns
returns c =
    let xs = c.args.exprs.now in
    let i = c.loop-expr.expr-index in
    let same = c.loop-expr.invariant.copied ∙ ap (map expr_view) (take_all i xs c.loop-expr-test.false) in
    let all = all_well (λ es. are_single (exprs_view es)) (λ e. is_single (expr_view e)) (λ e es. refl) xs i c.loop-expr.invariant.left refl c.loop-expr-test.false in
    ap (λ ts. Some (trees_of ts)) same ∙ ap (λ b. cond b (Some (exprs_view xs)) None) all
