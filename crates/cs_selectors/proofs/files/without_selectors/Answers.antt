use Rattle.std.proofs.Common.{◌≡◌, ◌≤◌, List, [], map, length, sym, ap, subst, ◌∙◌, arith}
use Rattle.std.proofs.lemmas.List.{length-map}
use Rattle.std.proofs.lemmas.Result.{err_from_is_err_and}
use Rattle.std.specs.List.{flat_map}
use Rattle.cs_grammar.specs.Tree.{FileTree}
use Rattle.cs_grammar.specs.View.{file_view}
use Rattle.cs_names.specs.Lifted.{all_definitions}
use Rattle.cs_plain.specs.Bodies.{bodies_in}
use Rattle.cs_selectors.specs.Checks.{FailsAny, TellsGifts, use_view}
use Rattle.cs_selectors.specs.Given.{gifts, with_all}
use Rattle.cs_selectors.specs.Selectors.{AreFew, fault_of}
use Rattle.cs_selectors.specs.Uses.{uses_from}
use Rattle.cs_selectors.specs.declared.uses.Use.{Use}
use Rattle.cs_selectors.proofs.Found.{refusal}
use Rattle.cs_selectors.proofs.files.without_selectors.Goals as goal

few_selectors : (us : List Use) (fs : List FileTree) → map use_view us ≡ uses_from 0 fs → length us ≤ 4096 → AreFew fs
few_selectors us fs is l =
    let many : length (map use_view us) ≡ length (uses_from 0 fs) = ap length is in
    omega (arith, many, length-map us use_view, l)

pub returns-in_err-giving-clause-refused : goal.returns-in_err-giving-clause-refused
returns-in_err-giving-clause-refused c =
    let fs = map file_view c.args.files.now in
    let bs = bodies_in fs in
    let e = c.in_err-giving.field-0.0 in
    let few = few_selectors c.in_ok-selectors.selectors.items fs c.in_ok-selectors.ensures (omega (arith, c.len.ensures, c.if-len-gt-MOST_SELECTORS.false)) in
    let is : map use_view c.deref.result.now ≡ uses_from 0 fs = ap (map use_view) c.deref.ensures.value ∙ c.in_ok-selectors.ensures in
    let p = err_from_is_err_and c.from_residual-in_err-giving.result c.from_residual-in_err-giving.ensures.1 in
    rw (p.1, p.2) (refusal e fs few (subst (λ us. FailsAny e (flat_map (fault_of bs) us)) is (c.in_err-giving.ensures.found bs c.in_ok-bodies.ensures)))

pub returns-clause-found : goal.returns-clause-found
returns-clause-found c =
    let fs = map file_view c.args.files.now in
    let all = all_definitions fs in
    let bs = bodies_in fs in
    let is : map use_view c.deref.result.now ≡ uses_from 0 fs = ap (map use_view) c.deref.ensures.value ∙ c.in_ok-selectors.ensures in
    let tells = subst (λ us. TellsGifts c.in_ok-giving.giving all bs (with_all all bs [] us)) is (c.in_ok-giving.ensures.given bs c.in_ok-bodies.ensures) in record {
      few = few_selectors c.in_ok-selectors.selectors.items fs c.in_ok-selectors.ensures (omega (arith, c.len.ensures, c.if-len-gt-MOST_SELECTORS.false));
      faultless = ap (flat_map (fault_of bs)) (sym is) ∙ c.in_ok-giving.ensures.found bs c.in_ok-bodies.ensures;
      apart = tells.apart;
      unselected = c.in_ok-given_files.ensures all bs (gifts fs) tells;
    }
