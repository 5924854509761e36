use Rattle.std.proofs.Common.{rules, ◌≡◌, [], Some, map, sym, ap, ◌∙◌, subst}
use Rattle.std.specs.List.{flat_map}
use Rattle.cs_grammar.specs.Tree.{body}
use Rattle.cs_grammar.specs.View.{definition_view}
use Rattle.cs_conditions.specs.Checks.{EndsAt}
use Rattle.cs_conditions.specs.Faults.{flaws}
use Rattle.cs_conditions.specs.declared.flaws.Flaw.TheVariants.{LeftOut, MayBeAbsent}
use Rattle.cs_conditions.specs.declared.flaws.Stop.TheVariants.{Flawed}
use Rattle.cs_conditions.proofs.Found.{own_found, first_in, none_in, none_in_any}
use Rattle.cs_conditions.proofs.files.check_files.Goals as goal

pub returns-in-Err-Flawed-LeftOut : goal.returns-in-Err-Flawed-LeftOut
returns-in-Err-Flawed-LeftOut c known tells =
    let same : c.in-Err-Flawed-LeftOut.field-0 ≡ Flawed (LeftOut c.in-Err-Flawed-LeftOut.at) = search rules in
    let here = subst (λ xs. EndsAt c.in-Err-Flawed-LeftOut.field-0 (flat_map (λ d. flaws known (body d)) (map definition_view xs))) c.deref.ensures.value (c.in-Err-Flawed-LeftOut.ensures known tells) in
    let found = subst (λ e. EndsAt e (own_found (flaws known) c.index-files-file.result)) same here in
    first_in (flaws known) c.args.files.now c.loop-file.file (c.loop-file.invariant known tells) c.index-files-file.result c.loop-file-test.true c.index-files-file.is _
    (found ∙ ap (λ o. Some (LeftOut o)) (sym c.in-Err-Flawed-LeftOut.at-is))

pub returns-in-Err-Flawed-MayBeAbsent : goal.returns-in-Err-Flawed-MayBeAbsent
returns-in-Err-Flawed-MayBeAbsent c known tells =
    let same : c.in-Err-Flawed-MayBeAbsent.field-0 ≡ Flawed (MayBeAbsent c.in-Err-Flawed-MayBeAbsent.at) = search rules in
    let here = subst (λ xs. EndsAt c.in-Err-Flawed-MayBeAbsent.field-0 (flat_map (λ d. flaws known (body d)) (map definition_view xs))) c.deref.ensures.value (c.in-Err-Flawed-MayBeAbsent.ensures known tells) in
    let found = subst (λ e. EndsAt e (own_found (flaws known) c.index-files-file.result)) same here in
    first_in (flaws known) c.args.files.now c.loop-file.file (c.loop-file.invariant known tells) c.index-files-file.result c.loop-file-test.true c.index-files-file.is _
    (found ∙ ap (λ o. Some (MayBeAbsent o)) (sym c.in-Err-Flawed-MayBeAbsent.at-is))

pub loop-file-preserved : goal.loop-file-preserved
loop-file-preserved c known tells =
    none_in (flaws known) c.args.files.now c.loop-file.file (c.loop-file.invariant known tells) c.index-files-file.result c.loop-file-test.true c.index-files-file.is
    (subst (λ xs. flat_map (λ d. flaws known (body d)) (map definition_view xs) ≡ []) c.deref.ensures.value (c.in-Ok.ensures known tells))

pub returns : goal.returns
returns c known tells = none_in_any (flaws known) c.args.files.now c.loop-file.file (c.loop-file.invariant known tells) c.loop-file-test.false
