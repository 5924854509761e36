use Rattle.std.proofs.Common.{ℕ, List, Bor, map, refl}
use Rattle.std.proofs.lemmas.Result.{err_from_is_err_and}
use Rattle.cs_tool.proofs.ByExport.{agree_by_export}
use Rattle.cs_tool.proofs.Numbered.{numbered_sides}
use Rattle.cs_tool.proofs.calls.agree_in.Goals as goal

abbrev now : Bor (List ℕ) → List ℕ
now s = s.now

pub returns-in_err-guarded : goal.returns-in_err-guarded
returns-in_err-guarded c =
    let read = c.in_err-guarded.ensures in
    let p = err_from_is_err_and c.from_residual.result c.from_residual.ensures.1 in
    rw (p.1, p.2) (record {
      found = tt;
      refused = agree_by_export c.args.profile (map now c.args.sources.now) c.args.root.now c.args.doc.now _ read.refused;
      only = λ ready. let x = ready.vetted.input in read.only (x.environment, x.name, x.declares);
    })

pub returns-in_err-root_side : goal.returns-in_err-root_side
returns-in_err-root_side c =
    let sides = c.in_ok-guarded.ensures.found in
    let p = err_from_is_err_and c.from_residual-in_err-root_side.result c.from_residual-in_err-root_side.ensures.1 in
    rw (p.1, p.2, c.in_err-root_side.ensures.memory _ _ sides.0 sides.1.declares) (record { found = tt; refused = tt; only = λ ready. refl })

pub returns-in_err-schema_side : goal.returns-in_err-schema_side
returns-in_err-schema_side c =
    let p = err_from_is_err_and c.from_residual-in_err-schema_side.result c.from_residual-in_err-schema_side.ensures.1 in
    rw (p.1, p.2, c.in_err-schema_side.ensures.memory) (record { found = tt; refused = tt; only = λ ready. refl })

pub returns : goal.returns
returns c =
    let sources = map now c.args.sources.now in
    let root = c.args.root.now in
    let sides = c.in_ok-guarded.ensures.found in
    let is = numbered_sides sides.1 (c.in_ok-root_side.ensures.found c.args.profile sources sides.0 sides.1.declares) c.in_ok-schema_side.ensures.found in
    let judged = c.judge_both.ensures in
    record { found = judged.found c.args.profile sources root is; refused = judged.refused c.args.profile sources root is; only = judged.only c.args.profile sources root is }
