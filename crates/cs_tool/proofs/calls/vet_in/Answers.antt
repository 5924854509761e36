use Rattle.std.proofs.Common.{ℕ, List, Bor, map, refl}
use Rattle.std.proofs.lemmas.Result.{err_from_is_err_and}
use Rattle.cs_tool.proofs.ByExport.{vet_by_export}
use Rattle.cs_tool.proofs.calls.vet_in.Goals as goal

abbrev now : Bor (List ℕ) → List ℕ
now s = s.now

pub returns-in_err-guarded : goal.returns-in_err-guarded
returns-in_err-guarded c =
    let read = c.in_err-guarded.ensures in
    let p = err_from_is_err_and c.from_residual.result c.from_residual.ensures.1 in
    rw (p.1, p.2) (record {
      found = tt;
      refused = vet_by_export c.args.profile (map now c.args.sources.now) c.args.root.now c.args.doc.now _ read.refused;
      only = λ ready. let x = ready.input in read.only (x.environment, x.name, x.declares);
    })

pub returns-in_err-rules : goal.returns-in_err-rules
returns-in_err-rules c =
    let root = c.in_ok-guarded.ensures.found in
    let p = err_from_is_err_and c.from_residual-in_err-rules.result c.from_residual-in_err-rules.ensures.1 in
    rw (p.1, p.2, c.in_err-rules.ensures.memory _ _ root.0 root.1) (record { found = tt; refused = tt; only = λ ready. refl })

pub returns : goal.returns
returns c =
    let sources = map now c.args.sources.now in
    let root = c.in_ok-guarded.ensures.found in
    let declares = c.in_ok-rules.ensures.found c.args.profile sources root.0 root.1 in
    let judged = c.judge_root.ensures in
    record {
      found = judged.found c.args.profile sources c.args.root.now declares;
      refused = judged.refused c.args.profile sources c.args.root.now declares;
      only = judged.only c.args.profile sources c.args.root.now declares;
    }
