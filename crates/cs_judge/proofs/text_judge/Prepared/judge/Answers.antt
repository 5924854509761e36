use Rattle.std.proofs.Common.{refl, sym, subst, subst₂}
use Rattle.std.proofs.lemmas.Result.{err_from_is_err_and}
use Rattle.cs_judge.specs.Prepared.{IsReadOf, AreNumbersOf}
use Rattle.cs_judge.proofs.ByRules.{root_read, both_read, root_numbered, schema_numbered, both_numbered}
use Rattle.cs_judge.proofs.text_judge.Prepared.judge.Goals.{in-Root+in_ok-number_root-in-Root, in-Schema+in_ok-number_schema-in-Schema, in-Both+in_ok-root_side-in-Both+in_ok-number_schema-in-Both}
use Rattle.cs_judge.proofs.text_judge.Prepared.judge.Goals as goal

pub returns-in_err-number_root-in-Root-clause-memory : goal.returns-in_err-number_root-in-Root-clause-memory
returns-in_err-number_root-in-Root-clause-memory c =
    let R = c.args.self.now in
    let is_read = subst₂ IsReadOf c.self.view_is refl c.self.invariant in
    let read = root_read R _ c.in-Root.root (subst (IsReadOf R) c.in-Root.is is_read) in
    let p = err_from_is_err_and c.from_residual.result c.from_residual.ensures.1 in
    rw (p.1, p.2) (c.in_err-number_root-in-Root.ensures.memory read.0 read.1 read.2 read.3)

pub returns-in_err-root_side-in-Both-clause-memory : goal.returns-in_err-root_side-in-Both-clause-memory
returns-in_err-root_side-in-Both-clause-memory c =
    let R = c.args.self.now in
    let is_read = subst₂ IsReadOf c.self.view_is refl c.self.invariant in
    let read = both_read R _ c.in-Both.root _ (subst (IsReadOf R) c.in-Both.is is_read) in
    let p = err_from_is_err_and c.from_residual-in_err-root_side-in-Both.result c.from_residual-in_err-root_side-in-Both.ensures.1 in
    rw (p.1, p.2) (c.in_err-root_side-in-Both.ensures.memory read.0 read.1 read.2 read.3)

pub invariant_of-result : goal.invariant_of-result
invariant_of-result c =
    let R = c.self.inside.rules.now in
    elim c.match-self.branch [
      | in-Root+in_ok-number_root-in-Root w ↦
          let is_read = subst (IsReadOf R) w.in-Root.is c.self.invariant in
          subst (AreNumbersOf R) (sym w.numbered-is) (root_numbered R _ w.in-Root.root _ is_read w.in_ok-number_root-in-Root.ensures.found)
      | in-Schema+in_ok-number_schema-in-Schema w ↦
          let is_read = subst (IsReadOf R) w.in-Schema.is c.self.invariant in
          subst (AreNumbersOf R) (sym w.numbered-is) (schema_numbered R w.in-Schema.schema _ is_read w.in_ok-number_schema-in-Schema.ensures.found)
      | in-Both+in_ok-root_side-in-Both+in_ok-number_schema-in-Both w ↦
          let is_read = subst (IsReadOf R) w.in-Both.is c.self.invariant in
          subst (AreNumbersOf R) (sym w.numbered-is) (both_numbered R _ w.in-Both.root w.in-Both.schema _ _ is_read w.in_ok-root_side-in-Both.ensures.found w.in_ok-number_schema-in-Both.ensures.found)
    ]
