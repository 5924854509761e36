use Rattle.std.proofs.Common.{◌≡◌, ℕ, List, refl, sym, subst, subst₂}
use Rattle.cs_document.specs.Document.{Document, IsDocument}
use Rattle.cs_json.specs.Texts.{Reads}
use Rattle.cs_judge.specs.Prepared.{AreNumbersOf}
use Rattle.cs_judge.specs.Verdicts.{IsReadAs}
use Rattle.cs_judge.proofs.text_judge.TextJudge.answer.Goals.{in-Listed, in-Tree+in_ok-flat-in-Tree+in-Text-1, in-Tree+in_ok-flat-in-Tree+in-List-1, in-Tree+in_ok-flat-in-Tree+in-Object-1, in-Tree+in_ok-flat-in-Tree+in-Null-1}
use Rattle.cs_judge.proofs.text_judge.TextJudge.answer.Goals as goal

-- the list of the values is that of the tree
flattened : (text : List ℕ) (d e : Document) → e ≡ d → Reads text d → IsDocument d → IsReadAs text e
flattened text d e same read proper = (subst (Reads text) (sym same) read, subst IsDocument (sym same) proper)

pub returns-clause-verdict : goal.returns-clause-verdict
returns-clause-verdict c =
    let t = c.args.document.text.now in
    let numbers = subst₂ AreNumbersOf c.self.view_is refl c.self.invariant in
    let read = c.in_ok-flat.ensures in
    elim c.match-branch-2.branch [
      | in-Listed w ↦ rw (w.result-is, w.report-is) (w.verdict.ensures c.args.self.now t numbers (rw w.in-Listed.is at read.found, rw w.in-Listed.is at read.document))
      | in-Tree+in_ok-flat-in-Tree+in-Text-1 w ↦
          let is = flattened t _ _ w.in_ok-flat-in-Tree.ensures.found (rw w.in-Tree.is at read.found) (rw w.in-Tree.is at read.document) in
          rw (w.result-is, w.report-is) (w.verdict-in-Tree.ensures c.args.self.now t numbers is)
      | in-Tree+in_ok-flat-in-Tree+in-List-1 w ↦
          let is = flattened t _ _ w.in_ok-flat-in-Tree.ensures.found (rw w.in-Tree.is at read.found) (rw w.in-Tree.is at read.document) in
          rw (w.result-is, w.report-is) (w.verdict-in-Tree.ensures c.args.self.now t numbers is)
      | in-Tree+in_ok-flat-in-Tree+in-Object-1 w ↦
          let is = flattened t _ _ w.in_ok-flat-in-Tree.ensures.found (rw w.in-Tree.is at read.found) (rw w.in-Tree.is at read.document) in
          rw (w.result-is, w.report-is) (w.verdict-in-Tree.ensures c.args.self.now t numbers is)
      | in-Tree+in_ok-flat-in-Tree+in-Null-1 w ↦
          let is = flattened t _ _ w.in_ok-flat-in-Tree.ensures.found (rw w.in-Tree.is at read.found) (rw w.in-Tree.is at read.document) in
          rw (w.result-is, w.report-is) (w.verdict-in-Tree.ensures c.args.self.now t numbers is)
    ]
