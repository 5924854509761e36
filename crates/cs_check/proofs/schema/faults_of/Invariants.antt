use Rattle.std.proofs.Common.{◌≡◌, ◌≤◌, ◌-◌, [], length}
use Rattle.cs_document.specs.View.{doc_view}
use Rattle.cs_profile.specs.Profile.{IsSchema}
use Rattle.cs_check.specs.SchemaFaults.{AreDistinctFaults, BeginsWithFaultOf}
use Rattle.cs_check.proofs.schema.faults_of.Given as goal

-- before the first fault the document is as it was, and behind one it was no schema; none of the faults is there twice, and they are few
abbrev pub invariant-loop-flaw : goal.invariant-loop-flaw
invariant-loop-flaw l = record {
  begins : BeginsWithFaultOf l.fn.vocabulary (doc_view l.fn.doc) l.faults.items;
  distinct : AreDistinctFaults l.faults.items;
  few : length l.faults.items ≤ 50;
  whole : l.faults.items ≡ [] → doc_view l.doc ≡ doc_view l.fn.doc;
  refused : IsSchema l.fn.vocabulary (doc_view l.fn.doc) → l.faults.items ≡ [];
}

abbrev pub decreases-loop-flaw : goal.decreases-loop-flaw
decreases-loop-flaw l = 50 - length l.faults.items
