use Rattle.std.proofs.Common.{◌≡◌, ◌<◌, ◌≤◌, length, [], refl, sym, subst, arith}
use Rattle.std.proofs.lemmas.Grind.{common_steps}
use Rattle.cs_document.specs.View.{doc_view}
use Rattle.cs_profile.specs.Profile.{IsSchema}
use Rattle.cs_check.specs.SchemaFaults.{BeginsWithFaultOf}
use Rattle.cs_check.proofs.FaultLists.{begins_pushed, few_none, next_told, none_told, some_pushed}
use Rattle.cs_check.proofs.schema.faults_of.Goals as goal

pub loop-flaw-init : goal.loop-flaw-init
loop-flaw-init c =
    let none = c.new-faults.ensures.items in
    record {
      begins = subst (BeginsWithFaultOf c.args.vocabulary (doc_view c.args.doc)) (sym none) tt;
      distinct = none_told _ none;
      few = few_none _ none;
      whole = λ _. refl;
      refused = λ _. none;
    }

pub loop-flaw-preserved : goal.loop-flaw-preserved
loop-flaw-preserved c =
    let before = c.loop-flaw.faults.items in
    let after = c.push.new.self.items in
    let told = c.from-fault.result in
    let flaw = c.in-Err.flaw in
    let known = c.loop-flaw.invariant in
    let other = c.in_ok-mend.ensures in
    let pushed = c.in_ok-push.ensures.items in
    let short : length before < 50 = c.is_last.ensures.few c.if-is_last.false in
    let few : length after ≤ 50 = grind (arith, common_steps) in
    record {
      begins = begins_pushed c.args.vocabulary (doc_view c.args.doc) (doc_view c.loop-flaw.doc) before after told known.begins known.whole
          (record { flaw = flaw; is = c.from-fault.ensures; refused = c.in-Err.ensures.refused; other = other }) pushed;
      distinct = next_told before after told flaw known.distinct c.from-fault.ensures other (c.is_last.ensures.new c.if-is_last.false) pushed;
      few = few;
      whole = λ none. absurd (some_pushed before after told pushed none);
      refused = λ schema. absurd (other (c.in-Err.ensures.only (subst (IsSchema c.args.vocabulary) (sym (known.whole (known.refused schema))) schema)));
    }
