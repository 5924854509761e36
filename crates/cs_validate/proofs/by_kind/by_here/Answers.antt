use Rattle.std.proofs.Common.{subst}
use Rattle.std.specs.List.{list_all}
use Rattle.cs_rules.specs.Kinds.{verdict_of, Decides}
use Rattle.cs_validate.specs.Asked.{asks_alternative}
use Rattle.cs_validate.proofs.ByKind.{and_decides, as_equal, reference_decides, negation_decides}
use Rattle.cs_validate.proofs.by_kind.by_here.Goals as goal

pub returns : goal.returns
returns c = λ x here h.
    let k = c.args.conjunction.now in
    let earlier = c.args.earlier.now in
    let named = as_equal _ _ _ (c.by_reference.ensures x) (reference_decides earlier x here h k) in
    let all = subst (λ rs. Decides (verdict_of c.all.result x) (list_all here rs)) c.deref.ensures.value (c.all.ensures.decides x here h) in
    let any = subst (λ rs. Decides (verdict_of c.by_alternatives.result x) (asks_alternative here rs)) c.deref-2.ensures.value (c.by_alternatives.ensures x here h) in
    let negated = as_equal _ _ _ (c.by_negation.ensures x) (negation_decides earlier x here h k.negated) in
    and_decides _ _ _ _ _ (c.and-3.ensures x) (and_decides _ _ _ _ _ (c.and-2.ensures x) (and_decides _ _ _ _ _ (c.and.ensures x) named all) any) negated
