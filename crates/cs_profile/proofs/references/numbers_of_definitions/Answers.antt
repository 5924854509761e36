use Rattle.std.proofs.Common.{◌≡◌, ◌++◌, [], ◌∷◌, ◌∙◌, map, string_bytes, sym, ap, append_assoc, append-nil}
use Rattle.std.specs.BTreeMap.{keys}
use Rattle.std.proofs.lemmas.Simd.{map-map}
use Rattle.cs_profile.specs.Numbered.{numbered}
use Rattle.cs_profile.proofs.Numbers.{numbered_next}
use Rattle.cs_profile.proofs.references.numbers_of_definitions.Goals as goal

pub loop-name-preserved : goal.loop-name-preserved
loop-name-preserved c =
    let l = c.loop-name in
    let done = l.invariant.done in
    let k = c.in-Some.name.now in
    let left = c.next.new.self in
    let all : keys c.args.definitions.now ≡ done ++ k ∷ left = l.invariant.all ∙ ap (λ ks. done ++ ks) c.in-Some.ensures.steps in record {
      done = done ++ k ∷ [];
      all = all ∙ sym (append_assoc done (k ∷ []) left);
      made = numbered_next (keys c.args.definitions.now) done left l.numbers.entries c.insert.new.self.entries k c.in_ok-clone.field-0 c.len-number.result
          c.keys-name-items.ensures.ordered all l.invariant.made c.in_ok-clone.ensures.cases c.len-number.ensures.len c.in_ok-insert.ensures.entries;
    }

pub returns-clause-all : goal.returns-clause-all
returns-clause-all c =
    let done = c.loop-name.invariant.done in
    let all : keys c.args.definitions.now ≡ done = c.loop-name.invariant.all ∙ ap (λ ks. done ++ ks) c.in-None.ensures.steps.0 ∙ append-nil done in
    c.loop-name.invariant.made ∙ ap (λ ks. numbered 0 (map string_bytes ks)) (sym all) ∙ ap (numbered 0) (map-map string_bytes (λ e. e.0) c.args.definitions.now.entries)
