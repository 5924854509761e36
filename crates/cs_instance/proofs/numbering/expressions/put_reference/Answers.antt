use Rattle.std.proofs.Common.{◌≡◌, [], ◌∷◌, ◌++◌, ap, ◌∙◌, slice_index, rules}
use Rattle.cs_instance.proofs.Ready.{referring}
use Rattle.cs_instance.proofs.numbering.expressions.put_reference.Goals as goal

pub returns-in_ok-push-in-Some : goal.returns-in_ok-push-in-Some
returns-in_ok-push-in-Some c =
    let items : c.push.new.self.items ≡ c.in-Some.number.now ∷ [] = c.in_ok-push-in-Some.ensures.items ∙ ap (λ xs. xs ++ c.in-Some.number.now ∷ []) c.in_ok-parts-in-Some.ensures.items in
    let is : c.in-Some.number.now ≡ slice_index c.args.numbers.now c.args.i = search rules in
    let r = c.put-in-Some in
    referring r.result c.args.numbers.now c.args.numberer.now r.new.self c.push.new.self c.args.i c.in-Some.number.now r.ensures.number r.ensures.pending items is
