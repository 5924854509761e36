use Rattle.std.proofs.Common.{Some, None, ◌∙◌, sym, ap, option_map, append-nil}
use Rattle.cs_profile.proofs.Pushes.{pushed_named}
use Rattle.cs_profile.proofs.references.push_named.Goals as goal

pub returns-in_ok-push : goal.returns-in_ok-push
returns-in_ok-push c =
    pushed_named c.args.numbers.now.entries c.args.found.now.items c.push.new.self.items c.args.reference.now c.in-Some.name c.as_str.result.now (Some c.in-Some-get.number.now)
    c.in-Some.is c.as_str.ensures.value (sym (ap (option_map (λ x. x.now)) c.in-Some-get.is) ∙ c.get.ensures.value) c.in_ok-push.ensures.items

pub returns-in_default-get : goal.returns-in_default-get
returns-in_default-get c =
    pushed_named c.args.numbers.now.entries c.args.found.now.items c.args.found.now.items c.args.reference.now c.in-Some.name c.as_str.result.now None
    c.in-Some.is c.as_str.ensures.value (sym (ap (option_map (λ x. x.now)) c.in_default-get.is) ∙ c.get.ensures.value) (sym (append-nil c.args.found.now.items))
