use Rattle.std.proofs.Common.{◌≡◌, ◌+◌, ◌-◌, ◌/◌, ◌<◌, length, arith}
use Rattle.cs_embeddings.proofs.Left.{weight_above, weight_pushed}
use Rattle.cs_embeddings.proofs.found.Found.push.Goals as goal

pub returns-then-weight-saturating_sub : goal.returns-then-weight-saturating_sub
returns-then-weight-saturating_sub c =
    let f = c.args.self.now in
    let a = c.args.alternative in
    let counted : c.len.result ≡ length a.declarations.items = omega (arith, a.declarations.ok.0) in
    let above : c.args.room - f.weight < c.len.result / 64 + 1 = omega arith in
    weight_above f.alternatives.items a c.args.room f.weight c.len.result above f.weighed counted

pub invariant_of-self-2 : goal.invariant_of-self-2
invariant_of-self-2 c =
    let f = c.args.self.now in
    let a = c.args.alternative in
    let counted : c.len.result ≡ length a.declarations.items = omega (arith, a.declarations.ok.0) in
    record { weighed = weight_pushed f.alternatives.items c.push.new.self.items a f.weight c.len.result c.in_ok-push.ensures.items f.weighed counted }
