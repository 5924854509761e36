use Rattle.std.proofs.Common.{is_ok, sym, ap, ◌∙◌, arith}
use Rattle.std.specs.Str.{bytes_eq}
use Rattle.std.proofs.Math.Logic.{∥∥₁_elim}
use mathlib.Core.Bool.{Bool-set}
use Rattle.cs_instance.proofs.Allowed.{by_mark, by_label, by_place}
use Rattle.cs_instance.proofs.fields.Fields.allow.Goals as goal

pub returns-then-self : goal.returns-then-self
returns-then-self c =
    let f = c.args.self.now in
    ∥∥₁_elim f.keys (Bool-set _ _) (λ keys. sym c.if-self.true ∙ by_mark c.args.key.now f.all.items f.labels.items f.every keys c.if-self.true)

pub returns-then-eq : goal.returns-then-eq
returns-then-eq c =
    let f = c.args.self.now in
    ∥∥₁_elim f.keys (Bool-set _ _) (λ keys. by_place c.args.key.now f.all.items f.labels.items f.every keys c.args.next.now c.index.result.now c.if-self.false (let n = c.len.ensures in let l = c.if-next-len.true in omega (arith, n, l)) (ap (λ t. bytes_eq c.args.key.now t.now) (sym c.index.ensures) ∙ sym c.eq.ensures ∙ c.if-eq.true))

pub returns-in-Ok : goal.returns-in-Ok
returns-in-Ok c =
    let f = c.args.self.now in
    let r = c.binary_search in
    ∥∥₁_elim f.keys (Bool-set _ _)
    (λ keys. sym (ap is_ok c.in-Ok.is) ∙ by_label c.args.key.now f.all.items f.labels.items f.every keys c.deref.result.now r.result c.if-self.false c.deref.ensures.value r.ensures.bound r.ensures.position)

pub returns-in-Err : goal.returns-in-Err
returns-in-Err c =
    let f = c.args.self.now in
    let r = c.binary_search in
    ∥∥₁_elim f.keys (Bool-set _ _)
    (λ keys. sym (ap is_ok c.in-Err.is) ∙ by_label c.args.key.now f.all.items f.labels.items f.every keys c.deref.result.now r.result c.if-self.false c.deref.ensures.value r.ensures.bound r.ensures.position)
