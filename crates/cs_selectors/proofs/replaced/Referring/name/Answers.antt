use Rattle.std.proofs.Common.{◌≡◌, map, ap, subst, ◌∙◌, IfOk, string_bytes}
use Rattle.std.specs.Option.{unwrap_or}
use Rattle.cs_grammar.specs.View.{selector_view}
use Rattle.cs_selectors.specs.Checks.{name_at, texts_at}
use Rattle.cs_selectors.proofs.replaced.Referring.name.Goals as goal

pub returns-in-Some : goal.returns-in-Some
returns-in-Some c by tells =
    let head = c.args.head.now in
    let ls = map selector_view c.args.labels.now in
    let giving = c.args.self.now.giving.now in
    let at = c.in-Some.ensures ∙ ap (λ p. name_at giving (texts_at p)) c.deref.ensures.value ∙ ap (name_at giving) c.in_ok-path.ensures in
    let is : c.in-Some.name.now ≡ by head ls = ap (λ o. unwrap_or o head) at ∙ tells head ls in
    subst (λ t. IfOk c.from_str.result (λ s. string_bytes s ≡ t)) is c.from_str.ensures.ok

pub returns : goal.returns
returns c by tells =
    let head = c.args.head.now in
    let ls = map selector_view c.args.labels.now in
    let giving = c.args.self.now.giving.now in
    let at = c.in-None.ensures ∙ ap (λ p. name_at giving (texts_at p)) c.deref.ensures.value ∙ ap (name_at giving) c.in_ok-path.ensures in
    let is : head ≡ by head ls = ap (λ o. unwrap_or o head) at ∙ tells head ls in
    subst (λ t. IfOk c.from_str-in-None.result (λ s. string_bytes s ≡ t)) is c.from_str-in-None.ensures.ok
