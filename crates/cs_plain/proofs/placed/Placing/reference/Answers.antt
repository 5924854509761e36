use Rattle.std.proofs.Common.{rules, ◌≡◌, IfOk, sym, ap, subst, ◌∙◌, string_bytes}
use Rattle.std.specs.Option.{option_map}
use Rattle.cs_grammar.specs.View.{expr_view}
use Rattle.cs_grammar.specs.Tree.{reference}
use Rattle.cs_grammar.proofs.Views.{view-Reference}
use Rattle.cs_plain.specs.Checks.{fitting}
use Rattle.cs_plain.proofs.Values.{put_there, stays_there}
use Rattle.cs_plain.proofs.placed.Placing.reference.Goals as goal

pub returns-in-Some : goal.returns-in-Some
returns-in-Some c value hides told =
    let s = string_bytes c.args.text.now in
    let there = sym (ap (option_map expr_view) c.in-Some.is) ∙ c.in_ok-value.ensures value hides told ∙ ap (λ n. fitting c.args.standing (value n)) c.deref.ensures in
    subst (λ e. IfOk c.shaped.result (λ f. expr_view f ≡ e)) (put_there c.args.standing s c.args.at (value s) (expr_view c.in-Some.value) there) c.shaped.ensures

pub returns-in_ok-text-in-None : goal.returns-in_ok-text-in-None
returns-in_ok-text-in-None c value hides told =
    let s = string_bytes c.args.text.now in
    let none = sym (ap (option_map expr_view) c.in-None.is) ∙ c.in_ok-value.ensures value hides told ∙ ap (λ n. fitting c.args.standing (value n)) c.deref.ensures in
    let same : string_bytes c.in_ok-text-in-None.text ≡ s = search (rules, c.in_ok-text-in-None.ensures) in
    view-Reference c.in_ok-text-in-None.text c.args.at ∙ ap (λ t. reference t c.args.at) same ∙ stays_there c.args.standing s c.args.at (value s) none
