use Rattle.std.proofs.Common.{◌≡◌, ◌≤◌, true, List, ℕ, string_bytes, unwrap_or, ap, ap₂, ◌∙◌, subst, arith}
use Rattle.std.proofs.lemmas.Result.{err_from_is_err_and}
use Rattle.cs_grammar.specs.Height.{height}
use Rattle.cs_grammar.specs.Limits.{most_height}
use Rattle.cs_grammar.specs.Tree.{definition}
use Rattle.cs_grammar.specs.View.{expr_view}
use Rattle.cs_embeddings.proofs.FileParts.{value_is, clashes_are, definition_clashes}
use Rattle.cs_embeddings.specs.GatheredTable.{gathered_view}
use Rattle.cs_embeddings.specs.Joined.{joined_with, joined_value}
use Rattle.cs_embeddings.specs.Made.{IsNoRoom, IsMade}
use Rattle.cs_embeddings.specs.Size.{size}
use Rattle.cs_embeddings.proofs.files.joined_definition.Goals as goal

pub returns-in_err-body : goal.returns-in_err-body
returns-in_err-body c ds tells well sound embeds =
    let p = err_from_is_err_and c.from_residual-in_err-body.result c.from_residual-in_err-body.ensures.1 in
    let k = c.args.kept.now in let whole = joined_with ds (joined_value ds most_height) true k.place (gathered_view k.standing).value in
    let e = c.in_err-body.field-0.0 in let file = c.args.joiner.file in let nodes = c.args.nodes.now in
    let within : most_height ≤ most_height = omega arith in
    rw (p.1, p.2)
    (subst (λ t. IsNoRoom e file most_height nodes (height t) (size t) (definition_clashes ds k)) (value_is ds k)
    (subst (λ (cs : List ℕ). IsNoRoom e file most_height nodes (height whole) (size whole) cs) (clashes_are ds k)
    (c.in_err-body.ensures ds most_height tells well sound embeds within)))

pub returns : goal.returns
returns c ds tells well sound embeds =
    let k = c.args.kept.now in let d = gathered_view k.standing in let whole = joined_with ds (joined_value ds most_height) true k.place d.value in
    let nodes = c.args.nodes.now in let rest = c.joined_standing.new.nodes in let x = expr_view c.in_ok-body.body in
    let within : most_height ≤ most_height = omega arith in
    let name : string_bytes c.in_ok-name.name ≡ d.label.text = c.in_ok-name.ensures.ok ∙ c.label.ensures in
    let place : c.unwrap_or-at.result ≡ unwrap_or d.place 0 = c.unwrap_or-at.ensures ∙ ap (λ p. unwrap_or p 0) c.place.ensures in
    let h =
    subst (λ t. IsMade most_height nodes rest (height t) (size t) x t (definition_clashes ds k)) (value_is ds k)
    (subst (λ (cs : List ℕ). IsMade most_height nodes rest (height whole) (size whole) x whole cs) (clashes_are ds k)
    (c.in_ok-body.ensures ds most_height tells well sound embeds within)) in
    record { made = ap₂ (λ s (o : ℕ). definition s o x) name place ∙ ap (definition d.label.text (unwrap_or d.place 0)) h.made; low = h.low; left = h.left; apart = h.apart }
