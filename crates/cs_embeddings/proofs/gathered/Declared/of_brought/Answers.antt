use Rattle.std.proofs.Common.{List, ℕ, sym, ap, ◌∙◌}
use Rattle.cs_grammar.specs.Tree.{Label}
use Rattle.cs_grammar.specs.View.{expr_view}
use Rattle.cs_grammar.proofs.Views.{view-label}
use Rattle.cs_embeddings.specs.Alternatives.{Brought}
use Rattle.cs_embeddings.proofs.gathered.Declared.of_brought.Goals as goal

pub returns-clause-seen : goal.returns-clause-seen
returns-clause-seen c =
    let b = c.args.brought in let f = b.field.now in
    ap (λ (s : List ℕ). let d : Brought = record { label = record { text = s; quotes = f.quoted; asked = f.asked; scoped = f.scoped }; mark = f.mark; value = expr_view f.value; place = b.place; embedding = b.embedding } in d)
    c.as_str.ensures.value
    ∙ ap (λ (l : Label). let d : Brought = record { label = l; mark = f.mark; value = expr_view f.value; place = b.place; embedding = b.embedding } in d) (sym (view-label f))
