use Rattle.std.proofs.Common.{ℕ, List, [], ◌∷◌, ap, ◌∙◌}
use Rattle.std.specs.List.{join_by}
use Rattle.cs_comments.specs.Comments.{some_text}
use Rattle.cs_comments.specs.Views.{texts_of}
use Rattle.cs_comments.proofs.Runs.{joined}
use Rattle.cs_comments.proofs.texts.text_at.Goals as goal

pub returns : goal.returns
returns c =
    let join : List (List ℕ) → List ℕ = join_by (λ t. t) (10 ∷ []) in
    c.some_text.ensures ∙ ap some_text (c.in_ok-join.ensures.ok ∙ joined (10 ∷ []) c.deref.result.now ∙ ap (λ ts. join (texts_of ts)) c.deref.ensures.value ∙ ap join c.in_ok-comments.ensures)
