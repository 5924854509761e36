use Rattle.std.proofs.Common.{rules, ◌≡◌, ◌≢◌, [], length, ap, ◌∙◌, arith}
use Rattle.std.proofs.lemmas.Grind.{common_steps}
use Rattle.std.specs.Option.{option_copied}
use Rattle.std.specs.Prelude.{slice_get}
use Rattle.cs_comments.specs.Comments.{comment_on}
use Rattle.cs_comments.specs.Views.{texts_of}
use Rattle.cs_comments.proofs.Runs.{up_to, looked, one_on, none_on, some_above}
use Rattle.cs_comments.proofs.texts.comments_at.Goals as goal
use Rattle.cs_comments.proofs.texts.comments_at.Goals.{then-is_empty+in-Some+in_ok-push, else-is_empty, else-is_empty-via-else-is_empty, else-is_empty-via-then-is_empty+in-None-1}

pub returns : goal.returns
returns c =
    let ls = c.args.lines.now in
    let i = c.args.at in
    let found = c.in_ok-comments.comments.items in
    let here = comment_on (slice_get ls i) in
    let up = up_to found ls i c.min.result c.min.ensures c.in_ok-comments.ensures in
    elim c.if-is_empty.branch [
      | then-is_empty+in-Some+in_ok-push w ↦
          let none : length found ≡ 0 = grind (arith, common_steps) in
          let one = w.in-Some.ensures ∙ ap comment_on (looked ls i w.get.result w.get.ensures.lookup) in
          ap (λ v. texts_of v.items) w.comments-is ∙ ap texts_of w.in_ok-push.ensures.items ∙ one_on found w.in-Some.comment _ here up none one
      | else-is_empty w ↦
          ap (λ v. texts_of v.items) w.comments-is ∙ (elim w.else-is_empty.branch [
            | else-is_empty-via-else-is_empty w' ↦
                let some : length found ≢ 0 = grind (arith, common_steps) in
                some_above found _ here up some
            | else-is_empty-via-then-is_empty+in-None-1 w' ↦
                let none : length found ≡ 0 = grind (arith, common_steps) in
                let nothing : [] ≡ comment_on (option_copied w'.get.result) = search rules in
                none_on found _ here up none (nothing ∙ ap comment_on (looked ls i w'.get.result w'.get.ensures.lookup))
          ])
    ]
