use Rattle.std.proofs.Common.{◌≡◌, ◌++◌, reverse, take}
use Rattle.cs_comments.specs.Comments.{above}
use Rattle.cs_comments.specs.Views.{texts_of}
use Rattle.cs_comments.proofs.texts.above.Given as goal

-- the comments so far are the nearest ones, and those above them are still to come
abbrev pub invariant-loop-place : goal.invariant-loop-place
invariant-loop-place l = above (reverse l.lines) ≡ above (reverse (take l.place l.lines)) ++ reverse (texts_of l.comments.items)
