use Rattle.std.proofs.Common.{◌≡◌, ℕ, ◌+◌, ◌<◌, List, [], ◌∷◌, ◌++◌, length, get_or, take, take_all, sym, ap, ap₂, ◌∙◌, append_assoc}
use Rattle.std.specs.Prelude.{Vec}
use Rattle.std.specs.declared.alloc.Global.{Global}
use Rattle.std.proofs.lemmas.List.{take_more, flat_map_more}
use Rattle.cs_tool.specs.Runs.{line_of}
use Rattle.cs_compare.specs.Written.{lines_text}
use Rattle.cs_compare.proofs.documents.lines_of.Goals as goal

-- the next text and a newline, behind the lines of those before it
one_more : (ts : List (Vec ℕ Global)) (i : ℕ) (t : Vec ℕ Global) → i < length ts → t ≡ get_or ts i t
    → (lines_text (take i ts) ++ t.items) ++ 10 ∷ [] ≡ lines_text (take (i + 1) ts)
one_more ts i t within is =
    append_assoc (lines_text (take i ts)) t.items (10 ∷ [])
    ∙ flat_map_more (λ t. line_of t.items) [] (take i ts) t
    ∙ ap lines_text (sym (take_more ts i t within ∙ ap (λ x. take i ts ++ x ∷ []) (sym is)))

pub loop-text-preserved : goal.loop-text-preserved
loop-text-preserved c =
    let l = c.loop-text in
    c.in_ok-extend_from_slice-2.ensures.items
    ∙ ap (λ t. t ++ 10 ∷ []) (c.in_ok-extend_from_slice.ensures.items ∙ ap₂ (λ a b. a ++ b) l.invariant c.deref.ensures.value)
    ∙ one_more c.args.texts.now l.text-index c.text-item.result c.loop-text-test.true c.text-item.is

pub returns : goal.returns
returns c = c.loop-text.invariant ∙ ap lines_text (take_all c.loop-text.text-index c.args.texts.now c.loop-text-test.false)
