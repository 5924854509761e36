use Rattle.std.proofs.Common.{◌≡◌, Bool, true, false, ◌||◌, ◌&&◌, cond, ap, sym, ◌∙◌, string_bytes}
use Rattle.std.proofs.lemmas.Map.Text.{btree_set_updates_text}
use Rattle.std.specs.BTreeSet as sorted
use Rattle.std.specs.Str.{bytes_eq}
use Rattle.cs_plain.proofs.Texts.{or_nothing, or_true}
use Rattle.cs_names.specs.Lifted.{is_open_origin}
use Rattle.cs_names.proofs.lifting.add_unclosed.Goals as goal

by_name : (old b : Bool) → cond b true old ≡ (old || b)
by_name old true = sym (or_true old)
by_name old false = sym (or_nothing old)

pub returns-in_ok-insert-in-Unclosed : goal.returns-in_ok-insert-in-Unclosed
returns-in_ok-insert-in-Unclosed c s =
    let n = string_bytes c.args.name.now in
    let old = sorted.contains_text c.args.unclosed.now s in
    btree_set_updates_text (string_bytes c.in_ok-clone-in-Unclosed.field-0) c.args.unclosed.now c.insert.new.self _ c.in_ok-insert-in-Unclosed.ensures.updates s
    ∙ ap (λ m. cond (bytes_eq m s) true old) c.in_ok-clone-in-Unclosed.ensures.cases
    ∙ by_name old (bytes_eq n s)
    ∙ ap (λ o. old || (is_open_origin o && bytes_eq n s)) (sym c.in-Unclosed.is)
