use Rattle.std.proofs.Common.{◌≡◌, ◌∷◌, codes, bytes_eq, refl, sym, ap, ◌∙◌, subst, if◌then◌else◌}
use Rattle.cs_document.specs.View.{doc_view}
use Rattle.cs_document.proofs.Entries.{Entry}
use Rattle.cs_describe.specs.Described.{described_map, described_root}
use Rattle.cs_describe.proofs.Joined.{IsMade, made_more}
use Rattle.cs_describe.proofs.describe.describe_root.Goals as goal

pub loop-key-preserved : goal.loop-key-preserved
loop-key-preserved c =
    let w = c.args.note in
    let l = c.loop-key in
    let all = c.args.members.entries in
    let left = c.next.new.self in
    let key = c.in-Some.key in
    let v = c.in-Some.value in
    let d = c.in_ok-value.value in
    let notes = c.args.notes.now.entries in
    let e : Entry = (key, v) in
    let steps : l.key-iterator ≡ e ∷ left = c.in-Some.ensures.steps in
    let m = subst (λ es. IsMade (described_root w notes) all es l.found.entries) steps l.invariant in
    let is = c.in_ok-value.ensures ∙ ap (λ n. if bytes_eq n (codes "$defs") then described_map w notes (doc_view v) else doc_view v) c.as_str.ensures.value in
    subst (IsMade (described_root w notes) all left) (sym c.in_ok-insert.ensures.entries)
    (made_more (described_root w notes) (λ k v. if bytes_eq k (codes "$defs") then described_map w notes v else v) refl (λ k v ms. refl) all left l.found.entries key d v c.into_iter-key-iterator.ensures.into_iter_gives.5 m is)
