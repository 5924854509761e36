use Rattle.std.proofs.Common.{◌≡◌, [], ◌∷◌, ◌++◌, string_bytes, string_cmp, sym, ap, ◌∙◌, subst, append_assoc}
use Rattle.std.specs.List.Sorted.{IsStrictlySortedBy}
use Rattle.std.specs.Map.{keys_of}
use Rattle.cs_document.specs.View.{object_view}
use Rattle.cs_document.proofs.Maps.{texts, insert_last, texts_more}
use Rattle.cs_document.proofs.Entries.{Entry, object_view-push}
use Rattle.cs_document.proofs.copy.+copy.Goals as goal

pub copy_members-loop-key-preserved : goal.copy_members-loop-key-preserved
copy_members-loop-key-preserved t c =
    let l = c.loop-key in
    let done = l.invariant.done in
    let e : Entry = (c.in-Some.key.now, c.in-Some.member.now) in
    let left = c.next.new.self in
    let name = c.in_ok-name.name in
    let v = c.in_ok-value.value in
    let all : c.args.members.now.entries ≡ done ++ e ∷ left = l.invariant.all ∙ ap (λ es. done ++ es) c.in-Some.ensures.steps in
    let named : string_bytes name ≡ string_bytes e.0 = c.in_ok-name.ensures.cases in
    let sorted = subst (λ es. IsStrictlySortedBy string_cmp (keys_of es)) all c.into_iter-key-iterator.ensures.into_iter_gives.5 in
    let grown : c.insert.new.self.entries ≡ l.copies.entries ++ (name, v) ∷ [] = c.in_ok-insert.ensures.entries ∙ insert_last l.copies.entries done e left name v l.invariant.same named sorted in record {
      done = done ++ e ∷ [];
      all = all ∙ sym (append_assoc done (e ∷ []) left);
      same = ap texts grown ∙ texts_more l.copies.entries done e name v l.invariant.same named;
      values = ap object_view grown ∙ object_view-push l.copies.entries done name v e l.invariant.values named c.in_ok-value.ensures;
    }
