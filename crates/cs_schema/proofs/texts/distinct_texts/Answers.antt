use Rattle.std.proofs.Common.{◌≡◌, false, ◌+◌, [], ◌∷◌, ◌++◌, map, take, drop, string_bytes, bytes_eq, sym, ap, ◌∙◌}
use Rattle.std.proofs.lemmas.List.{map-append}
use Rattle.std.proofs.lemmas.Bool.{not-true}
use Rattle.std.specs.List.{list_any}
use Rattle.cs_document.specs.Document.{text}
use Rattle.cs_document.specs.View.{doc_view, list_view}
use Rattle.cs_document.proofs.Maps.{drop_at, take_at, map_more}
use Rattle.cs_profile.specs.Shapes.{are_distinct_texts}
use Rattle.cs_profile.specs.SchemaDocument.{text_document}
use Rattle.cs_schema.proofs.Seen.{has, has_more, one_more}
use Rattle.cs_schema.proofs.texts.distinct_texts.Goals as goal

pub loop-item-preserved : goal.loop-item-preserved
loop-item-preserved c =
    let l = c.loop-item in
    let xs = c.deref-item-items.result.now in
    let x = c.item-item.result in
    let t = c.in-Some.text in
    let name = c.in_ok-from_str.field-0 in
    let seen = map string_bytes l.texts.items in
    let left : drop l.item-index xs ≡ x ∷ drop (l.item-index + 1) xs = drop_at xs l.item-index x c.loop-item-test.true c.item-item.is in
    let new : list_any (bytes_eq t.now) seen ≡ false = sym (l.invariant.known t) ∙ not-true (has l.seen t) (sym c.in_ok-insert.ensures.added ∙ c.if-not-branch.false) in
    let more : map string_bytes c.push.new.self.items ≡ seen ++ t.now ∷ [] =
    ap (map string_bytes) c.in_ok-push.ensures.items ∙ map-append string_bytes l.texts.items (name ∷ []) ∙ ap (λ s. seen ++ s ∷ []) c.in_ok-from_str.ensures.ok in record {
      made = ap (map doc_view) (take_at xs l.item-index x c.loop-item-test.true c.item-item.is)
          ∙ map_more doc_view text_document (take l.item-index xs) l.texts.items x name l.invariant.made (c.in-Some.ensures.some ∙ ap text (sym c.in_ok-from_str.ensures.ok))
          ∙ ap (map text_document) (sym c.in_ok-push.ensures.items);
      distinct = l.invariant.distinct ∙ ap (λ es. are_distinct_texts seen (list_view es)) left
          ∙ one_more seen t.now (doc_view x) (list_view (drop (l.item-index + 1) xs)) c.in-Some.ensures.some new
          ∙ ap (λ ts. are_distinct_texts ts (list_view (drop (l.item-index + 1) xs))) (sym more);
      known = λ u. has_more l.seen c.insert.new.self seen t c.in_ok-insert.ensures.updates l.invariant.known u ∙ ap (list_any (bytes_eq u.now)) (sym more);
    }
