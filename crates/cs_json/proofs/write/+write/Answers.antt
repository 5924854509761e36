use Rattle.std.proofs.Common.{◌≡◌, [], ◌∷◌, ◌++◌, List, drop, string_bytes, sym, ap, ◌∙◌, subst, append_assoc, ◌+◌}
use Rattle.std.proofs.lemmas.Result.{on_ok_weaker}
use Rattle.json.specs.Token.{Token, key}
use Rattle.json.specs.Tree.{json_tokens, items_tokens, members_tokens}
use Rattle.serde_json.specs.Written.{outline, items_outline, members_outline}
use Rattle.cs_document.specs.Document.{AreDocuments}
use Rattle.cs_json.specs.Texts.{data_of, items_of, values_of}
use Rattle.cs_document.specs.View.{doc_view, list_view, object_view}
use Rattle.cs_document.proofs.Maps.{drop_at, drop_past}
use Rattle.cs_document.proofs.Entries.{Entry, ValuesFit, AreMembers-of_sorted}
use Rattle.cs_json.proofs.write.+write.Goals as goal

-- a key's token, and those of its value, before the rest
after_key : (old ts rest : List Token) (k : Token) → ((old ++ k ∷ []) ++ ts) ++ rest ≡ old ++ k ∷ (ts ++ rest)
after_key old ts rest k = append_assoc (old ++ k ∷ []) ts rest ∙ append_assoc old (k ∷ []) (ts ++ rest)

pub write_items-loop-item-preserved : goal.write_items-loop-item-preserved
write_items-loop-item-preserved g t c =
    let l = c.loop-item in
    let xs = c.deref-item-items.result.now in
    let d = c.item-item.result in
    let w = c.in_ok-write.ensures in
    let rest = drop (l.item-index + 1) xs in
    let left : drop l.item-index xs ≡ d ∷ rest = drop_at xs l.item-index d c.loop-item-test.true c.item-item.is in record {
      before = c.write.ensures.before ∙ l.invariant.before;
      whole = ap (λ ts. ts ++ items_tokens (items_outline (items_of (list_view rest)))) w.tokens ∙ append_assoc (g.W.TakesTokens.taken l.out) _ _
          ∙ ap (λ ds. g.W.TakesTokens.taken l.out ++ items_tokens (items_outline (items_of (list_view ds)))) (sym left) ∙ l.invariant.whole;
      profile = λ more. l.invariant.profile (subst (λ ds. AreDocuments (list_view ds)) (sym left) (w.document, more));
    }

pub write_items-returns-clause-tokens : goal.write_items-returns-clause-tokens
write_items-returns-clause-tokens g t c =
    let l = c.loop-item in
    let none : drop l.item-index c.deref-item-items.result.now ≡ [] = drop_past c.deref-item-items.result.now l.item-index c.loop-item-test.false in
    on_ok_weaker c.take.result
    (λ e. e ∙ ap (λ ds. g.W.TakesTokens.taken l.out ++ items_tokens (items_outline (items_of (list_view ds)))) (sym none) ∙ l.invariant.whole
    ∙ ap (λ ds. g.W.TakesTokens.taken c.args.out.now ++ items_tokens (items_outline (items_of (list_view ds)))) c.deref-item-items.ensures.value)
    c.take.ensures.tokens

pub write_items-returns-clause-document : goal.write_items-returns-clause-document
write_items-returns-clause-document g t c =
    let l = c.loop-item in
    let none : drop l.item-index c.deref-item-items.result.now ≡ [] = drop_past c.deref-item-items.result.now l.item-index c.loop-item-test.false in
    let all = l.invariant.profile (subst (λ ds. AreDocuments (list_view ds)) (sym none) tt) in
    on_ok_weaker c.take.result (λ e. subst (λ ds. AreDocuments (list_view ds)) c.deref-item-items.ensures.value all) c.take.ensures.tokens

pub write_members-loop-key-preserved : goal.write_members-loop-key-preserved
write_members-loop-key-preserved g t c =
    let l = c.loop-key in
    let k = string_bytes c.in-Some.key.now in
    let e : Entry = (c.in-Some.key.now, c.in-Some.member.now) in
    let left : l.key-iterator ≡ e ∷ c.next.new.self = c.in-Some.ensures.steps in
    let w = c.in_ok-write.ensures in
    let rest = members_tokens (members_outline (values_of (object_view c.next.new.self))) in
    let named : g.W.TakesTokens.taken c.take.new.self ≡ g.W.TakesTokens.taken l.out ++ key k ∷ [] = c.in_ok-take.ensures.tokens ∙ ap (λ s. g.W.TakesTokens.taken l.out ++ key s ∷ []) c.as_str.ensures.value in record {
      before = c.write.ensures.before ∙ c.take.ensures.before ∙ l.invariant.before;
      whole = ap (λ ts. ts ++ rest) (w.tokens ∙ ap (λ ts. ts ++ json_tokens (outline (data_of (doc_view e.1)))) named) ∙ after_key (g.W.TakesTokens.taken l.out) _ rest (key k)
          ∙ ap (λ es. g.W.TakesTokens.taken l.out ++ members_tokens (members_outline (values_of (object_view es)))) (sym left) ∙ l.invariant.whole;
      fit = λ more. l.invariant.fit (subst ValuesFit (sym left) (w.document, more));
    }

pub write_members-returns-clause-tokens : goal.write_members-returns-clause-tokens
write_members-returns-clause-tokens g t c =
    let l = c.loop-key in
    on_ok_weaker c.take-2.result
    (λ e. e ∙ ap (λ es. g.W.TakesTokens.taken l.out ++ members_tokens (members_outline (values_of (object_view es)))) (sym c.in-None.ensures.steps.0) ∙ l.invariant.whole)
    c.take-2.ensures.tokens

pub write_members-returns-clause-document : goal.write_members-returns-clause-document
write_members-returns-clause-document g t c =
    let l = c.loop-key in
    let all = l.invariant.fit (subst ValuesFit (sym c.in-None.ensures.steps.0) tt) in
    on_ok_weaker c.take-2.result (λ e. AreMembers-of_sorted c.args.members.now.entries c.into_iter-key-iterator.ensures.into_iter_gives.5 all) c.take-2.ensures.tokens
