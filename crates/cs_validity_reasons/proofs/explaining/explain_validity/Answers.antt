use Rattle.std.proofs.Common.{◌≡◌, ◌<◌, ◌-◌, Bool, false, None, length, sym, ap, ap₂, ◌∙◌, subst, arith}
use Rattle.std.proofs.lemmas.Option.{slice_get_within, get_or_from_slice_get}
use Rattle.std.proofs.lemmas.Result.{err_from_is_err_and}
use Rattle.cs_document.specs.Document.{Document, boolean}
use Rattle.cs_flat.specs.Items.{inside}
use Rattle.cs_flat.specs.Listed.{values, document_in}
use Rattle.cs_flat.specs.Nodes.{node_at}
use Rattle.cs_profile.specs.Profile.{walk_fault}
use Rattle.cs_profile.specs.declared.keyword.Vocabulary.TheVariants as vocabulary
use Rattle.cs_profile.specs.Validity.{IsValidity}
use Rattle.cs_rules.specs.declared.book.Numbering.{Numbering}
use Rattle.cs_validity_reasons.specs.Required.{HasManyNames}
use Rattle.cs_table.specs.Judged.{verdicts}
use Rattle.cs_table.specs.Limit.{most_pairs}
use Rattle.cs_validity_reasons.specs.WhyTold.{IsToldWhy}
use Rattle.cs_validity_reasons.proofs.Explained.{table_over, explained}
use Rattle.cs_validity_reasons.proofs.NamesCounted.{pairs_are}
use Rattle.cs_validate.proofs.Verdicts.{judge_over, is_table, few_pairs, refused}
use Rattle.cs_validity_reasons.proofs.explaining.explain_validity.Goals as goal

pub get-requires-clause-rule : goal.get-requires-clause-rule
get-requires-clause-rule c =
    let s = c.book-root.result in
    let R = c.args.rules.now in
    let judge = judge_over R c.args.flat.now _ s.1 _ _ _ _ c.in_ok-judge.ensures.flat (ap (λ (u : Numbering _ _). u.rules.items) c.in_ok-judge.ensures.book) (ap (λ (u : Numbering _ _). u.children.items) c.in_ok-judge.ensures.book) c.book-root.ensures in
    let e = c.in_ok-refill.ensures in
    let t = is_table R c.args.flat.now s.1 _ _ _ judge c.len-last.ensures.items c.len-last.ensures.whole c.refill.new.done e.items e.rules e.count e.unique in
    let within = slice_get_within t.all s.1 R t.found in
    omega (arith, within, t.rule_count)

pub returns-then-get-clause-answer : goal.returns-then-get-clause-answer
returns-then-get-clause-answer c =
    let s = c.book-root.result in
    let R = c.args.rules.now in
    let xs = c.args.flat.now in
    let judge = judge_over R xs _ s.1 _ _ _ _ c.in_ok-judge.ensures.flat (ap (λ (u : Numbering _ _). u.rules.items) c.in_ok-judge.ensures.book) (ap (λ (u : Numbering _ _). u.children.items) c.in_ok-judge.ensures.book) c.book-root.ensures in
    let e = c.in_ok-refill.ensures in
    let t = is_table R xs s.1 _ _ _ judge c.len-last.ensures.items c.len-last.ensures.whole c.refill.new.done e.items e.rules e.count e.unique in
    let within = slice_get_within t.all s.1 R t.found in
    let last = c.len-last.result - 1 in
    let is : last ≡ inside (document_in xs) = omega (arith, c.len-last.ensures.count, c.len-last.ensures.inside) in
    let below : last < length xs = omega (arith, c.len-last.ensures.count, c.len-last.ensures.inside) in
    let same : node_at (values xs) last ≡ document_in xs = ap (node_at (values xs)) is ∙ c.len-last.ensures.last in
    λ V h. sym c.if-get.true ∙ c.get.ensures ∙ t.verdict V h last s.1 below within ∙ ap₂ V (get_or_from_slice_get t.all s.1 R (boolean false) t.found) same

pub returns-then-get-clause-why : goal.returns-then-get-clause-why
returns-then-get-clause-why c = λ V h. sym (returns-then-get-clause-answer c V h)

pub returns-then-get-clause-within : goal.returns-then-get-clause-within
returns-then-get-clause-within c =
    let s = c.book-root.result in
    let R = c.args.rules.now in
    let judge = judge_over R c.args.flat.now _ s.1 _ _ _ _ c.in_ok-judge.ensures.flat (ap (λ (u : Numbering _ _). u.rules.items) c.in_ok-judge.ensures.book) (ap (λ (u : Numbering _ _). u.children.items) c.in_ok-judge.ensures.book) c.book-root.ensures in
    few_pairs R c.args.flat.now s.1 _ _ _ judge c.len-last.ensures.items c.len-last.ensures.whole c.in_ok-refill.ensures.within

pub returns-then-has_many_names-clause-answer : goal.returns-then-has_many_names-clause-answer
returns-then-has_many_names-clause-answer c =
    let s = c.book-root.result in
    let R = c.args.rules.now in
    let xs = c.args.flat.now in
    let judge = judge_over R xs _ s.1 _ _ _ _ c.in_ok-judge.ensures.flat (ap (λ (u : Numbering _ _). u.rules.items) c.in_ok-judge.ensures.book) (ap (λ (u : Numbering _ _). u.children.items) c.in_ok-judge.ensures.book) c.book-root.ensures in
    let e = c.in_ok-refill.ensures in
    let t = is_table R xs s.1 _ _ _ judge c.len-last.ensures.items c.len-last.ensures.whole c.refill.new.done e.items e.rules e.count e.unique in
    let within = slice_get_within t.all s.1 R t.found in
    let last = c.len-last.result - 1 in
    let is : last ≡ inside (document_in xs) = omega (arith, c.len-last.ensures.count, c.len-last.ensures.inside) in
    let below : last < length xs = omega (arith, c.len-last.ensures.count, c.len-last.ensures.inside) in
    let same : node_at (values xs) last ≡ document_in xs = ap (node_at (values xs)) is ∙ c.len-last.ensures.last in
    λ V h. sym c.if-get.false ∙ c.get.ensures ∙ t.verdict V h last s.1 below within ∙ ap₂ V (get_or_from_slice_get t.all s.1 R (boolean false) t.found) same

pub returns-then-has_many_names-clause-within : goal.returns-then-has_many_names-clause-within
returns-then-has_many_names-clause-within c =
    let s = c.book-root.result in
    let R = c.args.rules.now in
    let judge = judge_over R c.args.flat.now _ s.1 _ _ _ _ c.in_ok-judge.ensures.flat (ap (λ (u : Numbering _ _). u.rules.items) c.in_ok-judge.ensures.book) (ap (λ (u : Numbering _ _). u.children.items) c.in_ok-judge.ensures.book) c.book-root.ensures in
    few_pairs R c.args.flat.now s.1 _ _ _ judge c.len-last.ensures.items c.len-last.ensures.whole c.in_ok-refill.ensures.within

pub returns-then-has_many_names-clause-why : goal.returns-then-has_many_names-clause-why
returns-then-has_many_names-clause-why c =
    let s = c.book-root.result in
    let xs = c.args.flat.now in
    let pairs = pairs_are c.args.rules.now (document_in xs) s.0.now.numbering.rules.items _ _ s.1 _ c.book-root.ensures c.deref.ensures.value (c.len.ensures.count ∙ c.len.ensures.whole) in
    let many : HasManyNames c.args.rules.now (document_in xs) = subst (λ n. most_pairs < n) pairs (c.has_many_names.ensures.0 c.if-has_many_names.true) in
    λ V h. (sym (returns-then-has_many_names-clause-answer c V h), many)

pub returns-clause-answer : goal.returns-clause-answer
returns-clause-answer c =
    let s = c.book-root.result in
    let R = c.args.rules.now in
    let xs = c.args.flat.now in
    let judge = judge_over R xs _ s.1 _ _ _ _ c.in_ok-judge.ensures.flat (ap (λ (u : Numbering _ _). u.rules.items) c.in_ok-judge.ensures.book) (ap (λ (u : Numbering _ _). u.children.items) c.in_ok-judge.ensures.book) c.book-root.ensures in
    let e = c.in_ok-refill.ensures in
    let t = is_table R xs s.1 _ _ _ judge c.len-last.ensures.items c.len-last.ensures.whole c.refill.new.done e.items e.rules e.count e.unique in
    let within = slice_get_within t.all s.1 R t.found in
    let last = c.len-last.result - 1 in
    let is : last ≡ inside (document_in xs) = omega (arith, c.len-last.ensures.count, c.len-last.ensures.inside) in
    let below : last < length xs = omega (arith, c.len-last.ensures.count, c.len-last.ensures.inside) in
    let same : node_at (values xs) last ≡ document_in xs = ap (node_at (values xs)) is ∙ c.len-last.ensures.last in
    λ V h. sym c.if-get.false ∙ c.get.ensures ∙ t.verdict V h last s.1 below within ∙ ap₂ V (get_or_from_slice_get t.all s.1 R (boolean false) t.found) same

pub returns-clause-within : goal.returns-clause-within
returns-clause-within c =
    let s = c.book-root.result in
    let R = c.args.rules.now in
    let judge = judge_over R c.args.flat.now _ s.1 _ _ _ _ c.in_ok-judge.ensures.flat (ap (λ (u : Numbering _ _). u.rules.items) c.in_ok-judge.ensures.book) (ap (λ (u : Numbering _ _). u.children.items) c.in_ok-judge.ensures.book) c.book-root.ensures in
    few_pairs R c.args.flat.now s.1 _ _ _ judge c.len-last.ensures.items c.len-last.ensures.whole c.in_ok-refill.ensures.within

pub told-requires : goal.told-requires
told-requires c =
    let s = c.book-root.result in
    let R = c.args.rules.now in
    let judge = judge_over R c.args.flat.now _ s.1 _ _ _ _ c.in_ok-judge.ensures.flat (ap (λ (u : Numbering _ _). u.rules.items) c.in_ok-judge.ensures.book) (ap (λ (u : Numbering _ _). u.children.items) c.in_ok-judge.ensures.book) c.book-root.ensures in
    let e = c.in_ok-refill.ensures in
    let t = is_table R c.args.flat.now s.1 _ _ _ judge c.len-last.ensures.items c.len-last.ensures.whole c.refill.new.done e.items e.rules e.count e.unique in
    let within = slice_get_within t.all s.1 R t.found in
    let rules : c.refill.new.done.rules ≡ length s.0.now.numbering.rules.items = e.rules ∙ ap (λ (u : Numbering _ _). length u.rules.items) c.in_ok-judge.ensures.book in
    record {
      item = omega (arith, c.len-last.ensures.count, c.len-last.ensures.inside);
      rule = omega (arith, within, t.rule_count, rules);
      refused = sym c.get.ensures ∙ c.if-get.false;
    }

pub returns-clause-why : goal.returns-clause-why
returns-clause-why c =
    let s = c.book-root.result in
    let R = c.args.rules.now in
    let xs = c.args.flat.now in
    let l = c.len-last.ensures in
    let f = verdicts c.refill.new.done in
    let only = table_over f c.in_ok-judge.judge.flat.now xs _ s.0.now.numbering.rules.items _ s.0.now.numbering.children.items c.in_ok-judge.ensures.flat (ap (λ (u : Numbering _ _). u.rules.items) c.in_ok-judge.ensures.book) (ap (λ (u : Numbering _ _). u.children.items) c.in_ok-judge.ensures.book) c.in_ok-refill.ensures.unique in
    let last = c.len-last.result - 1 in
    let is : last ≡ inside (document_in xs) = omega (arith, l.count, l.inside) in
    let below : last < length xs = omega (arith, l.count, l.inside) in
    let same : node_at (values xs) last ≡ document_in xs = ap (node_at (values xs)) is ∙ l.last in
    let pairs = pairs_are R (document_in xs) s.0.now.numbering.rules.items _ _ s.1 _ c.book-root.ensures c.deref.ensures.value (c.len.ensures.count ∙ c.len.ensures.whole) in
    let few : HasManyNames c.args.rules.now (document_in xs) → ⊥ = λ h.
    let found = c.has_many_names.ensures.1 (subst (λ n. most_pairs < n) (sym pairs) h) in
    let none = c.if-has_many_names.false in
    cc in
    let shaped = subst (λ D. walk_fault vocabulary.Wide D ≡ None) c.schema-schema.ensures c.whole_law.ensures.whole.profile.shaped in
    let told : (V : Document → Document → Bool) → IsValidity R V → IsToldWhy R V xs c.args.telling c.in_ok-named.named = λ V h.
    explained R xs s.1 s.0.now.numbering.rules.items s.0.now.numbering.children.items c.book-root.ensures l.items l.whole l.listed shaped f only last below same (sym c.get.ensures ∙ c.if-get.false)
    c.args.telling c.in_ok-reasons.reasons c.in_ok-named.named c.in_ok-named.ensures V h c.in_ok-reasons.ensures in
    λ V h. (sym (returns-clause-answer c V h), few, told V h)

pub returns-in_err-refill-clause-refused : goal.returns-in_err-refill-clause-refused
returns-in_err-refill-clause-refused c =
    let s = c.book-root.result in
    let R = c.args.rules.now in
    let judge = judge_over R c.args.flat.now _ s.1 _ _ _ _ c.in_ok-judge.ensures.flat (ap (λ (u : Numbering _ _). u.rules.items) c.in_ok-judge.ensures.book) (ap (λ (u : Numbering _ _). u.children.items) c.in_ok-judge.ensures.book) c.book-root.ensures in
    let r = refused R c.args.flat.now s.1 _ _ _ judge c.len-last.ensures.items c.len-last.ensures.whole in
    let p = err_from_is_err_and c.from_residual-in_err-refill.result c.from_residual-in_err-refill.ensures.1 in
    rw (p.1, p.2) (r c.in_err-refill.field-0.0 c.in_err-refill.ensures.refused)
