use Rattle.std.proofs.Common.{◌≡◌, ◌<◌, ◌-◌, Bool, false, length, ap, ap₂, ◌∙◌, subst, arith}
use Rattle.std.proofs.lemmas.Option.{slice_get_within, get_or_from_slice_get}
use Rattle.std.proofs.lemmas.Result.{err_from_is_err_and}
use Rattle.cs_document.specs.Document.{Document, boolean}
use Rattle.cs_flat.specs.Items.{inside}
use Rattle.cs_flat.specs.Listed.{values, document_in}
use Rattle.cs_flat.specs.Nodes.{node_at}
use Rattle.cs_profile.specs.SchemaDocument.{document_of}
use Rattle.cs_profile.specs.Validity.{IsValidity}
use Rattle.cs_rules.specs.declared.book.Numbering.{Numbering}
use Rattle.cs_validate.specs.Rules.{HasManyPairs}
use Rattle.cs_validate.specs.Refusal.{IsRefusal}
use Rattle.cs_validate.proofs.Verdicts.{judge_over, is_table, few_pairs, refused}
use Rattle.cs_validate.proofs.numbered.SchemaRules.verdict.Goals as goal

pub get-requires-clause-rule : goal.get-requires-clause-rule
get-requires-clause-rule c =
    let s = c.self.inside in
    let R = document_of s.schema.now in
    let judge = judge_over R c.args.flat.now _ s.root _ _ _ _ c.in_ok-judge.ensures.flat (ap (λ (u : Numbering _ _). u.rules.items) c.in_ok-judge.ensures.book) (ap (λ (u : Numbering _ _). u.children.items) c.in_ok-judge.ensures.book) c.self.invariant in
    let e = c.in_ok-refill.ensures in
    let t = is_table R c.args.flat.now s.root _ _ _ judge c.len-last.ensures.items c.len-last.ensures.whole c.refill.new.done e.items e.rules e.count e.unique in
    let within = slice_get_within t.all s.root R t.found in
    omega (arith, within, t.rule_count)

pub returns-clause-answer : goal.returns-clause-answer
returns-clause-answer c =
    let s = c.self.inside in
    let R = document_of s.schema.now in
    let xs = c.args.flat.now in
    let judge = judge_over R xs _ s.root _ _ _ _ c.in_ok-judge.ensures.flat (ap (λ (u : Numbering _ _). u.rules.items) c.in_ok-judge.ensures.book) (ap (λ (u : Numbering _ _). u.children.items) c.in_ok-judge.ensures.book) c.self.invariant in
    let e = c.in_ok-refill.ensures in
    let t = is_table R xs s.root _ _ _ judge c.len-last.ensures.items c.len-last.ensures.whole c.refill.new.done e.items e.rules e.count e.unique in
    let within = slice_get_within t.all s.root R t.found in
    let last = c.len-last.result - 1 in
    let is : last ≡ inside (document_in xs) = omega (arith, c.len-last.ensures.count, c.len-last.ensures.inside) in
    let below : last < length xs = omega (arith, c.len-last.ensures.count, c.len-last.ensures.inside) in
    let same : node_at (values xs) last ≡ document_in xs = ap (node_at (values xs)) is ∙ c.len-last.ensures.last in
    subst (λ (D : Document). (V : Document → Document → Bool) → IsValidity D V → c.get.result ≡ V D (document_in xs)) c.self.view_is
    (λ V h. c.get.ensures ∙ t.verdict V h last s.root below within ∙ ap₂ V (get_or_from_slice_get t.all s.root R (boolean false) t.found) same)

pub returns-clause-within : goal.returns-clause-within
returns-clause-within c =
    let s = c.self.inside in
    let R = document_of s.schema.now in
    let judge = judge_over R c.args.flat.now _ s.root _ _ _ _ c.in_ok-judge.ensures.flat (ap (λ (u : Numbering _ _). u.rules.items) c.in_ok-judge.ensures.book) (ap (λ (u : Numbering _ _). u.children.items) c.in_ok-judge.ensures.book) c.self.invariant in
    subst (λ (D : Document). HasManyPairs D (document_in c.args.flat.now) → ⊥) c.self.view_is
    (few_pairs R c.args.flat.now s.root _ _ _ judge c.len-last.ensures.items c.len-last.ensures.whole c.in_ok-refill.ensures.within)

pub returns-in_err-refill-clause-refused : goal.returns-in_err-refill-clause-refused
returns-in_err-refill-clause-refused c =
    let s = c.self.inside in
    let R = document_of s.schema.now in
    let judge = judge_over R c.args.flat.now _ s.root _ _ _ _ c.in_ok-judge.ensures.flat (ap (λ (u : Numbering _ _). u.rules.items) c.in_ok-judge.ensures.book) (ap (λ (u : Numbering _ _). u.children.items) c.in_ok-judge.ensures.book) c.self.invariant in
    let r = refused R c.args.flat.now s.root _ _ _ judge c.len-last.ensures.items c.len-last.ensures.whole in
    let p = err_from_is_err_and c.from_residual-in_err-refill.result c.from_residual-in_err-refill.ensures.1 in
    rw (p.1, p.2) (subst (λ (D : Document). IsRefusal c.in_err-refill.field-0.0 D (document_in c.args.flat.now)) c.self.view_is (r c.in_err-refill.field-0.0 c.in_err-refill.ensures.refused))
