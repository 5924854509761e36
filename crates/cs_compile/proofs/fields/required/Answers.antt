use Rattle.std.proofs.Common.{◌≡◌, ℕ, List, [], ◌∷◌, ◌++◌, ◌+◌, map, filter, take, not, ◌&&◌, string_bytes, bytes_eq, sym, ap, ap₂, ◌∙◌, if◌then◌else◌, append-nil}
use Rattle.std.specs.List.{list_any}
use Rattle.std.proofs.Math.Bool.{and-true}
use Rattle.std.proofs.lemmas.List.{map-append, take_all}
use Rattle.cs_package.specs.View.{expression_of, mark_of}
use Rattle.cs_compile.specs.Grouped.{declared, declarations_at, is_asked}
use Rattle.cs_compile.specs.Translation.{schema_of, firsts, labelled, labels_of}
use Rattle.cs_compile.proofs.Every.{asked_labelled, labelled-more, labelled-same}
use Rattle.cs_compile.proofs.Parts.{declarations-more, listed-more, left-more}
use Rattle.cs_compile.proofs.fields.required.Goals as goal
use Rattle.cs_compile.proofs.fields.required.Goals.{then-remove+in_ok-clone+in_ok-push, else-remove}

pub loop-part-init : goal.loop-part-init
loop-part-init c = record {
  listed = λ ns. ap (map string_bytes) c.new-labels.ensures.items;
  left = λ ns k. c.in_ok-asked.ensures ns k ∙ sym (asked_labelled (declarations_at ns c.args.parts.now) k.now) ∙ sym (and-true _);
}

-- a `[string]` has no label
pub loop-part-preserved-then-is_every : goal.loop-part-preserved-then-is_every
loop-part-preserved-then-is_every c =
    let l = c.loop-part in
    let ps = c.args.parts.now in
    let p = c.part-item.result in
    let same : (ns : List (List ℕ)) → labelled (declarations_at ns (take (l.part-index + 1) ps)) ≡ labelled (declarations_at ns (take l.part-index ps)) = λ ns.
    ap labelled (declarations-more ns ps l.part-index p c.loop-part-test.true c.part-item.is)
    ∙ labelled-same (declarations_at ns (take l.part-index ps)) (declared (string_bytes p.label) (mark_of p.mark) (schema_of (expression_of ns p.value))) (sym c.is_every.ensures ∙ c.if-is_every.true) in record {
      listed = λ ns. l.invariant.listed ns ∙ ap (λ ds. filter (is_asked (labelled (declarations_at ns ps))) (firsts bytes_eq (labels_of ds))) (sym (same ns));
      left = λ ns k. l.invariant.left ns k ∙ ap (λ ds. is_asked (labelled (declarations_at ns ps)) k.now && not (list_any (bytes_eq k.now) (labels_of ds))) (sym (same ns));
    }

pub loop-part-preserved : goal.loop-part-preserved
loop-part-preserved c =
    let l = c.loop-part in
    let ps = c.args.parts.now in
    let p = c.part-item.result in
    let t = c.as_str.result in
    let passes = λ (ns : List (List ℕ)). is_asked (labelled (declarations_at ns ps)) in
    let seen = λ (ns : List (List ℕ)). labels_of (labelled (declarations_at ns (take l.part-index ps))) in
    let grown : (ns : List (List ℕ)) → labels_of (labelled (declarations_at ns (take (l.part-index + 1) ps))) ≡ seen ns ++ t.now ∷ [] = λ ns.
    let d = declared (string_bytes p.label) (mark_of p.mark) (schema_of (expression_of ns p.value)) in
    ap (λ ds. labels_of (labelled ds)) (declarations-more ns ps l.part-index p c.loop-part-test.true c.part-item.is)
    ∙ ap labels_of (labelled-more (declarations_at ns (take l.part-index ps)) d (sym c.is_every.ensures ∙ c.if-is_every.false))
    ∙ map-append (λ e. e.label) (labelled (declarations_at ns (take l.part-index ps))) (d ∷ [])
    ∙ ap (λ x. seen ns ++ x ∷ []) (sym c.as_str.ensures.value) in
    let pushed : map string_bytes c.if-remove.labels.items ≡ map string_bytes l.labels.items ++ (if c.remove.result then t.now ∷ [] else []) = elim c.if-remove.branch [
      | then-remove+in_ok-clone+in_ok-push w ↦
          ap (λ v. map string_bytes v.items) w.labels-is ∙ ap (map string_bytes) w.in_ok-push.ensures.items ∙ map-append string_bytes l.labels.items (w.in_ok-clone.field-0 ∷ [])
          ∙ ap (λ x. map string_bytes l.labels.items ++ x ∷ []) (w.in_ok-clone.ensures.cases ∙ sym c.as_str.ensures.value)
          ∙ ap (λ b. map string_bytes l.labels.items ++ (if b then t.now ∷ [] else [])) (sym w.if-remove.true)
      | else-remove w ↦
          ap (λ v. map string_bytes v.items) w.labels-is ∙ sym (append-nil _)
          ∙ ap (λ b. map string_bytes l.labels.items ++ (if b then t.now ∷ [] else [])) (sym w.if-remove.false)
    ] in record {
      listed = λ ns.
          let test : (passes ns t.now && not (list_any (bytes_eq t.now) (seen ns))) ≡ c.remove.result = sym (l.invariant.left ns t) ∙ sym c.remove.ensures.test in
          pushed ∙ ap₂ (λ ls b. ls ++ (if b then t.now ∷ [] else [])) (l.invariant.listed ns) (sym test)
          ∙ sym (listed-more (passes ns) (seen ns) t.now) ∙ ap (λ ls. filter (passes ns) (firsts bytes_eq ls)) (sym (grown ns));
      left = λ ns k.
          left-more l.asked c.remove.new.self (passes ns) (seen ns) t c.remove.ensures.updates (l.invariant.left ns) k
          ∙ ap (λ ls. passes ns k.now && not (list_any (bytes_eq k.now) ls)) (sym (grown ns));
    }

pub returns : goal.returns
returns c = λ ns.
    let l = c.loop-part in
    let ps = c.args.parts.now in
    l.invariant.listed ns ∙ ap (λ xs. filter (is_asked (labelled (declarations_at ns ps))) (firsts bytes_eq (labels_of (labelled (declarations_at ns xs))))) (take_all l.part-index ps c.loop-part-test.false)
