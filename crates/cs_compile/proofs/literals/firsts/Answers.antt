use Rattle.std.proofs.Common.{◌≡◌, ◌+◌, List, [], ◌∷◌, ◌++◌, map, take, get_or, Bool, true, false, not, sym, ap, ap₂, ◌∙◌, refl, subst, append-nil, if◌then◌else◌}
use Rattle.std.specs.List.{list_any}
use Rattle.std.proofs.lemmas.List.{map-append, take_more}
use Rattle.cs_document.specs.Document.{Document, document_eq}
use Rattle.cs_document.specs.Equality.{document_eq-laws}
use Rattle.cs_document.specs.View.{doc_view}
use Rattle.cs_compile.specs.Literals.{literal_view}
use Rattle.cs_compile.specs.Translation.{firsts}
use Rattle.cs_package.specs.declared.inside.Literal.TheVariants as variant
use Rattle.cs_compile.proofs.Firsts.{firsts-last}
use Rattle.cs_compile.proofs.SeenLiterals.{AreSeen, seen-more}
use Rattle.cs_compile.proofs.literals.firsts.Goals as goal
use Rattle.cs_compile.proofs.literals.firsts.Goals.{then-is_new+in_ok-document+in_ok-push, else-is_new}

pub loop-literal-init : goal.loop-literal-init
loop-literal-init c = record {
  listed = ap (map doc_view) c.new-firsts.ensures.items;
  seen = λ q. ap (list_any _) c.new-seen.ensures.empty;
}

unless : (b : Bool) (vs : List Document) → (if not b then vs else []) ≡ (if b then [] else vs)
unless true vs = refl
unless false vs = refl

pub loop-literal-preserved : goal.loop-literal-preserved
loop-literal-preserved c =
    let l = c.loop-literal in
    let xs = c.args.literals.now in
    let x = get_or xs l.literal-index variant.Null in
    let old = map literal_view (take l.literal-index xs) in
    let grown : map literal_view (take (l.literal-index + 1) xs) ≡ old ++ literal_view x ∷ [] =
    ap (map literal_view) (take_more xs l.literal-index variant.Null c.loop-literal-test.true) ∙ map-append literal_view (take l.literal-index xs) (x ∷ []) in
    let known : c.in_ok-is_new.is_new ≡ not (list_any (document_eq (literal_view x)) old) = c.in_ok-is_new.ensures.added ∙ ap not (l.invariant.seen x) in
    let pushed : map doc_view c.if-is_new.firsts.items ≡ map doc_view l.firsts.items ++ (if c.in_ok-is_new.is_new then literal_view x ∷ [] else []) = elim c.if-is_new.branch [
      | then-is_new+in_ok-document+in_ok-push w ↦
          ap (λ v. map doc_view v.items) w.firsts-is ∙ ap (map doc_view) w.in_ok-push.ensures.items ∙ map-append doc_view l.firsts.items (w.in_ok-document.field-0 ∷ [])
          ∙ ap (λ d. map doc_view l.firsts.items ++ d ∷ []) w.in_ok-document.ensures
          ∙ ap (λ b. map doc_view l.firsts.items ++ (if b then literal_view x ∷ [] else [])) (sym w.if-is_new.true)
      | else-is_new w ↦
          ap (λ v. map doc_view v.items) w.firsts-is ∙ sym (append-nil _)
          ∙ ap (λ b. map doc_view l.firsts.items ++ (if b then literal_view x ∷ [] else [])) (sym w.if-is_new.false)
    ] in record {
      listed =
          pushed ∙ ap₂ (λ ds b. ds ++ (if b then literal_view x ∷ [] else [])) l.invariant.listed known
          ∙ ap (λ ds. firsts document_eq old ++ ds) (unless (list_any (document_eq (literal_view x)) old) (literal_view x ∷ []))
          ∙ sym (firsts-last document_eq (document_eq-laws).symm old (literal_view x)) ∙ ap (firsts document_eq) (sym grown);
      seen = subst (AreSeen c.insert.new.self) (sym grown) (seen-more l.seen c.insert.new.self x old l.invariant.seen c.in_ok-is_new.ensures.updates);
    }
