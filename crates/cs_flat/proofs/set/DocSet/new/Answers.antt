use Rattle.std.proofs.Common.{rules, FitsSigned, w64, ◌≡◌, ℕ, ◌+◌, ◌<◌, List, ◌∷◌, [], ◌++◌, length, take, get_or, map, sym, ap, ◌∙◌, subst, arith}
use Rattle.std.specs.List.{flat_map}
use Rattle.std.specs.List.Sorted.{IsPermutation}
use Rattle.std.specs.Option.{option_map_or}
use Rattle.std.proofs.lemmas.Grind.{flat_map-append}
use Rattle.std.proofs.lemmas.Int.{to_z-of_z}
use Rattle.std.proofs.lemmas.List.{append-nil, map-append, take_all, take_more}
use Rattle.std.proofs.lemmas.List.Sorted.{IsPermutation-map}
use Rattle.cs_document.specs.Document.{Document}
use Rattle.cs_flat.specs.Sorted.{integer_in, other_in, hashed, seen}
use Rattle.cs_document.specs.View.{doc_view}
use Rattle.cs_document.specs.declared.doc.Doc.{Doc}
use Rattle.cs_flat.proofs.set.DocSet.new.Goals.{in-Some+in_ok-push-in-Some, in-None+in_ok-push-in-None}
use Rattle.cs_flat.proofs.set.DocSet.new.Goals as goal

-- what the document at i adds
more : {A : Type 0} (f : Document → List A) (docs : List Doc) (i : ℕ) (d : Doc) (xs ys : List A) → i < length docs → d ≡ get_or docs i d → xs ≡ flat_map f (map doc_view (take i docs))
    → f (doc_view d) ≡ ys → xs ++ ys ≡ flat_map f (map doc_view (take (i + 1) docs))
more f docs i d xs ys l at before added =
    let done = map doc_view (take i docs) in
    let last = doc_view (get_or docs i d) in
    let parts = ap (λ ds. flat_map f (map doc_view ds)) (take_more docs i d l) ∙ ap (flat_map f) (map-append doc_view (take i docs) (get_or docs i d ∷ [])) ∙ flat_map-append f done (last ∷ []) in
    let end = append-nil (f last) ∙ ap (λ e. f (doc_view e)) (sym at) ∙ added in
    sym (parts ∙ ap (λ zs. flat_map f done ++ zs) end ∙ ap (λ zs. zs ++ ys) (sym before))

pub loop-doc-preserved : goal.loop-doc-preserved
loop-doc-preserved c =
    let docs = c.args.docs.now in
    let i = c.loop-doc.doc-index in
    let x = c.doc-item.result in
    let d = doc_view x in
    let zs = c.loop-doc.integers.items in
    let es = c.loop-doc.others.items in
    let inv = c.loop-doc.invariant in
    elim c.match-integer.branch [
      | in-Some+in_ok-push-in-Some w ↦ (
          let is = sym c.integer.ensures ∙ w.in-Some.is in
          let fits : FitsSigned w64 w.in-Some.n = search rules in record {
            integers = ap (λ v. v.items) w.integers-is ∙ w.in_ok-push-in-Some.ensures.items ∙ ap (λ z. zs ++ z ∷ []) (to_z-of_z w64 w.in-Some.n fits)
                ∙ more integer_in docs i x zs (w.in-Some.n ∷ []) c.loop-doc-test.true c.doc-item.is inv.integers (ap (λ o. option_map_or (λ z. z ∷ []) o []) is);
            others = ap (λ v. map seen v.items) w.others-is ∙ sym (append-nil (map seen es))
                ∙ more other_in docs i x (map seen es) [] c.loop-doc-test.true c.doc-item.is inv.others (ap (λ o. option_map_or (λ z. []) o (hashed d ∷ [])) is);
          })
      | in-None+in_ok-push-in-None w ↦ (
          let is = sym c.integer.ensures ∙ w.in-None.is in record {
            integers = ap (λ v. v.items) w.integers-is ∙ sym (append-nil zs)
                ∙ more integer_in docs i x zs [] c.loop-doc-test.true c.doc-item.is inv.integers (ap (λ o. option_map_or (λ z. z ∷ []) o []) is);
            others = ap (λ v. map seen v.items) w.others-is ∙ ap (map seen) w.in_ok-push-in-None.ensures.items ∙ map-append seen es _
                ∙ more other_in docs i x (map seen es) ((w.hash.result, d) ∷ []) c.loop-doc-test.true c.doc-item.is inv.others
                (ap (λ o. option_map_or (λ z. []) o (hashed d ∷ [])) is ∙ ap (λ n. (n, d) ∷ []) (sym w.hash.ensures));
          })
    ]

pub invariant_of-result : goal.invariant_of-result
invariant_of-result c =
    let docs = c.args.docs.now in
    let zs = c.sort_unstable.new.self.items in
    let es = c.sort_unstable-2.new.self.items in
    let whole = ap (map doc_view) (take_all c.loop-doc.doc-index docs (omega (arith, c.loop-doc-test.false))) in record {
      same_integers = subst (λ ys. IsPermutation ys zs) (c.loop-doc.invariant.integers ∙ ap (flat_map integer_in) whole) c.sort_unstable.ensures.permutation;
      integer_order = c.sort_unstable.ensures.sorted;
      same_others =
          subst (λ ys. IsPermutation ys (map seen es)) (c.loop-doc.invariant.others ∙ ap (flat_map other_in) whole)
          (IsPermutation-map seen c.loop-doc.others.items es c.sort_unstable-2.ensures.permutation);
      other_order = c.sort_unstable-2.ensures.sorted;
    }
