use Rattle.std.proofs.Common.{◌≡◌, List, ℕ, Contains, Some, map, sym, ◌∙◌, subst}
use Rattle.std.specs.Prelude.{slice_get}
use Rattle.std.proofs.lemmas.Option.{same_Some}
use Rattle.cs_document.specs.Document.{Entry}
use Rattle.cs_document.specs.Opened.{an_object}
use Rattle.cs_flat.specs.Listed.{document_in}
use Rattle.cs_flat.specs.View.{entry_of}
use Rattle.cs_validity_reasons.proofs.KeyedOnce.{same_key}
use Rattle.cs_validity_reasons.proofs.naming.Named.property.Goals as goal

same_members : (ms ns : List (Entry ℕ)) → an_object ms ≡ an_object ns → ms ≡ ns
same_members ms ns e = cc

pub returns-in-Object : goal.returns-in-Object
returns-in-Object c = λ ms k e m.
    let xs = c.args.self.now.flat.now in
    let here = map entry_of c.in-Object.members.now in
    let found : slice_get xs c.args.item ≡ Some (an_object here) = c.in-Object.ensures.found in
    let same : here ≡ ms = same_members here ms (same_Some (an_object here) (an_object ms) (sym found ∙ e)) in
    let there : Contains here (k, c.args.value) = subst (λ z. Contains z (k, c.args.value)) (sym same) m in
    same_key (document_in xs) xs c.len.ensures.listed c.args.item here found c.args.value c.key_of.result.now k (c.key_of.ensures k there) there
