use Rattle.std.proofs.Common.{◌≡◌, true, map, subst, IfOk}
use Rattle.cs_grammar.specs.View.{file_view}
use Rattle.cs_plain.specs.Placed.{gone_in, keeping}
use Rattle.cs_plain.specs.References.{TellsTexts, references_in}
use Rattle.cs_plain.proofs.files.in_places.Goals as goal

pub returns : goal.returns
returns c ns told =
    let fs = map file_view c.args.files.now in
    let gone = subst (λ xs. TellsTexts c.in_ok-gone.gone (gone_in (references_in true fs) (references_in true (map file_view xs)) fs)) c.deref.ensures.value c.in_ok-gone.ensures in
    subst (λ gs. IfOk c.kept_files.result (λ v. map file_view v.items ≡ keeping fs gs)) (c.in_ok-placed.ensures ns told) (c.kept_files.ensures _ gone)
