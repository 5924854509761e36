use Rattle.std.proofs.Common.{◌++◌, map, take, refl, sym, ap, ◌∙◌, subst}
use Rattle.std.proofs.lemmas.List.{take_all}
use Rattle.cs_grammar.specs.View.{definition_view, file_view}
use Rattle.cs_plain.proofs.Folds.{gathered_more}
use Rattle.cs_plain.specs.Bodies.{TellsBodies}
use Rattle.cs_plain.specs.Bodies.{bodies_in, body_of}
use Rattle.cs_plain.proofs.BodyTables.{no_bodies}
use Rattle.cs_plain.proofs.Parts.{file_bodies}
use Rattle.cs_plain.proofs.bodies.Bodies.of.Goals as goal

pub loop-file-init : goal.loop-file-init
loop-file-init c =
    no_bodies _ c.new.ensures.empty c.new-2.ensures.items

pub loop-file-preserved : goal.loop-file-preserved
loop-file-preserved c =
    let xs = c.args.files.now in
    let i = c.loop-file.file-index in
    let x = c.file-item.result in
    let done = bodies_in (map file_view (take i xs)) in
    let more = gathered_more (λ ys. bodies_in (map file_view ys)) file_bodies refl (λ f fs. refl) xs i x c.loop-file-test.true c.file-item.is in
    subst (TellsBodies c.add_all.new.self) (ap (λ ds. done ++ map body_of (map definition_view ds)) c.deref.ensures.value ∙ sym more) (c.in_ok-add_all.ensures done c.loop-file.invariant)

pub returns : goal.returns
returns c =
    subst (λ ys. TellsBodies c.loop-file.bodies (bodies_in (map file_view ys))) (take_all c.loop-file.file-index c.args.files.now c.loop-file-test.false) c.loop-file.invariant
