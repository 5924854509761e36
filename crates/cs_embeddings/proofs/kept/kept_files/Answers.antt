use Rattle.std.proofs.Common.{◌≡◌, ◌++◌, map, sym, ap, ◌∙◌, subst}
use Rattle.std.specs.List.{flat_map}
use Rattle.cs_grammar.specs.Tree.{definitions, package_name}
use Rattle.cs_grammar.specs.View.{definition_view, file_view}
use Rattle.cs_embeddings.specs.Bodies.{Left, as_declared, bodies_behind}
use Rattle.cs_embeddings.specs.GatheredTable.{body_view, TellsLabels}
use Rattle.cs_embeddings.proofs.Keeping.{declared_before, one_file_behind, one_file_kept, all_files_kept}
use Rattle.cs_embeddings.proofs.kept.kept_files.Goals as goal

pub loop-file-preserved : goal.loop-file-preserved
loop-file-preserved c tables =
    let fs = c.args.files.now in let i = c.loop-file.file-index in let f = c.file-item.result in let l = c.loop-file-test.true in let is = c.file-item.is in
    let ds = flat_map definitions (map file_view fs) in let before = declared_before fs i in
    let inv = c.loop-file.invariant tables in
    let kept = c.in_ok-bodies.ensures ds before tables inv.0 in
    let same = ap (λ es. map as_declared (map definition_view es)) c.deref-in-loop-file.ensures.value in
    let bodies = subst (λ h. map body_view c.in_ok-bodies.bodies.items ≡ bodies_behind ds h before h) same kept.0 in (
      subst (TellsLabels c.kept_bodies.new.labels ds (map as_declared ds)) (ap (λ h. before ++ h) same ∙ sym (one_file_behind fs i f l is)) kept.2,
      one_file_kept fs i f l is ds c.loop-file.kept.items c.push.new.self.items _ c.in_ok-push.ensures.items
          (ap (λ bs. let left : Left = record { clause = package_name (file_view f); bodies = bs } in left) bodies) kept.1 inv.1,
    )

pub returns-clause-found : goal.returns-clause-found
returns-clause-found c tables =
    all_files_kept _ c.args.files.now c.loop-file.file-index c.loop-file.kept.items c.loop-file-test.false (c.loop-file.invariant tables).1

pub returns-clause-sound : goal.returns-clause-sound
returns-clause-sound c tables = (c.loop-file.invariant tables).1.sound
