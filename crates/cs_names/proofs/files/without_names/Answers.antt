use Rattle.std.proofs.Common.{map, ap, ◌∙◌}
use Rattle.cs_names.specs.Checks.{path_view}
use Rattle.cs_names.proofs.files.without_names.Goals as goal

pub returns-clause-found : goal.returns-clause-found
returns-clause-found c =
    let told = c.in_ok-shared.ensures (ap (map path_view) c.deref.ensures.value ∙ c.in_ok-paths.ensures) in
    c.lifted_files.ensures.found (c.in_ok-lifting.ensures told) told

pub returns-clause-refused : goal.returns-clause-refused
returns-clause-refused c =
    let told = c.in_ok-shared.ensures (ap (map path_view) c.deref.ensures.value ∙ c.in_ok-paths.ensures) in
    c.lifted_files.ensures.refused (c.in_ok-lifting.ensures told) told

pub returns-clause-only : goal.returns-clause-only
returns-clause-only c none =
    let told = c.in_ok-shared.ensures (ap (map path_view) c.deref.ensures.value ∙ c.in_ok-paths.ensures) in
    c.lifted_files.ensures.only (c.in_ok-lifting.ensures told) told none
