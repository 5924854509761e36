use Rattle.std.proofs.Common.{map}
use Rattle.cs_grammar.specs.View.{file_view}
use Rattle.cs_resolve.proofs.FormedFiles.{written-formed}
use Rattle.cs_resolve.proofs.resolving.resolve_written.Goals as goal

pub package_of_files-requires : goal.package_of_files-requires
package_of_files-requires c = written-formed (map file_view c.args.files.items) c.requires.written
