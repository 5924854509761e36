use Rattle.std.proofs.Common.{ℕ, List, Result, Ok, Err, map, refl}
use Rattle.std.proofs.lemmas.Result.{IfErr-weaker}
use Rattle.std.specs.Prelude.{IfOk, OnOk, Vec}
use Rattle.std.specs.declared.alloc.Global.{Global}
use Rattle.cs_grammar.specs.View.{file_view}
use Rattle.cs_grammar.specs.declared.ast.File.{File}
use Rattle.cs_grammar.specs.declared.profile.Profile.TheVariants as profiles
use Rattle.cs_tool.specs.Texts.{AreTexts}
use Rattle.cs_tool.specs.FilesIn.{AreFilesIn}
use Rattle.cs_tool.specs.Given.{bytes_in}
use Rattle.cs_tool.specs.declared.fault.Fault.{Fault}
use Rattle.cs_tool.proofs.Refused.{by_spelling}
use Rattle.cs_tool.specs.Stands.{AreMeantBy}
use Rattle.cs_tool.proofs.meant.default_files.Goals as goal

-- files that are spelled in the default profile stand for themselves
themselves : (ss : List (List ℕ)) (r : Result (Vec File Global) Fault) → OnOk r (AreTexts ss)
    → IfOk r (λ v. AreFilesIn profiles.Default ss (map file_view v.items)) → IfOk r (λ v. AreMeantBy profiles.Default ss (map file_view v.items))
themselves ss (Ok v) texts spelled = record { texts = texts; files = map file_view v.items; spelled = spelled; stand_for = refl }
themselves ss (Err e) texts spelled = tt

pub returns-clause-found : goal.returns-clause-found
returns-clause-found c = themselves (bytes_in c.args.sources.now) c.spelled_files.result c.spelled_files.ensures.texts c.spelled_files.ensures.spelled

pub returns-clause-refused : goal.returns-clause-refused
returns-clause-refused c =
    IfErr-weaker c.spelled_files.result _ _ (by_spelling profiles.Default (bytes_in c.args.sources.now)) c.spelled_files.ensures.refused

pub returns-clause-only : goal.returns-clause-only
returns-clause-only c = λ E accepted. c.spelled_files.ensures.only accepted.files accepted.texts accepted.spelled
