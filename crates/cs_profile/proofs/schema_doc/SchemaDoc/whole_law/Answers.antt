use Rattle.cs_profile.proofs.Trimmed.{document_trimmed}
use Rattle.cs_profile.proofs.schema_doc.SchemaDoc.whole_law.Goals as goal

pub returns-clause-trimmed : goal.returns-clause-trimmed
returns-clause-trimmed c = document_trimmed c.args.self.now
