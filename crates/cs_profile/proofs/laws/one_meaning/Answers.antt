use Rattle.cs_profile.specs.SchemaDocument.{document_of}
use Rattle.cs_profile.proofs.Meanings as meanings
use Rattle.cs_profile.proofs.laws.one_meaning.Goals as goal

pub returns : goal.returns
returns c = meanings.one_meaning (document_of c.args.schema.now) c.whole_law.ensures.whole.profile.no_loop
