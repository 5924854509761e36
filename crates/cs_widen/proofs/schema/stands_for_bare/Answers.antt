use Rattle.std.proofs.Common.{arith, sym, subst}
use Rattle.cs_document.specs.View.{doc_view}
use Rattle.cs_json.specs.Texts.{Reads}
use Rattle.cs_profile.specs.Profile.{IsSchema}
use Rattle.cs_profile.specs.declared.keyword.Vocabulary.TheVariants as vocabularies
use Rattle.cs_describe.specs.Meaning.{SameValidity}
use Rattle.cs_widen.proofs.schema.stands_for_bare.Goals as goal

pub returns-in_ok-text-in-Ok-clause-found : goal.returns-in_ok-text-in-Ok-clause-found
returns-in_ok-text-in-Ok-clause-found c =
    let found = c.in_ok-bare-in-Ok.ensures.found in record {
      document = doc_view c.in-Ok.doc;
      read = c.in-Ok.ensures.found;
      written = λ within. subst (Reads c.in_ok-text-in-Ok.text.items) found (c.in_ok-text-in-Ok.ensures.reads (let nested = c.in_ok-bare-in-Ok.ensures.nested in omega arith));
      meaning = λ is. subst (SameValidity (doc_view c.in-Ok.doc)) found (c.in_ok-bare-in-Ok.ensures.meaning vocabularies.Wide (subst (IsSchema vocabularies.Wide) (sym found) is));
      profile = λ is. subst (IsSchema vocabularies.Wide) found (c.in_ok-bare-in-Ok.ensures.profile vocabularies.Wide is);
    }
