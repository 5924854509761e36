use Rattle.std.proofs.Common.{◌≡◌, drop}
use Rattle.cs_document.specs.Document.{under}
use Rattle.cs_profile.specs.Keywords.{keywords, all_keywords}
use Rattle.cs_profile.proofs.Names.{by_name}
use Rattle.cs_profile.proofs.keyword.Keyword.named.Given as goal

abbrev pub invariant-loop-keyword : goal.invariant-loop-keyword
invariant-loop-keyword l = by_name l.name (drop l.keyword-index all_keywords) ≡ under l.name keywords
