use Rattle.cs_samples.proofs.Kept.{samples-first, distinct-first, more-first}
use Rattle.cs_samples.proofs.sampling.samples.Goals as goal

pub returns-clause-samples : goal.returns-clause-samples
returns-clause-samples c = samples-first c.args.«package».now c.args.root.now c.args.which c.in_ok-found.found.texts.items c.first_of.result.texts.items c.first_of.result.more c.first_of.ensures.split c.in_ok-found.ensures.samples

pub returns-clause-distinct : goal.returns-clause-distinct
returns-clause-distinct c = distinct-first c.in_ok-found.found.texts.items c.first_of.result.texts.items c.first_of.result.more c.first_of.ensures.split c.in_ok-found.ensures.distinct

pub returns-clause-more : goal.returns-clause-more
returns-clause-more c = more-first c.args.«package».now c.args.root.now c.args.which c.in_ok-found.found.texts.items c.first_of.result.texts.items c.first_of.result.more c.first_of.ensures.split c.in_ok-found.ensures.samples c.in_ok-found.ensures.distinct
