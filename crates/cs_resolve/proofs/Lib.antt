-- What the proofs of this crate show: the bodies gathered by name are the environment of the files (`environment-gathered` in `Gathered`),
-- the opening rule and what breaks it (`opened_law`, `told_law` in `OpeningRule`), the closed bases and plain refinements (`least`, `one_environment` in `BaseLaw`,
-- `hold_bases` in `FoundBases`), and the order of faults (`names_in_order`, `literals_in_order` in `FaultOffsets`).

-- samples
pub mod Samples
pub mod Forms
pub mod Limits
pub mod Narrowings
pub mod Refined
pub mod EarlierSamples
-- trees level by level, lists and sums
pub mod Trees
pub mod Elements
pub mod Sums
-- package names; declared names, their order and their spelling
pub mod OnePackage
pub mod Order
pub mod DefinedNames
pub mod Spellings
pub mod FormedFiles
-- bodies under their names, and the shapes that are made of them
pub mod Gathered
pub mod JoinedTrees
pub mod Made
pub mod OpenedShapes
pub mod NameTables
pub mod LabelSets
pub mod CountedNames
-- faults of names, and which one is reported
pub mod NameFaults
pub mod Faults
pub mod Refusals
-- the opening rule
pub mod RepeatTables
pub mod LabelCounts
pub mod UnopenedLiterals
pub mod OpeningRule
-- closed bases: the least relation, what narrows one, and the search for them
pub mod BaseLaw
pub mod NarrowingSteps
pub mod SoleBodies
pub mod TextSets
pub mod BaseTables
pub mod RefinerLists
pub mod Searches
pub mod ClassifiedBodies
pub mod FoundBases
-- offsets rise along the words, so faults come in order
pub mod WordOrder
pub mod MarkOrder
pub mod PickedOffsets
pub mod FaultOffsets
-- files that keep the rule without plain refinements have the same environment, and those without `[string]` one without it
pub mod OlderRule
pub mod LabelledBodies
