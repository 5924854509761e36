-- What the proofs of this crate show: what is read, numbered and judged of rules is what the calls say of their bytes (`BySides` and `ByRules`), the bytes of
-- an input have one list of lines (`OneSplit`), each line that ends among them has the answer of its call and no other (`line_answered` in
-- `LineRuns`), and what a run leaves after a refusal is a front of these answers (`answers_cut_off` there).

pub mod BySides
pub mod ByRules
-- lines of bytes, and the answers to them
pub mod LineLists
-- what is told of documents and lines
pub mod ExplainedRuns
pub mod LineRuns
pub mod Newlines
pub mod OneSplit
pub mod RulesRefused
pub mod WrittenTexts
-- samples
mod LineSamples
