-- What is answered, written and told of documents that are judged one after another.
pub mod Judged
pub mod Prepared
pub mod Lines
pub mod Explained
pub mod Runs
pub mod Verdicts
pub mod Writing
pub mod Begun
pub mod Answering
