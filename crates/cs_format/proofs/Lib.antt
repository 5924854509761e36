-- samples
mod Samples
