-- samples of what is written
mod Samples
