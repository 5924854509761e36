-- Lines and columns of texts, and how texts are shown.
pub mod Positions
pub mod Shown
