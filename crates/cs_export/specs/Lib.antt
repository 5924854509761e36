-- What schemas are as they are asked for: with descriptions or without, themselves or as components of OpenAPI.
pub mod Shaped
pub mod Components
pub mod Written
