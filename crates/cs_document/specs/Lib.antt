-- What documents are: their levels, what code has of them, and their order.
pub mod Document
pub mod Opened
pub mod Sizes
pub mod Inside
pub mod View
pub mod Order
-- for contracts of private functions and proofs alone
pub mod Equality
pub mod TotalOrder
pub mod Code
