-- What the proofs of this crate show: the items of a document are its values, each opened once, and the last one is the document
-- (`are_items`, `node_at-inside` in `Laws`, by induction on the document); each item of a list that was built is its value, opened
-- once, and the document of a list is its last value (`are_values`, `document_in-IsListed` in `Listed`, by induction on the list).
-- A set of documents is looked up by halving (`among_integers`, `among_others` in `Halving`).

-- items, their keys and their places
pub mod Places
pub mod Opening
pub mod Laws
pub mod Listed
pub mod Ascents
pub mod Named
pub mod Flattened
pub mod Pushes
-- what all items share
pub mod Ranges
-- look-up by halving; lists in another order
pub mod Lookups
pub mod Halving
pub mod Permuted
-- samples
mod Samples
