-- What `lex` answers and refuses.
pub mod Lexed
pub mod Quoted
-- for contracts of private functions and proofs alone
pub mod Pieces
pub mod Automaton
