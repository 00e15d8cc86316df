pub mod Exchanges
pub mod Laws
pub mod Pieces
pub mod Refusals
pub mod Spellings
pub mod Tapes
