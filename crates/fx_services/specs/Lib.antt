pub mod Noted
pub mod ServicesAsked
pub mod Went
pub mod Beside
