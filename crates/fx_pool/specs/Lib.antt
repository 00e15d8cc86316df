pub mod Posting
pub mod Reading
pub mod Jobs
pub mod Runs
pub mod Claims
pub mod Sharing
pub mod Telling
pub mod Laws
