pub mod Connected
pub mod Laws
pub mod Replies
pub mod Steps
