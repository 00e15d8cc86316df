pub mod Sent
pub mod Gains
pub mod Batches
pub mod Traffic
pub mod Numbers
pub mod Planned
pub mod Fewer
