pub mod ExpressionDepths
pub mod GroupDepths
pub mod QueryDepths
pub mod Rooms
pub mod ServiceDepths
