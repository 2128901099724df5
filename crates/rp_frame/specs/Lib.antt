pub mod Frames
pub mod Given
pub mod Handed
pub mod Names
pub mod Rooms
pub mod TextSink
