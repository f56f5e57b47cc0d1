pub mod Plays
pub mod Boots
