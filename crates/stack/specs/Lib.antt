pub mod Pushing
pub mod Pulling
pub mod Frames
pub mod Laws
