pub mod Texts
pub mod Writes
pub mod Fronts
pub mod Places
pub mod Files
pub mod FileLines
