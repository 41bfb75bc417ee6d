pub mod PlaceLaws
pub mod ReachLaws
pub mod LinkLaws
pub mod ListingLaws
pub mod ChainLaws
pub mod ConnectLaws
