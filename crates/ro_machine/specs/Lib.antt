pub mod Pages
pub mod Seen
pub mod Lengths
pub mod Parts
pub mod Plans
pub mod Watched
pub mod Lanes
