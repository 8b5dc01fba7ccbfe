pub mod Tests
pub mod Sizes
pub mod Pieces
pub mod Answers
pub mod Apart
pub mod Arguments
pub mod Sums
pub mod Steps
