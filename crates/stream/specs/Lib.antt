pub mod Taking
pub mod Reading
pub mod ReadingLaws
pub mod TakingLaws
pub mod Writing
pub mod WritingLaws
