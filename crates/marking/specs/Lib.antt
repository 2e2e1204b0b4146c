pub mod Marking
pub mod MarkingLaws
pub mod Exact
pub mod Figures
pub mod FiguresLaws
pub mod StationLaws
pub mod OneOutcome
pub mod Demand1Laws
