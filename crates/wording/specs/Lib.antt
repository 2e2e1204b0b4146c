-- The texts of answers: definitions, the most bytes of each, and the laws that the programs cite
pub mod Limits
pub mod Texts
pub mod TextsLaws
