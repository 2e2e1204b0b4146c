-- the rules of the whole table, which other crates cite: an edit of a listed figure must break one of them
pub mod TableLaws
