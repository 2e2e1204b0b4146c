-- The two ways of `nearest`
mod Rounding
