-- How the name of a file is shown.
use Rattle.std.specs.Prelude.{ℕ, cond, eqb, ltb}

-- a control byte of a name is shown as `?`, so that it does not steer a terminal
abbrev pub shown_byte : ℕ → ℕ
shown_byte b = cond (ltb b 32) 63 (cond (eqb b 127) 63 b)
