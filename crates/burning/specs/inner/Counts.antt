-- One count of atoms with more added, as src/fuelling.rt adds the fuel to a gas.
use Rattle.std.specs.Prelude.{Bool, ◌||◌, ℕ, ℤ, pos, ◌+ℤ◌, Result}
use Rattle.std.specs.Int.Signed.{lt_z}
use Rattle.signed.specs.Zed.{outside}
use Rattle.refusal.specs.declared.Refusal.{Refusal}
use Rattle.refusal.specs.Refusals.{Told, told_of}
use Rattle.burning.specs.Burning.{document01}

-- wrong where atoms are taken away, or leave their limit
abbrev pub wrong_count : ℕ → ℤ → Bool
wrong_count have more = lt_z more (pos 0) || outside (pos 0) (pos document01.most_atoms) (pos have +ℤ more)

abbrev pub paper_atoms : Result ℕ Refusal → Told ℕ
paper_atoms = told_of
