-- What is no number is told by comparing it with itself. Assumes nothing.
use Rattle.std.specs.Prelude.{◌≡◌, true, false, not, T, Float}
use Rattle.std.proofs.Common.{sym, ap, ◌∙◌, subst, true≢false}
use Rattle.std.specs.Float.{nan, inf, fin}
use Rattle.std.specs.Float.Ieee.{is_nan, ne}
use Rattle.std.specs.Float.Ieee.Scale.{finite}
use Rattle.std.specs.Float.Ieee.Compare.{nan_differs, differs_from_itself}

-- a NaN alone differs from itself
pub nan_none : (x : Float) → ne x x ≡ true → finite x ≡ false
nan_none x e = ap finite (differs_from_itself x (subst T (sym e) tt))

pub no_nan : (x : Float) → ne x x ≡ false → T (not (is_nan x))
unfolding is_nan
no_nan nan e = absurd (true≢false (sym nan_differs ∙ e))
no_nan (inf s) e = tt
no_nan (fin s m e) h = tt
