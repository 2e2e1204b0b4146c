-- `put_station`: `ok`, the mK, the content of 1 g and the mass, each behind the one before (`wrote_then`), or the refusal.
use Rattle.signed.specs.Zed.{back}
use mir.Val.{SFits}
use mir.Syntax.{w64}
use Rattle.text.specs.PutsLaws.{wrote_text, wrote_then, wrote_wider}
use native.Mathlib.Omega.{arith}
use borrow.Author.Rules.{rules}
use Rattle.wording.proofs.put_station.Goals as goal

pub returns-in-Ok : goal.returns-in-Ok
returns-in-Ok c = let n = c.in-Ok.n in
    let f0 : SFits w64 n.mk = search rules in
    let f1 : SFits w64 n.specific = search rules in
    let f2 : SFits w64 n.mass = search rules in
    rw c.in-Ok.is
    (wrote_wider (omega arith)
    (rw (back f0, back f1, back f2)
    at (wrote_then (wrote_then (wrote_then (wrote_text c.put_text.ensures) c.put_signed.ensures) c.put_signed-in-Ok.ensures) c.put_signed-in-Ok-2.ensures)))
