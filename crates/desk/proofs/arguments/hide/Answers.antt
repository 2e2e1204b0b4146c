-- `hide`: what is left of the name is as it was, and so is the byte that is shown next.
use Rattle.std.proofs.Common.{◌≡◌, ◌<◌, refl, suc, length, get_or, drop, arith, add-one, drop-cons}
use Rattle.std.proofs.Math.Seq.{take-suc, take-suc-set}
use Rattle.std.proofs.lemmas.List.{drop-set-lt, map-append}
use Rattle.desk.proofs.arguments.hide.Goals as goal

pub loop-b-preserved : goal.loop-b-preserved
loop-b-preserved c =
    let i = c.loop-b.b-index in
    let name = c.loop-b.name in
    let before = c.args.name.now in
    let h : i < length name = omega arith in
    let k : i < length before = omega arith in
    let now = drop-cons name i 0 h in
    let was = drop-cons before i 0 k in
    let next : get_or name i 0 ≡ get_or before i 0 = cc in
    let rest : drop (suc i) name ≡ drop (suc i) before = cc in (
      rw (add-one i, take-suc-set name i c.shown.result h, take-suc before i 0 k, map-append, c.loop-b.invariant.0, c.shown.ensures, next) refl,
      rw (add-one i, drop-set-lt (suc i) name i c.shown.result (omega arith)) rest,
    )
