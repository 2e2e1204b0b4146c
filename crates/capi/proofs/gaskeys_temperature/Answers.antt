-- `gaskeys_temperature`: `gas::temperature` writes the lent list; its answer laid out in a struct makes the call's promise (proofs/Promised.antt).
use Rattle.signed.specs.Zed.{back}
use Rattle.capi.proofs.Promised.{temperature_told_lem}
use Rattle.capi.proofs.gaskeys_temperature.Goals as goal

pub returns : goal.returns
returns c = rw (← back c.ranges.air, ← back c.ranges.carbon, ← back c.ranges.hydrogen, ← back c.ranges.target)
    (temperature_told_lem (rw c.charge_in-charge.ensures at c.temperature.ensures) c.tell_temperature.ensures)
