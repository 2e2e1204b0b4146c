-- `gaskeys_read_sheet`: `sheet::read_sheet` writes the lent list; its answer laid out in a struct makes the call's promise (proofs/Promised.antt).
use Rattle.capi.proofs.Promised.{sheet_told}
use Rattle.capi.proofs.gaskeys_read_sheet.Goals as goal

pub returns : goal.returns
returns c = sheet_told c.read_sheet.ensures c.tell_sheet.ensures
