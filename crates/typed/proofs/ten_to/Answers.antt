-- `ten_to`: the array of 23 floats is the powers of ten from 10^0 to 10^22 (proofs/Tens.antt).
use lib.Ieee.{nan}
use Rattle.typed.proofs.Tens.{tens, ten_at}
use Rattle.typed.proofs.ten_to.Goals as goal

pub returns : goal.returns
unfolding tens
returns c = ten_at nan c.args.k c.requires
