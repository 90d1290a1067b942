use Rattle.schedule.proofs.Bytes.{six_bytes}
use Rattle.schedule.proofs.six_bytes_a_line.Goals as goal

pub returns : goal.returns
returns c = six_bytes
