use Rattle.std.proofs.Common.{rules}
use Rattle.bench_driver.proofs.Loading.{summed_start}
use Rattle.bench_driver.proofs.driving.drive.Goals as goal

pub loop-byte-init : goal.loop-byte-init
loop-byte-init g c = summed_start c.new-dispatcher.ensures c.«open».ensures.lawful.steps (search rules) c.mix-sum.ensures
