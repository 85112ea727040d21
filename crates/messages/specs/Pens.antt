-- What a pen message tells in each stage of a line.
use Rattle.std.specs.Prelude.{ℕ}
use Rattle.messages.specs.declared.pen.Stage.{Stage}
use Rattle.messages.specs.declared.pen.Stage.TheVariants.{Down, Sample, Up}

pub record Telling : Type 0 where
  pub kind : ℕ
  pub interval : ℕ

abbrev pub told_by : Stage → Telling
told_by Down = record { kind = 1; interval = 1 }
told_by Sample = record { kind = 2; interval = 2 }
told_by Up = record { kind = 3; interval = 3 }
