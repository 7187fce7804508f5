use Rattle.std.proofs.Common.{refl}
use Rattle.dds.proofs.Measured.{figures}
use Rattle.dds.proofs.figures.measured_figures.Goals as goal

pub returns : goal.returns
returns c = record { value = refl; figures = figures }
