use Rattle.std.proofs.Common.{rules}
use Rattle.dds.specs.Headers.{header_of}
use Rattle.dds.proofs.header.Header.after.Goals as goal

pub returns : goal.returns
unfolding header_of
returns c = search rules
