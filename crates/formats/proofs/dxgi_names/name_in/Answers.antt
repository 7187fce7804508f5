use Rattle.std.proofs.Common.{rules}
use Rattle.formats.proofs.DxgiNamed.{found}
use Rattle.formats.proofs.dxgi_names.name_in.Goals as goal

pub returns-in_err-name : goal.returns-in_err-name
returns-in_err-name c = rw (found, ← c.row_in.ensures) (search rules)

pub returns : goal.returns
returns c = rw (found, ← c.row_in.ensures) (search rules)
