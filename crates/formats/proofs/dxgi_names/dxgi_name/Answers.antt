use Rattle.formats.specs.DxgiNames.{dxgi_names}
use Rattle.formats.proofs.DxgiNamed.{named_where_laid_out, one_code}
use Rattle.formats.proofs.dxgi_names.dxgi_name.Goals as goal

pub returns-clause-name : goal.returns-clause-name
unfolding dxgi_names
returns-clause-name c = c.name_in.ensures

pub returns-clause-formats : goal.returns-clause-formats
returns-clause-formats c = named_where_laid_out

pub returns-clause-unique : goal.returns-clause-unique
returns-clause-unique c = one_code
