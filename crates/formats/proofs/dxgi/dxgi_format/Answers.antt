use Rattle.std.proofs.Common.{refl, ◌∙◌}
use Rattle.formats.specs.Codes.{dxgi_rows}
use Rattle.formats.proofs.Alike.{follows_rule, unambiguous}
use Rattle.formats.proofs.dxgi.dxgi_format.Goals as goal

-- both tests are computed over the whole table
pub returns : goal.returns
unfolding dxgi_rows
returns c = record {
  names = c.format_in.ensures ∙ follows_rule _ dxgi_rows refl refl c.args.code;
  unambiguous = unambiguous dxgi_rows refl;
}
