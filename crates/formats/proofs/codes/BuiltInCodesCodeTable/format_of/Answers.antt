use Rattle.std.proofs.Common.{refl, ◌∙◌}
use Rattle.formats.specs.Codes.{plain_rows}
use Rattle.formats.proofs.Alike.{follows_rule, unambiguous}
use Rattle.formats.proofs.codes.BuiltInCodesCodeTable.format_of.Goals as goal

-- both tests are computed over the whole table
pub returns : goal.returns
unfolding plain_rows
returns c = record {
  names = c.format_in.ensures ∙ follows_rule _ plain_rows refl refl c.args.code;
  unambiguous = unambiguous plain_rows refl;
}
