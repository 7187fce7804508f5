use Rattle.std.proofs.Common.{refl}
use Rattle.std.specs.Fmt.{padded_integral, char_count}
use Rattle.listing.proofs.row.Row.heading.Goals as goal

-- the heading is computed
pub returns : goal.returns
unfolding padded_integral char_count lib.Utf8.encode
returns c = refl
