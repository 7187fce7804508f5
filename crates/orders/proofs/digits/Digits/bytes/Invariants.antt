use Rattle.std.proofs.Common.{length}
use Rattle.orders.proofs.Hex.{Left}
use Rattle.orders.proofs.digits.Digits.bytes.Given as goal

abbrev pub invariant-loop-digits : goal.invariant-loop-digits
invariant-loop-digits l = Left l.self.digits.now l.digits l.bytes.items

abbrev pub decreases-loop-digits : goal.decreases-loop-digits
decreases-loop-digits l = length l.digits
