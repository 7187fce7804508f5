use Rattle.std.proofs.Common.{vec_items, vec_len, vec_capacity}
use Rattle.orders.proofs.Printing.{Printing}
use Rattle.orders.proofs.day.print.Given as goal

abbrev pub invariant-loop-byte : goal.invariant-loop-byte
invariant-loop-byte l =
    Printing (vec_items l.initial.printed) (vec_items l.printed) (vec_len l.initial.printed) (vec_len l.printed) (vec_capacity l.initial.printed) (vec_capacity l.printed)
    l.byte-items l.byte-index
