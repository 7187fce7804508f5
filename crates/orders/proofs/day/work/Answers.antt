use Rattle.std.proofs.Common.{vec_items}
use Rattle.loans.specs.Stocks.{stock_of}
use Rattle.loans.proofs.Opened.{is_empty_stock}
use Rattle.orders.specs.Days.{DayInputs}
use Rattle.orders.proofs.Days.{begins}
use Rattle.orders.proofs.day.work.Goals as goal

pub day_on-requires-clause-begun : goal.day_on-requires-clause-begun
day_on-requires-clause-begun c =
    let g : DayInputs = record { master = c.args.master.now; orders = c.args.orders.now; before = vec_items c.args.printed.now } in
    begins g _ c.open.new.self (stock_of c.of-shelves.result) c.in-Ok.ensures.opened c.in-Ok.ensures.length
    (is_empty_stock c.of-shelves.ensures c.new.ensures.items c.new-2.ensures.items c.new.ensures.most c.new-2.ensures.most)
