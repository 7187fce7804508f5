use Rattle.orders.proofs.Spelled.{one_order}
use Rattle.orders.proofs.order.Order.parse.Goals as goal

pub returns-clause-unique : goal.returns-clause-unique
returns-clause-unique c = one_order
