use Rattle.std.proofs.Common.{Some, refl}
use Rattle.loans.proofs.Calling.{called_answer, called_state}
use Rattle.orders.specs.Orders.{instruction_of}
use Rattle.orders.specs.Orders.{request_for}
use Rattle.orders.proofs.Answering.{order_fits}
use Rattle.orders.proofs.day.answer.Goals as goal

pub carry_out-requires : goal.carry_out-requires
carry_out-requires c = order_fits c.args.line.now c.in_ok-parse.field-0 c.in_ok-parse.ensures.line.0 c.requires.short

pub returns-clause-answered : goal.returns-clause-answered
returns-clause-answered c =
    let order = instruction_of c.in_ok-parse.field-0 in
    let line = c.in_ok-parse.ensures.line in
    record {
      request = Some (request_for order);
      asks = (order, line.1, line.0, refl);
      answered = called_answer (request_for order) _ _ _ _ _ _ _ c.carry_out.ensures.rule;
      left = called_state (request_for order) _ _ _ _ _ _ _ c.carry_out.ensures.rule;
    }
