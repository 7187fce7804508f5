use Rattle.orders.proofs.Days.{numbered, with_own, ended}
use Rattle.orders.proofs.day.day_on.Goals as goal

pub close-requires-clause-number : goal.close-requires-clause-number
close-requires-clause-number c = numbered _ _ _ c.requires.begun _ _ _ c.answer_all.ensures.answered

pub close-requires-clause-own : goal.close-requires-clause-own
close-requires-clause-own c = with_own _ _ _ c.requires.begun _ _ _ c.answer_all.ensures.answered

pub returns-clause-ended : goal.returns-clause-ended
returns-clause-ended c = ended _ _ _ c.requires.begun _ _ c.answer_all.ensures.answered c.close.result _ c.close.ensures
