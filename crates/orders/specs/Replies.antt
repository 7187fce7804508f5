-- What is printed for a call's answer, for a refusal, and in the end.
use Rattle.std.specs.Prelude.{ℕ, List, [], ◌∷◌, ◌++◌, Ok, Err, Result, codes, decimal}
use Rattle.refusal.specs.declared.Refusal.{Refusal}
use Rattle.refusal.specs.Numbers.{number_of}
use Rattle.orders.specs.declared.reply.Reply.{Reply}
use Rattle.orders.specs.declared.reply.Reply.TheVariants.{Done, Refused, Ship, Scrap}

-- a line: what it begins with, what follows, and the byte 0A
abbrev pub ended : List ℕ → List ℕ → List ℕ
ended front rest = front ++ (rest ++ 10 ∷ [])

-- the line that is printed, with its end
abbrev pub reply_text : Reply → List ℕ
reply_text (Done n) = ended (codes "ok ") (decimal n)
reply_text (Refused r) = ended (codes "no ") (decimal (number_of r))
reply_text Ship = ended (codes "ship") []
reply_text Scrap = ended (codes "scrap") []

-- the reply to a call's answer
abbrev pub reply_to : Result ℕ Refusal → Reply
reply_to (Ok n) = Done n
reply_to (Err e) = Refused e
