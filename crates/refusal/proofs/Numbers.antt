-- A refusal's number has at most two digits.
use Rattle.std.proofs.Common.{◌<◌, rules, tests}
use Rattle.refusal.specs.declared.Refusal.{Refusal}
use Rattle.refusal.specs.Numbers.{number_of}

pub number_small : (e : Refusal) → number_of e < 100
number_small e = search (rules, tests)
