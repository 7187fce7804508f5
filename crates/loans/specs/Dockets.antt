-- What a docket carries.
use Rattle.std.specs.Prelude.{ℕ}
use Rattle.loans.specs.declared.docket.Docket.{Docket}

-- the number of the job that it stands for; once it is spent, 2^32, which no job has
abbrev pub docket_number : Docket → ℕ
docket_number d = d.0
