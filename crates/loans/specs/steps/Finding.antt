-- Where among the loans the loan of a number stands.
use Rattle.std.specs.Prelude.{◌≡◌, ℕ, ◌<◌, true, false, List, length, slice_index_or, Some, None, Option}
use Rattle.loans.specs.declared.loan.Loan.{Loan}
use Rattle.loans.specs.Ledgers.{no_loan}
use Rattle.loans.specs.Stocks.{is_out, the_loan}

-- the loan of that number is out and stands at a position
pub record IsAt (ls : List Loan) (n k : ℕ) : Type 0 where
  pub inside : k < length ls
  pub out : is_out ls n ≡ true
  pub number : (slice_index_or ls k no_loan).number ≡ n
  pub found : the_loan ls n ≡ slice_index_or ls k no_loan

-- what looking for a number among the loans finds: where its loan stands, or that none has it
abbrev pub Found : List Loan → ℕ → Option ℕ → Type 0
Found ls n (Some k) = IsAt ls n k
Found ls n None = is_out ls n ≡ false
