use Rattle.std.proofs.Common.{◌-◌, length}
use Rattle.loans.specs.Stocks.{stock_of}
use Rattle.loans.proofs.Sifted.{Sifted}
use Rattle.loans.proofs.shelves.Shelves.drop_loan.Given as goal

abbrev pub invariant-loop-passed : goal.invariant-loop-passed
invariant-loop-passed l = Sifted (stock_of l.initial.self) (stock_of l.self) l.loan l.passed l.stays

-- the marks that are left
abbrev pub decreases-loop-passed : goal.decreases-loop-passed
decreases-loop-passed l = length l.initial.self.marks.items - l.passed.marks
