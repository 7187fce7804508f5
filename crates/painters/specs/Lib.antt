pub mod Tracing
-- what the promises here cite of the crates below
pub use Rattle.dds.specs.Pieces
pub use Rattle.dds.specs.Places
pub use Rattle.loans.specs.Journals
pub use Rattle.loans.specs.Law
pub use Rattle.loans.specs.Ledgers
pub use Rattle.loans.specs.Rules
pub use Rattle.loans.specs.Runs
pub use Rattle.loans.specs.Stocks
pub use Rattle.loans.specs.Strokes
