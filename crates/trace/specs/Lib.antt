pub mod Changes
pub mod Tracing
pub mod Texts
-- what the promises here cite of the crates below
pub use Rattle.refusal.specs.Meanings
pub use Rattle.dds.specs.Places
pub use Rattle.loans.specs.Rules
