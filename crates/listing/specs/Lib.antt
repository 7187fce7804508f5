pub mod Facts
pub mod Rows
pub mod Texts
-- what the promises here cite of the crates below
pub use Rattle.formats.specs.Codes
pub use Rattle.dds.specs.Readings
pub use Rattle.dds.specs.Headers
pub use Rattle.dds.specs.Levels
pub use Rattle.dds.specs.Places
pub use Rattle.dds.specs.Shapes
pub use Rattle.dds.specs.Sources
pub use Rattle.dds.specs.Tables
