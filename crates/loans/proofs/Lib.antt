mod Counting
mod Marks
mod Slots
mod Tallying
mod Owning
mod Recounting
mod Allowed
mod Listed
pub mod Searches
pub mod Calls
mod Passing
mod Lawful
mod Underneath
mod Soundness
mod Shelved
pub mod Outs
mod Invariant
mod Items
mod Own
mod TakenAsOwn
mod Steps
pub mod Runs
mod Painted
mod NewestMark
mod Undone
mod Leading
mod Sifted
mod Ended
mod EndedBooks
mod Restored
mod Handed
mod Scrapped
pub mod Calling
pub mod Limits
pub mod Opened
mod RunMade
