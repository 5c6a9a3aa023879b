-- Words of private contracts.
pub mod Views
pub mod Turns
pub mod Moves
pub mod Stops
pub mod Proposals
pub mod Commits
pub mod Replies
pub mod Beats
