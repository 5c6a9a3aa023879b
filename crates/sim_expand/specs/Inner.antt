-- Words of private contracts.
pub mod Parts
pub mod Totals
pub mod Taking
pub mod Deliveries
pub mod Standings
pub mod GroupStandings
pub mod Uses
pub mod Firsts
