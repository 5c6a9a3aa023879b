-- Worked steps: what the definitions answer for servers, messages and events written out. The
-- machine is the tally: its command Add k adds k to a sum of at most 1,000. Servers are numbered
-- from 0 here, as everywhere in definitions.
pub mod Words
pub mod Votes
pub mod Logs
pub mod Leaders
pub mod Runs
pub mod Terms
