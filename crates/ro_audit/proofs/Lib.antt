-- a lease has one run that may come back
pub mod Runs
-- a vote, a free or a scrub comes to one entry
pub mod Single
-- no two leases that are out are of one driver
pub mod Held
-- what is lent to a driver, behind an entry
pub mod Slots
-- what was got, behind an entry
pub mod Got
-- why an entry is not allowed
pub mod Refused
-- an end that is not allowed
pub mod Ends
-- what the run does next, and the first entry that is not that
pub mod Nexts
-- the follower behind an entry
pub mod Steps
-- what is told
pub mod Telling
-- how what is lent comes back to the core of votes
pub mod VotedReturns
-- the length of the plan
pub mod Plans
-- pages that are compared
pub mod Pages
-- registers that are compared
pub mod Registers
-- who got which rank, in a map
pub mod Rows
-- a run of what was lent, and where it stands
pub mod Running
-- what a thread does next, by where it stands
pub mod Onward
-- what a run got, get by get
pub mod Gets
-- what was lent, at the entry by which it comes back
pub mod Bounded
-- a run that was too short
pub mod Short
-- a thread that stands where its entry does not tell
pub mod Standing
-- a run that was as long as it is told
pub mod AsTold
-- a cooperative run, by the rules of its mode
pub mod Modes
