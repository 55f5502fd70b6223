-- ---- lists and journals
-- lists of which one element changes
pub mod Lists
-- journals that grow at their end
pub mod Journals
-- ---- one entry: events, copies, runs
-- what a served call keeps of the kernel
pub mod Served
-- how much a served call stores
-- an event of a live thread
pub mod Happens
-- what an effect does to a replica
pub mod Effects
-- where a thread stands, behind a copy or an effect
pub mod Stops
-- the loser as a copy of the winner
pub mod Copies
-- the winner and its view
pub mod Winners
-- a run of one thread keeps what holds of every replica
pub mod Sound
-- the ranges that were given lie where they may
pub mod Mapped
-- ---- what every legal journal keeps, and what comes next
-- a run of a lease of some pages
pub mod PageRuns
-- what each entry keeps of the core
pub mod Ordered
-- no two leases that are out are of one replica, nor of one driver
pub mod Leases
-- which leases can be out at once
pub mod Beside
-- no thread has retired more than a quantum for each entry
pub mod Counted
-- how a legal journal ends
pub mod Outcomes
-- how a legal journal ends
pub mod Lasts
-- what the next action says of the core
pub mod Nexts
-- the lowest number that passes a test, and what can be done next by it
pub mod Lowest
-- a vote comes to one entry, or to one end in its place
pub mod Single
-- ---- the laws
-- one order of grants: a thread stands at its call until it is answered
pub mod Grants
-- a thread whose call is answered goes on in every replica
pub mod Released
-- which faults wait: those whose moments have not come
pub mod Moments
-- what a run strikes and retires
pub mod Retired
-- the page of a page fault is not backed
pub mod FaultPages
-- and so of every stop in a legal journal's replicas
pub mod FaultStops
-- a lease lasts until its own driver puts it back
pub mod Lasting
-- with one driver each lease comes back in the next entry
pub mod OneDriver
-- while a lease of pages is out, it has those that its thread wishes most
pub mod Wishes
-- a thread that came back for the want of two pages, one after the other, wants no third one
pub mod Wanting
-- how often a thread missed a page since its last vote
pub mod Misses
-- a blocked thread stands at a call in every replica
pub mod Blocked
-- whose votes came last, and that such a thread comes behind all others
pub mod Waiting
-- who could go on waits for 79 votes of others at the most
pub mod Bounded
-- scrubs come in time
pub mod InTime
pub mod Upsets
-- ---- cooperative runs
-- journals that grow at their end
pub mod TogetherJournals
-- how a legal one ends
pub mod TogetherOutcomes
pub mod TogetherLasts
-- what a lease's run keeps of its replica
pub mod TogetherRuns
-- how many steps there are, and how many each thread has retired
pub mod TogetherCounts
-- what an event keeps
pub mod TogetherEvents
-- what each entry keeps
pub mod Together
-- what a lease's run keeps of the mutexes that a replica answers for
pub mod MutexRuns
-- and what an event does to them
pub mod MutexEvents
-- what every legal cooperative journal keeps of them
pub mod Mutexes
-- a lease lasts until its own driver brings it back
pub mod TogetherLeases
-- with one driver each lease comes back in the next entry
pub mod TogetherTurns
-- and ranks only grow
pub mod TogetherRanks
-- for whom a thread gives way at a lock
pub mod Awaited
-- ---- what holds in both modes, and so of every run
pub mod Modes
pub mod Rules
