-- what the journal of a core keeps
pub mod Keeping
-- the fields behind one entry more
pub mod Held
-- an end that is due
pub mod Ends
-- an end in the place of a vote or a free
pub mod Concludes
-- what the core's tests say
pub mod Tests
-- for whom a rank of a mutex is
pub mod Barred
-- ---- seats and leases
-- what a lease's run retires
pub mod Retired
-- what seats know of a mutex by its number
pub mod Numbered
-- the seats of the peers, and what an entry more does to them
pub mod Homes
-- no address stands twice in the mutex table
pub mod Distinct
-- what a lease's run got, as it is noted
pub mod Taken
-- what an event does in a peer's seat
pub mod Happening
-- peers in their seats, one after another
pub mod Sitting
-- below which ranks a lease may get its mutexes
pub mod Limiting
-- in a legal journal each replica is lent once at the most
pub mod Apart
-- a peer as it is in the core
pub mod Bounding
-- a take
pub mod Takes
-- a lease that comes back
pub mod Puts
-- ---- votes and frees
-- peers that are all in their seats
pub mod AtHome
-- the reservation of a thread that ends before the kernel serves it
pub mod Lapsing
-- fields that only made room
pub mod Makes
-- what comes of a thread's stop, or of its blocked call
pub mod Comes
-- an event that is done in every peer
pub mod Occurring
-- the views of a vote
pub mod Views
-- the ranges that were given
pub mod Mapped
-- the mutex that an event makes cooperative
pub mod Enters
-- the fields behind an event
pub mod Behind
-- a vote on which the views agree
pub mod Votes
-- the end in the place of a vote, for whoever asks
pub mod Asked
-- a call that is served
pub mod Frees
-- what the kernel serves when the reservation has ended
pub mod Serving
-- its seat then, and the fields
pub mod Returns
-- the opening
pub mod Begins
