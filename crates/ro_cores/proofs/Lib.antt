-- leases stay out
pub mod Along
-- what becomes of them may be put back
pub mod Lending
-- passes of a lock page
pub mod Passes
-- where no scrubs are asked for
pub mod Unscrubbed
-- views that are all alike
pub mod Majorities
-- the mutexes keep their numbers
pub mod Numbers
-- what was got along a history
pub mod Getting
-- what a share knows while nothing is got, and all shares together
pub mod Shares
-- what it knows of a lease that comes back
pub mod Bringing
-- what drivers know
pub mod Knowing
