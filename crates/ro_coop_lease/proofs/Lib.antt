-- what was got below the ceilings is not too far ahead
pub mod Ceilings
-- a run may be put back
pub mod Returns
-- and so may that of what is lent
pub mod Lending
-- the pass that is asked in a run
pub mod Running
