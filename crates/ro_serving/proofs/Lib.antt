-- the code's event is the definition's
pub mod Occurs
-- what a call leaves of that on which blocked calls hang
pub mod Leaves
