-- 01's cases marked P, as one table.
pub mod Bench
-- A plan for which the bound on drift is tight.
pub mod Tight
-- What the theorems say of answers, marks, plans and slips.
pub mod Told
-- A location that the marks tell of.
pub mod Entered
-- Bytes that no operation tells apart.
pub mod SameAnswers
-- Request (b) of 02: the old rules, and evidence with its padding taken out.
pub mod Padding
-- Request (c) of 02: a plan in another mark.
pub mod Marks
-- Request (d) of 02: the rounds of a plan's marking.
pub mod Rounds
-- Request (e) of 02: the answers of the least time.
pub mod Soonest
-- Request (f) of 02: the walks that 01 tested.
pub mod Opening
-- Request (g) of 02: plans with a joint reset.
pub mod Joint
-- Request (h) of 02: the calls that are lent the room told.
pub mod Room
