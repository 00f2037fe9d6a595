-- What calls say once a plan is admitted.
pub mod Admitted
-- Demand 2.
pub mod Demand2
-- Demand 3.
pub mod Demand3
-- Beyond 01: safe for ever, unsafe for real.
pub mod Forever
-- Beyond 01: which locations drift enters.
pub mod Entered
-- Beyond 01: what the calls for the margin and for harm answer.
pub mod Outlook
-- 01's cases marked P hold.
pub mod Bench
-- The bound on drift is tight.
pub mod Tight
-- The bench's loop plan, both ways.
pub mod LoopPlan
-- Operations see bytes by their reading; what the programs take in is enough.
pub mod SameAnswers
pub mod Input
-- Request (a) of 02: plans redrawn short.
pub mod Plans
-- Request (b) of 02: no padding in evidence, and what padding does to an answer.
pub mod Respelled
pub mod Padding
-- Request (c) of 02: blank stay limits.
pub mod Marks
-- Beyond it: a plan whose mark becomes 2 stays safe.
pub mod Narrower
-- Request (d) of 02: marking goes on after it is done.
pub mod Rounds
-- Request (e) of 02: soonest sounding.
pub mod Soonest
-- Request (f) of 02: edges that never open; walks over two choices of edges.
pub mod Walks
pub mod Opening
-- Request (g) of 02: plans with a joint reset.
pub mod Joint
-- Request (h) of 02: what each call returns by its scratch; room known beforehand.
pub mod Calls
pub mod Room
