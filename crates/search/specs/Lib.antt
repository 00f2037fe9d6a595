-- Search by levels over any relation: what it keeps, and what its parts promise.

-- The states reached, in the order in which they are found.
pub mod Queue
-- What a method leaves in a queue.
pub mod Held
-- The least of some states with a level.
pub mod Least
-- The least level of some states.
pub mod Lowest
-- A relation that lists lead along, and the rounds of the search.
pub mod Rounds
-- The flags of the states on a shortest walk into a goal.
pub mod Flags
