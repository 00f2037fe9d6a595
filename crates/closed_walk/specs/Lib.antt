-- What the search for a closed walk promises.

-- The closed walk that is found.
pub mod Closes
-- The search by rounds, up to the level from which a step leads back.
pub mod Rounds
