-- What the call says: no such location, no run, a time, or a refusal before.
pub mod Arrivals
