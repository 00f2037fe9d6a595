-- Why a reader gives the numbers of its bytes.

-- Where it stands after a number, and after a refusal.
pub mod Laws
-- What several calls give.
pub mod Calls
pub mod Examples
