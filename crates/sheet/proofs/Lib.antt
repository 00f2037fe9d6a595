-- What the answer means.
pub mod Answer
-- What the reading is asked and tells, for a model.
pub mod Models
-- 01's case and a few more, computed.
pub mod Examples
