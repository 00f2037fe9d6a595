-- How slight a drift is harmless for ever.
pub mod Margin
