-- The margin of a plan by its sheet.
pub mod SheetMargin
