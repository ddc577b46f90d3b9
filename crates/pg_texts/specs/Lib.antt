pub mod Fronts
pub mod ReportTexts
pub mod PattmpTexts
pub mod CellsTexts
pub mod Inside
