pub mod ReportWords
pub mod Reports
