pub mod HistoryLaws
pub mod DriveLaws
pub mod MeetLaws
