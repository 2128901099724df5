pub mod MeetingLemmas
pub mod SameVerdicts
pub mod TestLemmas
