pub mod FilledTest
