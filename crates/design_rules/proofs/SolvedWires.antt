pub mod SolvingLaws
