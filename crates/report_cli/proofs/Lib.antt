pub mod RunLemmas
pub mod ServingLemmas
pub mod InTurnLaws
pub mod FollowingLaws
