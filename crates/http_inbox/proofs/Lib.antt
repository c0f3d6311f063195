pub mod BodyLemmas
pub mod CoversLaws
pub mod ExtentLemmas
pub mod FieldLemmas
pub mod FillLemmas
pub mod HeadLemmas
pub mod InboxLemmas
pub mod NextLemmas
