pub mod MarkLemmas
pub mod TextLemmas
