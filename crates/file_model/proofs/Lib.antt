pub mod BitsLemmas
pub mod BlockPlaces
pub mod CommentLaws
pub mod CrcLemmas
pub mod FieldsLemmas
pub mod FileLaws
pub mod FlacLaws
pub mod FrameLaws
pub mod Interleaving
pub mod Makes
pub mod OutcomesLemmas
pub mod Pairings
pub mod Predictions
pub mod Readings
pub mod WorkedWaves
pub mod Samples
pub mod Spellings
pub mod Waves
mod WorkedBits
mod WorkedComments
mod WorkedFields
mod WorkedFlac
pub mod WorkedFrames
pub mod WorkedPredictions
