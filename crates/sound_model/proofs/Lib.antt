pub mod AlbumLaws
pub mod EnergyBounds
mod WorkedGates
pub mod Greatest
pub mod LevelLaws
pub mod LevelTable
pub mod MeasuredBounds
pub mod PeakBounds
pub mod WorkedPeaks
pub mod PeakStretches
pub mod PlaceLaws
pub mod RangeLaws
pub mod SummaryLaws
pub mod WorkedWeights
mod WorkedLevels
mod WorkedRanges
mod WorkedTexts
