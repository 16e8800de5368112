pub mod CdbLaws
pub mod MeaningLaws
pub mod OpenLaws
pub mod PatternLaws
pub mod Rows
pub mod SizeLaws
pub mod SpecLemmas
pub mod TurnLaws
