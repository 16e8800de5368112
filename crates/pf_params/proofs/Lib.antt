pub mod CatalogueLaws
pub mod ClassLaws
pub mod KindLaws
pub mod DefaultLaws
pub mod ReadingLaws
mod Rows
pub mod SettledLaws
pub mod TableLaws
pub mod TextLaws
