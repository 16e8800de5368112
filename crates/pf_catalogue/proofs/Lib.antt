mod AddingLemmas
mod NumberLaws
mod Rows
mod TableLaws
