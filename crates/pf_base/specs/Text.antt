-- Texts: their bytes, lines, words, braces and names.
pub mod Ascii
pub mod Braces
pub mod Lines
pub mod Logical
pub mod Names
pub mod Numbers
pub mod Printing
pub mod Space
pub mod Words
