mod Names
mod NameWords
mod Ascii
pub mod KeyLaws
pub mod RisingLaws
pub mod NodeLaws
pub mod Truth
pub mod SizeLaws
