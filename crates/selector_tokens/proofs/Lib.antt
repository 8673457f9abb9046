pub mod NameLemmas
pub mod NameTexts
pub mod JoiningLemmas
