pub mod WritingLemmas
pub mod SpellingTexts
pub mod SpellingTests
pub mod SupportsTests
pub mod Computing
