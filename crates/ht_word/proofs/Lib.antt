pub mod WordLaws
pub mod ListLaws
pub mod PrefixTests
pub mod Deciding
