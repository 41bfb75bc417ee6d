pub mod OrderedEnds
pub mod LinkedAtoms
pub mod Classes
pub mod Matchings
pub mod ClassChanges
pub mod Stages
