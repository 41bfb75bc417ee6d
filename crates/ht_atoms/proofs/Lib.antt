pub mod JoinLaws
pub mod TreeLaws
pub mod PieceLaws
pub mod AtomListLaws
