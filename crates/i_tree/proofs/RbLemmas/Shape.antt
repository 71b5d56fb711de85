-- Lemmas on trees: contexts, subtrees, handles and items.
pub mod Beside
pub mod Contexts
pub mod Ends
pub mod Items
pub mod SubtreeHandles
pub mod Subtrees
