-- The weight of an edge as docs/RULES.md, "Graphs", states it, its cases and its laws.
pub mod Cases
pub mod Laws
pub mod Weight
