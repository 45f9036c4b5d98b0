-- Wrong programs, and the statement that each breaks demand 3.
pub mod Wrong
pub mod Refuted
