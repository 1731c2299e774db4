-- The definitions, in the order in which they are read: where each field lies, then what the entry point answers, then what the
-- functions inside answer, and what a walk has done so far.
pub mod Layout
pub mod Answer
pub mod Placing
pub mod Walking
