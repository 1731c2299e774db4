-- What the call answers; then what the walkers' outcomes say.
pub mod Answer
pub mod Agree
