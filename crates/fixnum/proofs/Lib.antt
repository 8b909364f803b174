-- Laws of words, over the width, that the proofs of both widths cite.
pub mod Agree
pub mod Closing
pub mod Determined
pub mod Descent
pub mod Fields
pub mod Within
pub mod Smear
