-- What the proofs of label_text share, and its laws: how many bytes decide a label, when target.hex decides nothing, and which numbers the files give.
pub mod Printed
pub mod Target
pub mod Enough
pub mod Cold
