-- What copying values to a buffer returns and leaves.
pub mod Fill
