-- What the calls have in common: what each of their exits leaves, and that no event changes an image's length.
pub mod Left
mod Lent
mod OneLeft
mod SeenLeft
mod XmlLeft
