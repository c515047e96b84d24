-- Why blocks of records print what the whole input would.
pub mod Blocks
