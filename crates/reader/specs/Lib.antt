pub mod Manner
pub mod Tokens
pub mod Grammar
pub mod Reading
pub mod Told
pub mod Document
