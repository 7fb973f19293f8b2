-- What is passed on of server_words: its types and definitions.
pub use Rattle.server_words.specs.declared
pub use Rattle.server_words.specs.Words
