pub mod FaultLemmas
pub mod Judging
pub mod ListLemmas
pub mod Mapped
pub mod PatternLemmas
pub mod PrefixLemmas
