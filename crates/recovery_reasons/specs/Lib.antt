pub mod Prelude
pub mod Causes
pub mod OnWay
pub mod Choices
pub mod Steps
pub mod Ways
pub mod Changing
pub mod Reasons
pub mod Asking
pub mod Attaching
pub mod Waiting
pub mod Undoing
pub mod Nobody
pub mod Fatal
pub use Rattle.recovery_laws.specs.PromotionRules as PromotionRules
