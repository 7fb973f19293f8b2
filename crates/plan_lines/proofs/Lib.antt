pub mod Prelude
pub mod Peeling
pub mod TakenOver
mod Within
pub use Rattle.recovery_plans.proofs.PromotionRules as PromotionRules
