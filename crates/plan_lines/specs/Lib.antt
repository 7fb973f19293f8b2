pub mod Prelude
pub mod Pieces
pub mod Straight
pub mod Takeovers
pub mod Expected
pub mod Branches
pub mod Courses
pub mod RecoveryGrounds
pub mod PlanTexts
pub use Rattle.recovery_plans.specs.PromotionRules as PromotionRules
