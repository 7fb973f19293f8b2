use Rattle.plan_lines.proofs.TakenOver.{takeovers-follow}
use Rattle.plan_lines.proofs.laws.plans_are_followed.Goals as goal

pub returns : goal.returns
returns c = takeovers-follow
