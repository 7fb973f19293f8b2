use Rattle.live_calls.proofs.Leaving.{refused-leave}
use Rattle.live_calls.proofs.laws.refused_commands_leave_the_state.Goals as goal

pub returns : goal.returns
returns c = refused-leave
