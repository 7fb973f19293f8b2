use Rattle.std.proofs.Common.{ap, ◌∙◌, option_map}
use Rattle.scenario_reader.proofs.Prelude.{get_member, view, view-lookup}
use Rattle.scenario_reader.proofs.Members.{others_stay}
use Rattle.serde_json.specs.View.{members_view}
use Rattle.scenario_reader.proofs.walk.taken.Goals as goal

pub returns-clause-value : goal.returns-clause-value
returns-clause-value c = ap (option_map view) c.remove.ensures.value ∙ view-lookup c.args.name.now c.args.members.now.entries

pub returns-clause-others : goal.returns-clause-others
returns-clause-others c = λ other apart. ap (λ es. get_member other (members_view es)) c.remove.ensures.entries ∙ others_stay c.args.name.now other c.args.members.now.entries apart
