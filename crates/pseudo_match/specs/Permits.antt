-- What refuses these commands: the rows of the permission table, and what their checks are about.
use Rattle.std.specs.Prelude.{ℕ, Bool, true, false, ◌==◌, List, [], ◌∷◌, ◌++◌, Option, None}
use Rattle.std.specs.Option.{option_or, option_to_list}
use Rattle.permission.specs.OrchBase.declared.server.Moment.{Moment}
use Rattle.permission.specs.OrchBase.declared.server.ServerNo.{ServerNo}
use Rattle.permission.specs.Commands.declared.refusal.Refusal.{Refusal}
use Rattle.permission.specs.Commands.declared.turn.Command.{Command}
use Rattle.permission.specs.InstanceKeeper.Book.{BookState}
use Rattle.permission.specs.BookViews.Sources.{replicas_of}
use Rattle.permission.specs.Candidates.{without_candidate}
use Rattle.permission.specs.ServerModel.Worlds.{World}
use Rattle.permission.specs.Checks.{Case, first_refusal}
use Rattle.permission.specs.Replicas.{replicas_but}
use Rattle.permission.specs.Rows.{about, moving, refused}
use Rattle.permission.specs.Views.{source_above, source_of}
use Rattle.permission.specs.declared.case.Check.{Check}
use Rattle.permission.specs.declared.case.Check.TheVariants.{SameInstance, Busy, Unreachable, NoSource, AlreadyDetached, OtherCluster, Below, SourceHasNoSource, DestNotLogging, SameServerId, VersionLower, PseudoOff, MovedNotLogging}
use Rattle.permission.specs.declared.case.Lead.{Lead}
use Rattle.permission.specs.declared.case.Lead.TheVariants as lead
use Rattle.permission.specs.Commands.declared.kinds.MatchCommand.{MatchCommand}
use Rattle.permission.specs.Commands.declared.kinds.MatchCommand.TheVariants as command
use Rattle.pseudo_match.specs.Commands.{pseudo_command}

-- the checks of servers that go below any other
abbrev pub match_row : List Check
match_row = SameInstance ∷ Busy ∷ Unreachable ∷ OtherCluster ∷ Below ∷ DestNotLogging ∷ SameServerId ∷ VersionLower ∷ []

-- the row of a command, after the check that its instances are known and before its own one
abbrev pub row_of : MatchCommand → List Check
row_of command.Match = match_row
row_of command.MatchUp = Busy ∷ Unreachable ∷ NoSource ∷ AlreadyDetached ∷ SourceHasNoSource ∷ DestNotLogging ∷ SameServerId ∷ VersionLower ∷ []
row_of command.MatchReplicas = match_row
row_of command.RegroupReplicas = Busy ∷ []

-- which checks of its row come first, after the one that its instances are known
abbrev pub lead_of : MatchCommand → Lead
lead_of command.Match = lead.Apart
lead_of command.MatchUp = lead.Held
lead_of command.MatchReplicas = lead.Other
lead_of command.RegroupReplicas = lead.Held

-- the checks of marks, of servers that move and of replicas that are regrouped, if there are none and if there are
abbrev pub moved_row : Bool → List Check
moved_row true = PseudoOff ∷ MovedNotLogging ∷ []
moved_row false = MovedNotLogging ∷ []

abbrev pub regrouped_row : Bool → List Check
regrouped_row true = PseudoOff ∷ []
regrouped_row false = []

abbrev pub marks_row : Bool → MatchCommand → List Check
marks_row none command.Match = moved_row none
marks_row none command.MatchUp = moved_row none
marks_row none command.MatchReplicas = moved_row none
marks_row none command.RegroupReplicas = regrouped_row none

-- the row after a command's own check: there are no marks at the distance 0
abbrev pub last_row_of : ℕ → MatchCommand → List Check
last_row_of every c = marks_row (every == 0) c

-- the source and the source's source of a server
abbrev pub sources_over : BookState → ServerNo → List ServerNo
sources_over b i = option_to_list (source_of b i) ++ option_to_list (source_above b i)

-- which servers move to which source, by the destination that is given, and of which the job takes the leases
abbrev pub case_of : BookState → MatchCommand → ServerNo → Option ServerNo → Case
case_of b command.Match i d = moving i (i ∷ []) d (i ∷ option_to_list d)
case_of b command.MatchUp i d = moving i (i ∷ []) (source_above b i) (i ∷ sources_over b i)
case_of b command.MatchReplicas i d = moving i (replicas_but b i d) d (replicas_but b i d ++ option_to_list d)
case_of b command.RegroupReplicas i d = moving i [] None (i ∷ replicas_of b i)

-- a command's own check
abbrev pub own_refusal : World → BookState → Moment → MatchCommand → ServerNo → Option Refusal
own_refusal w b now command.Match i = None
own_refusal w b now command.MatchUp i = None
own_refusal w b now command.MatchReplicas i = None
own_refusal w b now command.RegroupReplicas i = without_candidate w b now i

-- the first check of a command's row that doesn't pass
abbrev pub row_refusal : World → BookState → MatchCommand → ServerNo → Option ServerNo → Option Refusal
row_refusal w b c i d = first_refusal w b (case_of b c i d) (row_of c)

-- the first check after a command's own that doesn't pass
abbrev pub last_refusal : World → BookState → ℕ → MatchCommand → ServerNo → Option ServerNo → Option Refusal
last_refusal w b every c i d = first_refusal w b (case_of b c i d) (last_row_of every c)

-- what refuses a command after its row
abbrev pub rest_refusal : World → BookState → Moment → ℕ → MatchCommand → ServerNo → Option ServerNo → Option Refusal
rest_refusal w b now every c i d = option_or (own_refusal w b now c i) (last_refusal w b every c i d)

-- what refuses a command about an instance, with marks at this distance
abbrev pub refusal_about : World → BookState → Moment → ℕ → MatchCommand → ServerNo → Option ServerNo → Option Refusal
refusal_about w b now every c i d = option_or (row_refusal w b c i d) (rest_refusal w b now every c i d)

-- the refusal with the lowest number that applies to one of these commands at a moment
abbrev pub refusal_of : World → BookState → Moment → ℕ → Command → Option Refusal
refusal_of w b now every given = refused b (refusal_about w b now every) (pseudo_command given.name) given

-- the servers of which the job takes the leases
abbrev pub list_of : BookState → MatchCommand → ServerNo → Option ServerNo → List ServerNo
list_of b c i d = (case_of b c i d).leased

abbrev pub leased_by : BookState → Command → List ServerNo
leased_by b given = about [] (list_of b) (pseudo_command given.name) given
