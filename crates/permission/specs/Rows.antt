-- Rows of the permission table: which servers move to which source, and of which the job takes the leases.
use Rattle.std.specs.Prelude.{Bool, true, false, List, [], ◌∷◌, ◌++◌, Option, Some, None}
use Rattle.permission.specs.Prelude.{BookState, Command, Refusal, ServerNo, option_or, option_to_list}
use Rattle.permission.specs.Checks.{Case, unknown_in}
use Rattle.permission.specs.Lists.{moves_to}
use Rattle.permission.specs.Views.{is_before}
use Rattle.permission.specs.declared.case.Move.{Move}

-- Servers move to a new source, if there is one, which is looked at even if none moves. The job takes the leases of a
-- list.
abbrev pub moving : ServerNo → List ServerNo → Option ServerNo → List ServerNo → Case
moving i movers to leased = record {
  i = i;
  to = to;
  leased = leased;
  reached = leased;
  moves = moves_to movers to;
  sources = option_to_list to;
  crossed = [];
}

-- moves of which the first are by name before the others, or after them
abbrev pub in_order : Bool → List Move → List Move → List Move
in_order true ms ns = ms ++ ns
in_order false ms ns = ns ++ ms

abbrev pub is_first : BookState → ServerNo → Option ServerNo → Bool
is_first b i None = true
is_first b i (Some x) = is_before b i x

-- an instance goes to its source's source g, and its source x below it
abbrev pub swapping : BookState → ServerNo → Option ServerNo → Option ServerNo → Case
swapping b i x g = record {
  i = i;
  to = g;
  leased = i ∷ option_to_list x;
  reached = i ∷ option_to_list x;
  moves = in_order (is_first b i x) (moves_to (i ∷ []) g) (moves_to (option_to_list x) (Some i));
  sources = i ∷ option_to_list g;
  crossed = [];
}

-- the moves go by these servers' coordinates under their sources
abbrev pub going_by : List ServerNo → Case → Case
going_by servers c = record c { crossed = servers }

-- ---- a command of some kind

abbrev pub about_one : {A : Type 0} → A → (ServerNo → Option ServerNo → A) → Option ServerNo → Option ServerNo → A
about_one none f None d = none
about_one none f (Some i) d = f i d

-- what is so of a command by its kind, its instance and the destination that is given: `none` if it has no such kind,
-- or no instance is given
abbrev pub about : {K A : Type 0} → A → (K → ServerNo → Option ServerNo → A) → Option K → Command → A
about none f None given = none
about none f (Some c) given = about_one none (f c) given.i given.d

-- the refusal with the lowest number that applies to a command: 2, or what refuses it by its kind
abbrev pub refused : {K : Type 0} → BookState → (K → ServerNo → Option ServerNo → Option Refusal) → Option K → Command → Option Refusal
refused b by kind given = option_or (unknown_in b given) (about None by kind given)
