-- The names with which turns begin.
use Rattle.std.specs.Prelude.{ℕ, ◌∷◌, List, [], Bool, true, nat_eq, nat_lt, codes, find, option_map, Option, Some, None, Result, Ok}
use Rattle.scenario_turns.specs.Prelude.{BadTurn, Fault, Items, bytes_eq, fails, item_count, pointwise}
use Rattle.scenario_turns.specs.declared.word.Word.{Word}
use Rattle.scenario_turns.specs.declared.word.Word.TheVariants.{Write, Fetch, Apply, Fail, Heal, Rotate, Purge, Cut, Join, Tick, PollRead, PollStore, Polls, Round, Command, Job, Scan, Restart, Claim, Release, As}

abbrev pub is_word : List ℕ → List ℕ → Bool
is_word word text = pointwise nat_eq word text

-- the turns, each with its word
abbrev pub words : List (List ℕ × Word)
words =
    (codes "write", Write)
    ∷ (codes "fetch", Fetch)
    ∷ (codes "apply", Apply)
    ∷ (codes "fail", Fail)
    ∷ (codes "heal", Heal)
    ∷ (codes "cut", Cut)
    ∷ (codes "join", Join)
    ∷ (codes "rotate", Rotate)
    ∷ (codes "purge", Purge)
    ∷ (codes "tick", Tick)
    ∷ (codes "poll-read", PollRead)
    ∷ (codes "poll-store", PollStore)
    ∷ (codes "polls", Polls)
    ∷ (codes "round", Round)
    ∷ (codes "command", Command)
    ∷ (codes "job", Job)
    ∷ (codes "scan", Scan)
    ∷ (codes "restart", Restart)
    ∷ (codes "claim", Claim)
    ∷ (codes "release", Release)
    ∷ (codes "as", As)
    ∷ []

-- the turn of a word
unfoldable pub word_named : List ℕ → Option Word
word_named text = option_map (λ w. w.1) (find (λ w. bytes_eq text w.0) words)

abbrev pub word_or_fails : Option Word → Result Word Fault
word_or_fails None = fails BadTurn
word_or_fails (Some word) = Ok word

abbrev pub word_at : List ℕ → Result Word Fault
word_at text = word_or_fails (word_named text)

-- how many parts follow the word
abbrev pub parts_after : Word → ℕ
parts_after Write = 2
parts_after Fetch = 1
parts_after Apply = 1
parts_after Fail = 1
parts_after Heal = 1
parts_after Rotate = 1
parts_after Purge = 2
parts_after Cut = 2
parts_after Join = 2
parts_after Tick = 1
parts_after PollRead = 2
parts_after PollStore = 1
parts_after Polls = 0
parts_after Round = 0
parts_after Command = 2
parts_after Job = 1
parts_after Scan = 0
parts_after Restart = 0
parts_after Claim = 1
parts_after Release = 1
parts_after As = 2

abbrev pub has_parts : Word → Items → Bool
has_parts word rest = nat_eq (item_count rest) (parts_after word)

-- Whether a turn with this name may be alone among the turns of so many orchestrators. What happens to servers and the
-- time always may. What orchestrator does may if there is one, and what names one of several may if there are several.
abbrev pub stands : ℕ → Word → Bool
stands nodes Write = true
stands nodes Fetch = true
stands nodes Apply = true
stands nodes Fail = true
stands nodes Heal = true
stands nodes Rotate = true
stands nodes Purge = true
stands nodes Cut = true
stands nodes Join = true
stands nodes Tick = true
stands nodes PollRead = nat_eq nodes 1
stands nodes PollStore = nat_eq nodes 1
stands nodes Polls = nat_eq nodes 1
stands nodes Round = nat_eq nodes 1
stands nodes Command = nat_eq nodes 1
stands nodes Job = nat_eq nodes 1
stands nodes Scan = nat_eq nodes 1
stands nodes Restart = nat_eq nodes 1
stands nodes Claim = nat_lt 1 nodes
stands nodes Release = nat_lt 1 nodes
stands nodes As = nat_lt 1 nodes
