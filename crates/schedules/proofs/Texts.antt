-- What is written has no float.
use Rattle.std.proofs.lemmas.Bool.{or_from as none-of, or_parts as neither}
use Rattle.std.proofs.Common.{◌≡◌, ℕ, false, List, Option, Some, None, refl, codes, option_map, decimal}
use Rattle.std.specs.Ordering.{nat_cmp, match_ordering}
use Rattle.std.specs.Cmp.Lexicographic.{slice_cmp}
use Rattle.std.specs.declared.cmp.Ordering.{Ordering}
use Rattle.std.specs.declared.cmp.Ordering.TheVariants.{Less, Equal, Greater}
use Rattle.serde_json.specs.Data.{Data, string, Members, no_members, member, put}
use Rattle.serde_json.specs.Written.{has_float, members_have_float}
pub use Rattle.scenarios.proofs.OrchBase.Printed.{printed_is_utf8}
use Rattle.scenarios.specs.OrchBase.Names.{HostPort}
use Rattle.scenarios.specs.OrchBase.Words.{rule_text}
use Rattle.scenarios.specs.Commands.declared.turn.CommandTurn.{CommandTurn}
use Rattle.scenarios.specs.Turns.declared.turn.Act.{Act}
use Rattle.scenarios.specs.Turns.declared.turn.Act.TheVariants as act
use Rattle.scenarios.specs.Turns.declared.turn.Step.{Step}
use Rattle.scenarios.specs.Turns.declared.turn.Step.TheVariants as step
use Rattle.scenarios.specs.Turns.declared.turn.Turn.{Turn}
use Rattle.scenarios.specs.Turns.declared.turn.Turn.TheVariants as turn
use Rattle.schedules.specs.Turns.{act_data, given_members, name_text, step_data, turn_data, with_given}

put-plain : (k : List ℕ) (d : Data) (ms : Members) → has_float d ≡ false → members_have_float ms ≡ false → members_have_float (put k d ms) ≡ false
put-plain k d no_members e f = none-of (has_float d) false e refl
put-plain k d (member l x ms) e f =
    let parts = neither (has_float x) (members_have_float ms) f in
    by (slice_cmp nat_cmp k l) parts (put-plain k d ms e parts.1)
  where
    by : (o : Ordering) → (has_float x ≡ false) × (members_have_float ms ≡ false) → members_have_float (put k d ms) ≡ false → members_have_float (match_ordering o (member k d (member l x ms)) (member l d ms) (member l x (put k d ms))) ≡ false
    by Less parts more = none-of (has_float d) (members_have_float (member l x ms)) e f
    by Equal parts more = none-of (has_float d) (members_have_float ms) e parts.1
    by Greater parts more = none-of (has_float x) (members_have_float (put k d ms)) parts.0 more

-- a member that is a text if it is given
given-plain : {A : Type 0} (k : List ℕ) (text : A → List ℕ) (o : Option A) (ms : Members) → members_have_float ms ≡ false → members_have_float (with_given k (option_map (λ x. string (text x)) o) ms) ≡ false
given-plain k text None ms e = e
given-plain k text (Some x) ms e = put-plain k (string (text x)) ms refl e

given_plain : (names : List HostPort) (t : CommandTurn) → members_have_float (given_members names t) ≡ false
given_plain names t =
    given-plain (codes "rule") rule_text t.keys.rule _
    (given-plain (codes "reason") (λ x. x) t.keys.reason _
    (given-plain (codes "pattern") (λ f. f.text) t.keys.pattern _
    (given-plain (codes "owner") (λ x. x) t.keys.owner _
    (given-plain (codes "i") (λ n. name_text names n) t.command.i _
    (given-plain (codes "duration") decimal t.keys.duration _
    (given-plain (codes "d") (λ n. name_text names n) t.command.d no_members refl))))))

step_plain : (names : List HostPort) (x : Step) → has_float (step_data names x) ≡ false
step_plain names (step.Write n size) = refl
step_plain names _ = refl

act_plain : (names : List HostPort) (a : Act) → has_float (act_data names a) ≡ false
act_plain names (act.Command c) = none-of (members_have_float (given_members names c)) false (given_plain names c) refl
act_plain names _ = refl

pub no_float : (names : List HostPort) (t : Turn) → has_float (turn_data names t) ≡ false
no_float names (turn.Step x) = step_plain names x
no_float names (turn.Act a) = act_plain names a
no_float names (turn.As node a) = none-of (has_float (act_data names a)) false (act_plain names a) refl
no_float names _ = refl
