-- The text reads as JSON, with the value of the world.
pub use Rattle.std.proofs.lemmas.Bool.{and_parts as both}
use Rattle.std.proofs.Common.{◌≡◌, ◌∙◌, ◌≤◌, ℕ, ◌+◌, Bool, true, false, ◌&&◌, List, Option, Some, option_map, option_and_then, refl, sym, ap, arith}
use Rattle.scenario_dump.proofs.Prelude.{Data, Equal, Greater}
use Rattle.scenario_dump.proofs.Prelude.{Less, Members, MembersHaveNumbers, Ordering, Token, boolean}
use Rattle.scenario_dump.proofs.Prelude.{false≢true, member, members_outline, nat_cmp}
use Rattle.scenario_dump.proofs.Prelude.{no_members, object, of_json, of_members, put}
use Rattle.scenario_dump.proofs.Prelude.{slice_cmp}
use Rattle.scenario_dump.proofs.Prelude.json
use Rattle.scenario_dump.proofs.Prelude.tree
pub use Rattle.scenario_generator.proofs.ReadBack.{Reads, ReadsItems, reads_array, reads_item, reads_no_items, reads_number, reads_string, reads_text}

-- ---- values that read back, no deeper than this

-- members after others
abbrev pub behind : Members → Members → Members
behind no_members more = more
behind (member k d ms) more = member k d (behind ms more)

-- the key comes after those of the members
abbrev pub is_after : Ordering → Bool
is_after Less = false
is_after Equal = false
is_after Greater = true

abbrev pub above : List ℕ → Members → Bool
above k no_members = true
above k (member l d ms) = is_after (slice_cmp nat_cmp k l) && above k ms

-- each key comes after those of the found members, and these rise
abbrev pub rise : Members → Members → Bool
rise found no_members = true
rise found (member k d ms) = above k found && rise (behind found (member k d no_members)) ms

pub record ReadsMembers (k : ℕ) (found ms : Members) : Type 0 where
  pub back : of_members (members_outline ms) found ≡ Some (behind found ms)
  pub numbers : MembersHaveNumbers (members_outline ms)
  pub shallow : tree.members_depth (members_outline ms) ≤ k

pub reads_flag : (k : ℕ) (b : Bool) → Reads k (boolean b)
reads_flag k b = record { back = refl; numbers = tt; shallow = omega arith }

-- ---- members in the order of their keys

put_at : (o : Ordering) (k l : List ℕ) (d e : Data) (ms : Members) → slice_cmp nat_cmp k l ≡ o → is_after o ≡ true → put k d (member l e ms) ≡ member l e (put k d ms)
put_at Less k l d e ms is after = absurd (false≢true after)
put_at Equal k l d e ms is after = absurd (false≢true after)
put_at Greater k l d e ms is after = rw is refl

put_last : (found : Members) (k : List ℕ) (d : Data) → above k found ≡ true → put k d found ≡ behind found (member k d no_members)
put_last no_members k d last = refl
put_last (member l e ms) k d last =
    let p = both (is_after (slice_cmp nat_cmp k l)) (above k ms) last in
    put_at (slice_cmp nat_cmp k l) k l d e ms refl p.0 ∙ ap (member l e) (put_last ms k d p.1)

behind-behind : (a b c : Members) → behind (behind a b) c ≡ behind a (behind b c)
behind-behind no_members b c = refl
behind-behind (member k d ms) b c = ap (member k d) (behind-behind ms b c)

behind-none : (a : Members) → behind a no_members ≡ a
behind-none no_members = refl
behind-none (member k d ms) = ap (member k d) (behind-none ms)

pub reads_no_members : (k : ℕ) (found : Members) → ReadsMembers k found no_members
reads_no_members k found = record { back = ap Some (sym (behind-none found)); numbers = tt; shallow = omega arith }

pub reads_member : (k : ℕ) (found : Members) (l : List ℕ) (d : Data) (ms : Members) → above l found ≡ true → Reads k d → ReadsMembers k (behind found (member l d no_members)) ms → ReadsMembers k found (member l d ms)
reads_member k found l d ms last first rest = record {
  back = rw (first.back) (ap (of_members (members_outline ms)) (put_last found l d last) ∙ (rest.back ∙ ap Some (behind-behind found (member l d no_members) ms)));
  numbers = (first.numbers, rest.numbers);
  shallow = omega (arith, first.shallow, rest.shallow);
}

pub reads_object : (k : ℕ) (ms : Members) → ReadsMembers k no_members ms → Reads (k + 1) (object ms)
reads_object k ms members = record { back = ap (option_map object) members.back; numbers = members.numbers; shallow = omega (arith, members.shallow) }

-- values of members, each of which reads back
abbrev pub EachReads : ℕ → Members → Type 0
EachReads k no_members = Unit {0}
EachReads k (member l d ms) = Reads k d × EachReads k ms

pub reads_rising : (k : ℕ) (found ms : Members) → rise found ms ≡ true → EachReads k ms → ReadsMembers k found ms
reads_rising k found no_members rising each = reads_no_members k found
reads_rising k found (member l d ms) rising each =
    let p = both (above l found) (rise (behind found (member l d no_members)) ms) rising in
    reads_member k found l d ms p.0 each.0 (reads_rising k (behind found (member l d no_members)) ms p.1 each.1)

-- ---- the text

abbrev whole : Option (json.Json × List Token) → Option Data
whole o = option_and_then of_json (option_and_then (λ p. json.if_last p.0 p.1) o)
