-- What storing a newer reading changes.
use Rattle.std.proofs.Common.{◌≡◌, ◌≢◌, ◌<◌, ℕ, Bool, true, false, [], ◌∷◌, Option, None, Some, refl, sym, ap, ◌∙◌, arith, if◌then◌else◌, IsSomeAnd, nat_lt}
use Rattle.std.specs.Option.{option_to_list}
use Rattle.command_outcomes.specs.KeptRows.declared.observation.Observation.{Observation}
use Rattle.command_outcomes.specs.KeptRows.declared.observation.Instance.{Instance}
use Rattle.command_outcomes.specs.KeptRows.declared.row.Change.TheVariants as change
use Rattle.command_outcomes.specs.KeptRows.declared.row.Row.TheVariants as row
use Rattle.command_outcomes.specs.InstanceKeeper.Book.{BookState, after_addition, instance_at, renewal, renewed, store_answer, store_change, stored_over}
use Rattle.command_outcomes.proofs.InstanceKeeper.Renewal.{renewal_some}
use Rattle.command_outcomes.specs.UnendedJobs.Jobs.{stored}
use Rattle.command_outcomes.specs.Turns.declared.reply.Reply.TheVariants as answered
use Rattle.knowledge.specs.Newer.{IsNewer, reading_of}
use Rattle.knowledge.specs.Kept.{changes_by}
use Rattle.knowledge.specs.Replies.{reply_by, stored_reply}

not_old : (m n : ℕ) → m < n → nat_lt n m ≡ false
not_old m n h = grind arith

valid-is : (kept i : Instance) → i.valid ≡ true → renewed kept (reading_of i) ≡ i
valid-is kept i valid =
    let made : Bool → Instance = λ v. record { no = i.no; read = i.read; moment = i.moment; valid = v; seen = i.seen } in
    ap made (sym valid)

other-read : (kept i : Instance) → kept.read < i.read → kept ≢ i
other-read kept i h e = omega (arith, ap (λ x. x.read) e)

-- with the instance that the book has
change-over : (kept i : Instance) → i.valid ≡ true → kept.read < i.read → store_change (Some kept) (reading_of i) ≡ Some (change.Put (row.Instance i))
change-over kept i valid later =
    ap (λ (old : Bool). if old then None else renewal kept (renewed kept (reading_of i))) (not_old kept.read i.read later)
    ∙ (ap (renewal kept) (valid-is kept i valid) ∙ renewal_some kept i (other-read kept i later))

stored-over : (b : BookState) (kept i : Instance) → i.valid ≡ true → kept.read < i.read → stored_over b (reading_of i) (Some kept) ≡ after_addition b i
stored-over b kept i valid later = rw (not_old kept.read i.read later, valid-is kept i valid, valid) refl

reply-over : (kept i : Instance) → kept.read < i.read → reply_by (store_answer (Some kept) (reading_of i)) ≡ answered.Stored
reply-over kept i later = rw (not_old kept.read i.read later) refl

changes-at : (x : Option Instance) (i : Instance) → i.valid ≡ true → IsSomeAnd x (λ kept. kept.read < i.read) → option_to_list (store_change x (reading_of i)) ≡ change.Put (row.Instance i) ∷ []
changes-at None i valid later = absurd later
changes-at (Some kept) i valid later = ap option_to_list (change-over kept i valid later)

stored-at : (b : BookState) (x : Option Instance) (i : Instance) → i.valid ≡ true → IsSomeAnd x (λ kept. kept.read < i.read) → stored_over b (reading_of i) x ≡ after_addition b i
stored-at b None i valid later = absurd later
stored-at b (Some kept) i valid later = stored-over b kept i valid later

reply-at : (x : Option Instance) (i : Instance) → IsSomeAnd x (λ kept. kept.read < i.read) → reply_by (store_answer x (reading_of i)) ≡ answered.Stored
reply-at None i later = absurd later
reply-at (Some kept) i later = reply-over kept i later

pub newer-changes : (b : BookState) (slot : Option Observation) (i : Instance) → IsNewer b slot i → changes_by b slot ≡ change.Put (row.Instance i) ∷ []
newer-changes b slot i n = ap (changes_by b) n.made ∙ changes-at (instance_at b i.no) i n.valid n.later

pub newer-stored : (b : BookState) (slot : Option Observation) (i : Instance) → IsNewer b slot i → stored b slot ≡ after_addition b i
newer-stored b slot i n = ap (stored b) n.made ∙ stored-at b (instance_at b i.no) i n.valid n.later

pub newer-reply : (b : BookState) (slot : Option Observation) (i : Instance) → IsNewer b slot i → stored_reply b slot ≡ answered.Stored
newer-reply b slot i n = ap (stored_reply b) n.made ∙ reply-at (instance_at b i.no) i n.later

pub ruleset newer = (newer-changes, newer-stored, newer-reply)
