-- What is answered.
use Rattle.std.specs.Prelude.{◌≡◌, Bool, Option, Some, None, if◌then◌else◌}
use Rattle.command_outcomes.specs.InstanceKeeper.declared.book.StoreAnswer.{StoreAnswer}
use Rattle.command_outcomes.specs.InstanceKeeper.declared.book.StoreAnswer.TheVariants as store
use Rattle.command_outcomes.specs.KeptRows.declared.observation.Observation.{Observation}
use Rattle.command_outcomes.specs.InstanceKeeper.Book.{BookState, instance_at, store_answer}
use Rattle.command_outcomes.specs.Turns.declared.reply.Reply.{Reply}
use Rattle.command_outcomes.specs.Turns.declared.reply.Reply.TheVariants as answered
use Rattle.knowledge.specs.declared.replies.Replies.{Replies}

-- this reply, and once more for the journal if it is written
pub record AreReply (written : Bool) (r : Reply) (both : Replies) : Type 0 where
  pub told : both.told ≡ r
  pub written_too : both.written ≡ (if written then Some r else None)

-- what storing a reading answers
abbrev pub reply_by : StoreAnswer → Reply
reply_by store.Unknown = answered.Unknown
reply_by (store.Old read) = answered.Old read
reply_by store.Stored = answered.Stored

abbrev pub stored_reply : BookState → Option Observation → Reply
stored_reply b None = answered.Nothing
stored_reply b (Some o) = reply_by (store_answer (instance_at b o.no) o)
