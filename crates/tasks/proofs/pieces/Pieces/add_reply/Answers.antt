use Rattle.tasks.proofs.Sends.{held_more}
use Rattle.tasks.proofs.pieces.Pieces.add_reply.Goals as goal

pub returns-then-len-ge-PIECE-clause-ok : goal.returns-then-len-ge-PIECE-clause-ok
returns-then-len-ge-PIECE-clause-ok g c = λ from text carries.
    c.hand_over.ensures.stays from _ (held_more _ c.args.self.now.held.items _ _ text c.args.self.now.failed c.in_ok-reply_text_by.ensures.ok carries)
