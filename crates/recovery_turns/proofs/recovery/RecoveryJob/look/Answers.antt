use Rattle.std.proofs.Common.{ap, sym, subst, refl, ◌∙◌, length}
use Rattle.recovery_turns.proofs.Prelude.{Fits, RecoveryLook, decided, decided_on, ground_of, settled}
use Rattle.recovery_turns.proofs.Turned.{can-take, decided-named, same-named}
use Rattle.recovery_turns.proofs.recovery.RecoveryJob.look.Goals as goal

pub decide-requires-clause-named : goal.decide-requires-clause-named
decide-requires-clause-named c =
    same-named (length c.args.world.now.servers) (length c.args.book.now.names) c.args.self.now (decided_on c.args.self.now c.undecided-decided.result) c.undecided-decided.ensures.value
    (sym c.requires.known) c.requires.named

pub settle-requires : goal.settle-requires
settle-requires c =
    decided-named (length c.args.world.now.servers) c.args.world.now c.args.book.now c.args.moment (decided_on c.args.self.now c.undecided-decided.result)
    (decided_on c.args.self.now c.decide.new.self) c.in_ok-decide.ensures
    (same-named (length c.args.world.now.servers) (length c.args.world.now.servers) c.args.self.now (decided_on c.args.self.now c.undecided-decided.result) c.undecided-decided.ensures.value refl
    c.requires.named)

pub returns-then-fits-clause-can : goal.returns-then-fits-clause-can
returns-then-fits-clause-can c =
    let w = c.args.world.now in
    let b = c.args.book.now in
    let fits = subst (λ (l : RecoveryLook). Fits c.args.self.now l.decided) c.as_look.ensures (c.fits.ensures c.if-fits.true) in
    can-take w b c.args.read c.args.moment c.args.self.now c.in_ok-look.look
    (c.in_ok-look.ensures.turn ∙ ap (settled w c.args.read c.args.moment) (c.in_ok-decide.ensures ∙ ap (decided (ground_of w b c.args.moment)) c.undecided-decided.ensures.value))
    c.requires.named c.in_ok-look.ensures.spare fits c.in_ok-look.ensures.ends
