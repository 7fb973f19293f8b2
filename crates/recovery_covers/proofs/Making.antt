-- What holds of the exchanges of an operation.
use Rattle.std.proofs.Common.{◌≡◌, ℕ, List, [], ◌∷◌, refl, subst, Option}
use Rattle.recovery_covers.proofs.Prelude.{All, All-cons, All-nil, Attempt, Attempts, Coord, Deed, Exchange, IsMove, Job, Moment, Observation, Op}
use Rattle.recovery_covers.proofs.Prelude.{ServerNo, World, attempts, by_deed, observed}
use Rattle.recovery_covers.proofs.Prelude.asking
use Rattle.recovery_covers.proofs.Prelude.attempt
use Rattle.recovery_covers.proofs.Prelude.deed
use Rattle.recovery_covers.proofs.Prelude.model
use Rattle.recovery_covers.proofs.Prelude.doing

-- an attachment of this server
abbrev pub IsAttachment : ℕ → Exchange → Type 0
IsAttachment n (model.Attach k expect to at) = k ≡ n
IsAttachment n (model.AttachAuto k observed to) = k ≡ n
IsAttachment n (model.Request k a) = ⊥
IsAttachment n (model.Write k size) = ⊥
IsAttachment n (model.Fetch k) = ⊥
IsAttachment n (model.Apply k) = ⊥
IsAttachment n (model.Befall k e) = ⊥
IsAttachment n (model.Rotate k) = ⊥
IsAttachment n (model.Purge k file) = ⊥

-- it holds of each attachment of a server
abbrev pub Attaches : (Exchange → Type 0) → ℕ → Type 0
Attaches M n = (e : Exchange) → IsAttachment n e → M e

-- it holds of each exchange that an operation may make
abbrev pub Makes : (Exchange → Type 0) → Deed → Type 0
Makes M (deed.Look n from) = Unit {0}
Makes M (deed.Request n a) = M (model.Request n.0 a)
Makes M (deed.Until n to) = (c : Coord) → M (model.Request n.0 (asking.StartUntil c))
Makes M (deed.Await n to) = Unit {0}
Makes M (deed.AwaitSet n m) = Unit {0}
Makes M (deed.Settle n) = Unit {0}
Makes M (deed.Cross c a b) = Attaches M a.0
Makes M (deed.Same n) = Attaches M n.0
Makes M (deed.Auto n m) = Attaches M n.0
Makes M (deed.Match n m every) = Unit {0}
Makes M (deed.CrossMatch n m) = Attaches M n.0
Makes M (deed.Finish lines) = Unit {0}

module _ (M : Exchange → Type 0) where
  abbrev Well : Attempt → Type 0
  Well (attempt.Goes o es k) = All M es
  Well (attempt.Stops c o) = Unit {0}
  Well (attempt.Ends lines) = Unit {0}

  nothing : All M []
  nothing = All-nil M

  one : (e : Exchange) → M e → All M (e ∷ [])
  one e h = All-cons M e [] h nothing

  attached-well : (n : ServerNo) (e : Exchange) → doing.IsAttachment n e → Attaches M n.0 → M e
  attached-well n e (doing.At expect to at) h = h _ refl
  attached-well n e (doing.BySet set to) h = h _ refl

  move-makes : (n : ServerNo) (d : Deed) → IsMove n d → Makes M d → Attaches M n.0
  move-makes n d (doing.Crosses c b) h = h
  move-makes n d _ h = h

  module _ (w : World) (j : Job) (rest : List Op) where
    well-by : (read : ℕ) (now : Moment) (d : Deed) (a : Attempt) → Attempts w read now j rest d a → Makes M d → Well a
    well-by read now d a (doing.Misses n from c why) h = tt
    well-by read now d a (doing.Fails x c why) h = tt
    well-by read now d a (doing.Asks n b) h = one (model.Request n.0 b) h
    well-by read now d a (doing.Begins n to c until) h = one (model.Request n.0 (asking.StartUntil c)) (h c)
    well-by read now d a (doing.Attaches n x e is made of can done) h = one e (attached-well n e of (move-makes n x is h))
    well-by read now d a (doing.Finishes lines) h = tt
    well-by read now d a _ h = nothing

    deed-well : (read : ℕ) (now : Moment) (d : Deed) → Makes M d → Well (by_deed w read now j rest d)
    deed-well read now d h = well-by read now d (by_deed w read now j rest d) (attempts w read now j rest d) h

    -- of an operation after which the job goes on
    pub made-well : (read : ℕ) (now : Moment) (d : Deed) → Makes M d → (ob : Option Observation) (es : List Exchange) (k : Job) → by_deed w read now j rest d ≡ attempt.Goes ob es k → All M es
    made-well read now d h ob es k goes = subst Well goes (deed-well read now d h)
