-- How calls end.
use Rattle.std.proofs.Common.{◌≡◌, ◌∙◌, ℕ, ◌≤◌, true, false, List, [], Option, Some, None, Ok, Err, refl, sym, ap, subst, arith, ◌⊎◌, inl, inr, IfOk, IfSome, codes, Result}
use Rattle.top_call.proofs.Prelude.{AskARead, AskOfRead, Asks, AskToDraw, Call, Closes, Consumes, DrawEnds, Drawing, End, Ending, Ends, Fault}
use Rattle.top_call.proofs.Prelude.{FaultsAs, FaultsFor, HasKeepersCause, Idles, IsComplete, IsDrawn, IsGood, IsParse, IsReported, IsTaken, IsUsage}
use Rattle.top_call.proofs.Prelude.{NoneRose, OfRead, Places, ReadsWhole, Rose, Row, Scenario, FailsByKeeper, Taken, TakesLine, Tells, Usage, Way}
use Rattle.top_call.proofs.Prelude.{Work, between, call, drawing_of, drawn_text, fault_text, names_of, nothing_is_front, places_of}
use Rattle.top_call.proofs.Prelude.{same_Some, scenario_in, status_of, taken, taken_have, takes_nothing, task_of}
use Rattle.top_call.proofs.Prelude.ends
use Rattle.top_call.proofs.Prelude.usage
use Rattle.top_call.proofs.Prelude.way

-- ---- of the bytes that were read

pub each : (left : Option (List ℕ)) (P : List ℕ → Type 0) → ((bytes : List ℕ) → P bytes) → OfRead left P
each None P f = ([], f [])
each (Some bytes) P f = f bytes

pub lifted : (left : Option (List ℕ)) (P Q : List ℕ → Type 0) → ((bytes : List ℕ) → P bytes → Q bytes) → OfRead left P → OfRead left Q
lifted None P Q f h = (h.0, f h.0 h.1)
lifted (Some bytes) P Q f h = f bytes h

-- if they are known
pub known : (left : Option (List ℕ)) (P Q : List ℕ → Type 0) → ((bytes : List ℕ) → P bytes → Q bytes) → OfRead left P → IfSome left Q
known None P Q f h = tt
known (Some bytes) P Q f h = f bytes h

-- ---- the task

abbrev pub work : Places → Scenario → Option (List Row) → Option (List Row) → Work
work p s old new = record { task = task_of p (names_of s); scenario = s; old = old; new = new }

module _ (words : List (List ℕ)) (bytes : List ℕ) (p : Places) (s : Scenario) (old new : Option (List Row)) (out : End) (first mid last : Taken) (taken_as : places_of words ≡ Ok p) (asks_read : AskOfRead p) (read_as : scenario_in bytes ≡ Ok s) where
  asks : Asks (call words bytes old new out (between first last)) (work p s old new)
  asks = record { is = record { places = p; taken = taken_as; asks = asks_read; read = read_as; task = refl }; old = refl; new = refl }

  closes : (ending : Ending) (line : List ℕ) → Tells (work p s old new) out (between first mid) ending → first.faults ≤ mid.faults → TakesLine (between mid last) line → Closes (call words bytes old new out (between first last)) ending line
  closes ending line tells later took = record { work = work p s old new; asks = asks; mid = mid; tells = tells; later = later; err = took }

  pub failing : Tells (work p s old new) out (between first mid) ends.Unwritten → first.faults ≤ mid.faults → TakesLine (between mid last) (codes "write fault\n") → Ends (call words bytes old new out (between first last)) way.Sink
  failing tells later took = inl (closes ends.Unwritten (codes "write fault\n") tells later took)

  pub wanting : Tells (work p s old new) out (between first mid) ends.Memory → first.faults ≤ mid.faults → TakesLine (between mid last) (codes "out of memory\n") → Ends (call words bytes old new out (between first last)) way.Memory
  wanting tells later took = inr (inl (closes ends.Memory (codes "out of memory\n") tells later took))

-- a sink failed
pub sink_rose : (w : Work) (out : End) (first mid last : Taken) → Tells w out (between first mid) ends.Unwritten → mid.faults ≤ last.faults → Rose out.old.faults out.new.faults ⊎ Rose first.faults last.faults
sink_rose w out first mid last (inl never) later = absurd never
sink_rose w out first mid last (inr (inl fails)) later = let rose : Rose first.faults mid.faults = fails.on_err.failed in inr (omega (arith, later, rose))
sink_rose w out first mid last (inr (inr (inl fails))) later = inl fails.on_out.failed
sink_rose w out first mid last (inr (inr (inr fails))) later = inl fails.on_out.failed

-- ---- nothing was done

pub idles : (words : List (List ℕ)) (bytes : List ℕ) (kept : Option (List Row)) (out : Taken) (err : End) (line : List ℕ) → TakesLine err line → Idles (call words bytes kept kept (between out out) err) line
idles words bytes kept out err line took = record { kept = refl; out = takes_nothing out.bytes; err = took }

pub faulty : (words : List (List ℕ)) (bytes : List ℕ) (p : Places) (fault : Fault) (kept : Option (List Row)) (out : Taken) (err : End) (w : Way) → places_of words ≡ Ok p → AskOfRead p → scenario_in bytes ≡ Err fault
    → ((w ≡ way.Fault) × TakesLine err (fault_text fault)) ⊎ ((w ≡ way.Memory) × TakesLine err (codes "out of memory\n")) → Ends (call words bytes kept kept (between out out) err) w
faulty words bytes p fault kept out err w taken_as asks_read read_as (inl closed) =
    subst (Ends (call words bytes kept kept (between out out) err)) (sym closed.0) ((p, taken_as, asks_read), (fault, read_as, idles words bytes kept out err (fault_text fault) closed.1))
faulty words bytes p fault kept out err w taken_as asks_read read_as (inr closed) =
    subst (Ends (call words bytes kept kept (between out out) err)) (sym closed.0) (inl (idles words bytes kept out err (codes "out of memory\n") closed.1))

-- ---- statuses

-- the way of each status
module _ where
  pub of_one : (w : Way) → status_of w ≡ 1 → w ≡ way.Usage
  of_one (way.Reported true) e = absurd (omega (arith, e))
  of_one way.Usage e = refl
  of_one _ e = absurd (omega (arith, e))

  pub of_two : (w : Way) → status_of w ≡ 2 → w ≡ way.Fault
  of_two (way.Reported true) e = absurd (omega (arith, e))
  of_two way.Fault e = refl
  of_two _ e = absurd (omega (arith, e))

  pub of_three : (w : Way) → status_of w ≡ 3 → w ≡ way.Source
  of_three (way.Reported true) e = absurd (omega (arith, e))
  of_three way.Source e = refl
  of_three _ e = absurd (omega (arith, e))

  pub of_four : (w : Way) → status_of w ≡ 4 → w ≡ way.Sink
  of_four (way.Reported true) e = absurd (omega (arith, e))
  of_four way.Sink e = refl
  of_four _ e = absurd (omega (arith, e))

  pub of_five : (w : Way) → status_of w ≡ 5 → w ≡ way.Keeper
  of_five (way.Reported true) e = absurd (omega (arith, e))
  of_five way.Keeper e = refl
  of_five _ e = absurd (omega (arith, e))

  pub of_six : (w : Way) → status_of w ≡ 6 → w ≡ way.Memory
  of_six (way.Reported true) e = absurd (omega (arith, e))
  of_six way.Memory e = refl
  of_six _ e = absurd (omega (arith, e))

  pub of_done : (w : Way) → (status_of w ≡ 0) ⊎ (status_of w ≡ 7) → IsReported w ⊎ (w ≡ way.Drawn)
  of_done (way.Reported refused) e = inl tt
  of_done way.Drawn e = inr refl
  of_done way.Usage (inl e) = absurd (omega (arith, e))
  of_done way.Usage (inr e) = absurd (omega (arith, e))
  of_done way.Fault (inl e) = absurd (omega (arith, e))
  of_done way.Fault (inr e) = absurd (omega (arith, e))
  of_done way.Source (inl e) = absurd (omega (arith, e))
  of_done way.Source (inr e) = absurd (omega (arith, e))
  of_done way.Sink (inl e) = absurd (omega (arith, e))
  of_done way.Sink (inr e) = absurd (omega (arith, e))
  of_done way.Keeper (inl e) = absurd (omega (arith, e))
  of_done way.Keeper (inr e) = absurd (omega (arith, e))
  of_done way.Memory (inl e) = absurd (omega (arith, e))
  of_done way.Memory (inr e) = absurd (omega (arith, e))

-- ---- the row store's count

pub unmoved : (before now : ℕ) (w : Way) → (w ≡ way.Keeper → ⊥) → now ≡ before → FailsByKeeper before now (status_of w)
unmoved before now w other same = record {
  later = omega (arith, same);
  failed = λ five. absurd (other (of_five w five));
  idle = λ low. same;
}

pub told_of_faults : (w : Way) (P Q : Type 0) → ((w ≡ way.Fault) × P) ⊎ ((w ≡ way.Memory) × Q) → w ≡ way.Keeper → ⊥
told_of_faults w P Q (inl x) is = let at = x.0 in absurd cc
told_of_faults w P Q (inr x) is = let at = x.0 in absurd cc

-- by the way that each ending of a task leads to
abbrev pub way_of : Ending → Way
way_of (ends.Written refused) = way.Reported refused
way_of ends.Unwritten = way.Sink
way_of ends.Keeper = way.Keeper
way_of ends.Memory = way.Memory

pub counted : (before now : ℕ) (e : Ending) → HasKeepersCause before now e → FailsByKeeper before now (status_of (way_of e))
counted before now e cause = record {
  later = cause.later;
  failed = λ five. cause.failed (at_five e five);
  idle = λ low. absurd (asked e low);
}
  where
    at_five : (e : Ending) → status_of (way_of e) ≡ 5 → e ≡ ends.Keeper
    at_five (ends.Written true) five = absurd (omega (arith, five))
    at_five ends.Keeper five = refl
    at_five _ five = absurd (omega (arith, five))

    is_low : (n : ℕ) → (n ≡ 1) ⊎ (n ≡ 2) ⊎ (n ≡ 3) → (1 ≤ n) × (n ≤ 3)
    is_low n (inl e) = (omega (arith, e), omega (arith, e))
    is_low n (inr (inl e)) = (omega (arith, e), omega (arith, e))
    is_low n (inr (inr e)) = (omega (arith, e), omega (arith, e))

    asked : (e : Ending) → (status_of (way_of e) ≡ 1) ⊎ (status_of (way_of e) ≡ 2) ⊎ (status_of (way_of e) ≡ 3) → ⊥
    asked (ends.Written true) low = let is = is_low 7 low in omega (arith, is.1)
    asked (ends.Written false) low = let is = is_low 0 low in omega (arith, is.0)
    asked ends.Unwritten low = let is = is_low 4 low in omega (arith, is.1)
    asked ends.Keeper low = let is = is_low 5 low in omega (arith, is.1)
    asked ends.Memory low = let is = is_low 6 low in omega (arith, is.1)

pub keeper_rose : (before now : ℕ) (w : Way) → FailsByKeeper before now (status_of w) → w ≡ way.Keeper → Rose before now
keeper_rose before now w stops is = stops.failed (ap status_of is)

-- ---- what a command line asks

pub same_places : (r : Result Places Usage) (p q : Places) → r ≡ Ok p → r ≡ Ok q → p ≡ q
same_places (Ok x) p q e f = cc
same_places (Err u) p q e f = absurd cc

pub none_or_some : (o : Option Drawing) (d : Drawing) → o ≡ None → o ≡ Some d → ⊥
none_or_some None d none some = absurd cc
none_or_some (Some e) d none some = absurd cc

-- what one reading of the command line gives, each does
module _ (words : List (List ℕ)) (p : Places) (taken_as : places_of words ≡ Ok p) where
  pub reads_at : AskARead words → AskOfRead p
  reads_at ask = subst AskOfRead (same_places (places_of words) ask.0 p ask.1 taken_as) ask.2

  pub draws_at : (d : Drawing) → AskToDraw words d → drawing_of p ≡ Some d
  draws_at d ask = subst (λ (q : Places). drawing_of q ≡ Some d) (same_places (places_of words) ask.0 p ask.1 taken_as) ask.2

-- a command line doesn't ask for both
pub never_both : (words : List (List ℕ)) (d : Drawing) → AskARead words → AskToDraw words d → ⊥
never_both words d read draw = none_or_some (drawing_of draw.0) d (reads_at words draw.0 draw.1 read) draw.2

abbrev pub asks_of : (c : Call) (w : Work) → Asks c w → AskARead c.words
asks_of c w asks = (asks.is.places, asks.is.taken, asks.is.asks)

-- ---- a scenario is drawn

module _ (words : List (List ℕ)) (bytes : List ℕ) (p : Places) (d : Drawing) (kept : Option (List Row)) (out err : End) (taken_as : places_of words ≡ Ok p) (draws : drawing_of p ≡ Some d) where
  abbrev drawing_call : Call
  drawing_call = call words bytes kept kept out err

  drew_whole : DrawEnds d 0 out err → Ends drawing_call way.Drawn
  drew_whole (inl e) = record { drawing = d; asks = (p, taken_as, draws); kept = refl; out = e.1; err = e.2 }
  drew_whole (inr (inl e)) = let no : 0 ≡ 4 = e.0 in absurd (omega (arith, no))
  drew_whole (inr (inr e)) = let no : 0 ≡ 6 = e.0 in absurd (omega (arith, no))

  drew_failing : DrawEnds d 4 out err → Ends drawing_call way.Sink
  drew_failing (inl e) = let no : 4 ≡ 0 = e.0 in absurd (omega (arith, no))
  drew_failing (inr (inl e)) = inr (record { drawing = d; asks = (p, taken_as, draws); kept = refl; out = e.1; err = e.2 })
  drew_failing (inr (inr e)) = let no : 4 ≡ 6 = e.0 in absurd (omega (arith, no))

  drew_wanting : DrawEnds d 6 out err → Ends drawing_call way.Memory
  drew_wanting (inl e) = let no : 6 ≡ 0 = e.0 in absurd (omega (arith, no))
  drew_wanting (inr (inl e)) = let no : 6 ≡ 4 = e.0 in absurd (omega (arith, no))
  drew_wanting (inr (inr e)) = inr (inr (record { drawing = d; asks = (p, taken_as, draws); kept = refl; out = e.1; err = e.2 }))

  pub drew : (w : Way) → DrawEnds d (status_of w) out err → (w ≡ way.Drawn) ⊎ (w ≡ way.Sink) ⊎ (w ≡ way.Memory) → Ends drawing_call w
  drew w ended (inl is) = subst (Ends drawing_call) (sym is) (drew_whole (subst (λ (v : Way). DrawEnds d (status_of v) out err) is ended))
  drew w ended (inr (inl is)) = subst (Ends drawing_call) (sym is) (drew_failing (subst (λ (v : Way). DrawEnds d (status_of v) out err) is ended))
  drew w ended (inr (inr is)) = subst (Ends drawing_call) (sym is) (drew_wanting (subst (λ (v : Way). DrawEnds d (status_of v) out err) is ended))

-- it ends by no other way
pub record IsDrawWay (w : Way) : Type 0 where
  pub not_usage : w ≡ way.Usage → ⊥
  pub not_source : w ≡ way.Source → ⊥
  pub not_keeper : w ≡ way.Keeper → ⊥
  pub not_reported : IsReported w → ⊥

pub draw_way : (w : Way) → (w ≡ way.Drawn) ⊎ (w ≡ way.Sink) ⊎ (w ≡ way.Memory) → IsDrawWay w
draw_way w (inl is) = subst IsDrawWay (sym is) (record { not_usage = λ e. absurd cc; not_source = λ e. absurd cc; not_keeper = λ e. absurd cc; not_reported = λ e. e })
draw_way w (inr (inl is)) = subst IsDrawWay (sym is) (record { not_usage = λ e. absurd cc; not_source = λ e. absurd cc; not_keeper = λ e. absurd cc; not_reported = λ e. e })
draw_way w (inr (inr is)) = subst IsDrawWay (sym is) (record { not_usage = λ e. absurd cc; not_source = λ e. absurd cc; not_keeper = λ e. absurd cc; not_reported = λ e. e })

-- and by that of a sink only if out failed
pub draw_rose : (d : Drawing) (w : Way) (out err : End) → DrawEnds d (status_of w) out err → w ≡ way.Sink → Rose out.old.faults out.new.faults
draw_rose d w out err ended is = at (subst (λ (v : Way). DrawEnds d (status_of v) out err) is ended)
  where
    at : DrawEnds d 4 out err → Rose out.old.faults out.new.faults
    at (inl e) = let no : 4 ≡ 0 = e.0 in absurd (omega (arith, no))
    at (inr (inl e)) = e.1.failed
    at (inr (inr e)) = let no : 4 ≡ 6 = e.0 in absurd (omega (arith, no))

-- what an accepted command line asks to draw may be drawn
pub drawing_sound : (p : Places) (d : Drawing) → IsTaken p → drawing_of p ≡ Some d → IsDrawn d
drawing_sound p d taken is = subst (λ (o : Option Drawing). IfSome o IsDrawn) is (taken_have taken.0 p taken.1).drawn

pub drawn_once : (P : Drawing → Type 0) (o : Option Drawing) (d e : Drawing) → o ≡ Some d → o ≡ Some e → P d → P e
drawn_once P o d e first second has = subst P (same_Some d e (sym first ∙ second)) has

-- memory ran out before it was begun
pub undrawn : (d : Drawing) (out : Taken) (err : End) → TakesLine err (codes "out of memory\n") → DrawEnds d 6 (between out out) err
undrawn d out err took = inr (inr (refl, nothing_is_front out.bytes out.bytes (drawn_text d) (takes_nothing out.bytes), took))

-- the source was read to its end if the command line asks something of it
pub read_whole : (words : List (List ℕ)) (left left_now : Option (List ℕ)) (kept kept_now : Option (List Row)) (out err : End) (w : Way) (status : ℕ) → status ≡ status_of w → (IsReported w → IfSome left (λ bytes. Consumes left left_now bytes))
    → OfRead left (λ bytes. Ends (call words bytes kept kept_now out err) w) → IfSome left (λ bytes. ReadsWhole words bytes status left left_now)
read_whole words None left_now kept kept_now out err w status is read ended = tt
read_whole words (Some bytes) left_now kept kept_now out err w status is read ended = λ ask done. go ask (of_done w (subst (λ (n : ℕ). (n ≡ 0) ⊎ (n ≡ 7)) is done))
  where
    go : AskARead words → IsReported w ⊎ (w ≡ way.Drawn) → Consumes (Some bytes) left_now bytes
    go ask (inl reported) = read reported
    go ask (inr drawn) = let at : Ends (call words bytes kept kept_now out err) way.Drawn = subst (Ends (call words bytes kept kept_now out err)) drawn ended in absurd (never_both words at.drawing ask at.asks)

-- ---- the command line is accepted

pub not_both : {A E : Type 0} (r : Result A E) (x : A) (e : E) → r ≡ Ok x → r ≡ Err e → ⊥
not_both (Ok y) x e good bad = absurd cc
not_both (Err d) x e good bad = absurd cc

-- a scenario has no fault
sound : (bytes : List ℕ) (s : Scenario) (f : Fault) → scenario_in bytes ≡ Ok s → scenario_in bytes ≡ Err f → ⊥
sound bytes s f read_as fault_as = not_both (scenario_in bytes) s f read_as fault_as

module _ (c : Call) where
  taken_twice : (p : Places) → places_of c.words ≡ Ok p → places_of c.words ≡ Err usage.BadWords → ⊥
  taken_twice p taken_as bad = not_both (places_of c.words) p usage.BadWords taken_as bad

  fault_back : (w : Way) → Ends c w → w ≡ way.Fault → (f : Fault) × (scenario_in c.bytes ≡ Err f)
  fault_back w ends_so is = let at : Ends c way.Fault = subst (Ends c) is ends_so in (at.1.0, at.1.1)

  fault_on : (w : Way) (f : Fault) → AskARead c.words → Ends c w → scenario_in c.bytes ≡ Err f → (status_of w ≡ 2) ⊎ (status_of w ≡ 3) ⊎ (status_of w ≡ 6)
  fault_on (way.Reported refused) f ask ends_so fault_as = absurd (sound c.bytes ends_so.work.scenario f ends_so.asks.is.read fault_as)
  fault_on way.Drawn f ask ends_so fault_as = absurd (never_both c.words ends_so.drawing ask ends_so.asks)
  fault_on way.Usage f ask ends_so fault_as = absurd (taken_twice ask.0 ask.1 ends_so.0)
  fault_on way.Fault f ask ends_so fault_as = inl refl
  fault_on way.Source f ask ends_so fault_as = inr (inl refl)
  fault_on way.Sink f ask (inl closes) fault_as = absurd (sound c.bytes closes.work.scenario f closes.asks.is.read fault_as)
  fault_on way.Sink f ask (inr draws) fault_as = absurd (never_both c.words draws.drawing ask draws.asks)
  fault_on way.Keeper f ask ends_so fault_as = absurd (sound c.bytes ends_so.work.scenario f ends_so.asks.is.read fault_as)
  fault_on way.Memory f ask ends_so fault_as = inr (inr refl)

  faults_for : (p : Places) → places_of c.words ≡ Ok p → (w : Way) (o : Option Drawing) → drawing_of p ≡ o → Ends c w → FaultsFor o (scenario_in c.bytes) (status_of w)
  faults_for p taken_as w None is ends_so = record {
    only = λ two. fault_back w ends_so (of_two w two);
    always = λ f fault_as. fault_on w f (p, taken_as, is) ends_so fault_as;
  }
  faults_for p taken_as w (Some d) is ends_so = λ two. let at : Ends c way.Fault = subst (Ends c) (of_two w two) ends_so in never_both c.words d at.0 (p, taken_as, is)

  pub faults : (w : Way) → Ends c w → FaultsAs (places_of c.words) (scenario_in c.bytes) (status_of w)
  faults w ends_so = at (places_of c.words) refl
    where
      at : (r : Result Places Usage) → places_of c.words ≡ r → FaultsAs r (scenario_in c.bytes) (status_of w)
      at (Ok p) is = faults_for p is w (drawing_of p) refl ends_so
      at (Err u) is = λ two. let fault : Ends c way.Fault = subst (Ends c) (of_two w two) ends_so in not_both (places_of c.words) fault.0.0 u fault.0.1 is

pub no_usage : (words : List (List ℕ)) (p : Places) (w : Way) → places_of words ≡ Ok p → (w ≡ way.Usage → ⊥) → IsUsage words (status_of w)
no_usage words p w taken_as other = record {
  only = λ one. absurd (other (of_one w one));
  always = λ bad. absurd (not_both (places_of words) p usage.BadWords taken_as bad);
}

pub bad_usage : (words : List (List ℕ)) → places_of words ≡ Err usage.BadWords → IsUsage words 1
bad_usage words bad = record { only = λ one. bad; always = λ bad. inl refl }

pub memory_usage : (words : List (List ℕ)) → IsUsage words 6
memory_usage words = record { only = λ one. absurd (omega (arith, one)); always = λ bad. inr refl }

pub complete : (c : Call) (w : Way) (sb sa kb ka : ℕ) → (w ≡ way.Source → Rose sb sa) → (w ≡ way.Sink → Rose c.out.old.faults c.out.new.faults ⊎ Rose c.err.old.faults c.err.new.faults) → (w ≡ way.Keeper → Rose kb ka) → Ends c w → IsGood c.words c.bytes
    → NoneRose sb sa kb ka c.out c.err → IsComplete (status_of w)
complete c (way.Reported true) sb sa kb ka source sink keeper ends_so good none = inr (inl refl)
complete c (way.Reported false) sb sa kb ka source sink keeper ends_so good none = inl refl
complete c way.Drawn sb sa kb ka source sink keeper ends_so good none = inl refl
complete c way.Usage sb sa kb ka source sink keeper ends_so good none = absurd (taken_twice c good.places good.taken ends_so.0)
complete c way.Fault sb sa kb ka source sink keeper ends_so good none =
    let read = good.read (reads_at c.words good.places good.taken ends_so.0) in
    absurd (sound c.bytes read.0 ends_so.1.0 read.1 ends_so.1.1)
complete c way.Source sb sa kb ka source sink keeper ends_so good none = absurd (none.no_source (source refl))
complete c way.Sink sb sa kb ka source sink keeper ends_so good none = absurd (no_sink (sink refl))
  where
    no_sink : Rose c.out.old.faults c.out.new.faults ⊎ Rose c.err.old.faults c.err.new.faults → ⊥
    no_sink (inl rose) = none.no_out rose
    no_sink (inr rose) = none.no_err rose
complete c way.Keeper sb sa kb ka source sink keeper ends_so good none = absurd (none.no_keeper (keeper refl))
complete c way.Memory sb sa kb ka source sink keeper ends_so good none = inr (inr refl)

-- ---- what was read of it is handed on

pub parse_ok : (words : List (List ℕ)) (r : Result Places Usage) (p : Places) → r ≡ Ok p → IsParse words r → places_of words ≡ Ok p
parse_ok words r p is h = subst (IsParse words) is h

pub parse_bad : (words : List (List ℕ)) (r : Result Places Usage) → r ≡ Err usage.BadWords → IsParse words r → places_of words ≡ Err usage.BadWords
parse_bad words r is h = subst (IsParse words) is h

pub parse_taken : (words : List (List ℕ)) (r : Result Places Usage) → IsParse words r → IfOk r IsTaken
parse_taken words (Ok p) h = (words, h)
parse_taken words (Err u) h = tt

pub not_asked : (words : List (List ℕ)) (d : Drawing) → places_of words ≡ Err usage.BadWords → AskToDraw words d → ⊥
not_asked words d bad ask = not_both (places_of words) ask.0 usage.BadWords ask.1 bad
