-- How calls end that ask for a live run.
pub use Rattle.top_call.proofs.Ends.{faults as plain_faults, same_places as both_ok}
use Rattle.top_call.proofs.Ends.{complete as plain_complete, read_whole as plain_read}
use Rattle.top_call.proofs.Reports.{unlike}
use Rattle.std.proofs.Common.{◌≡◌, ℕ, ◌≤◌, true, false, Bool, List, [], Option, Some, None, Ok, Err, refl, sym, subst, ◌⊎◌, inl, inr, IfSome, Result, codes}
use Rattle.live_calls.proofs.Prelude.{AskLive, AskToDraw, Call, Consumes, Drawing, End, Ends, Entry, Fails, FailsIn, Fault, FaultsBy, Idles, IsComplete}
use Rattle.live_calls.proofs.Prelude.{IsGood, IsLive, IsPlain, IsReported, IsTaken, LiveEnds, LiveReport, Lives, LiveTells, NoneRose}
use Rattle.live_calls.proofs.Prelude.{OfRead, Own, Places, ReadsWhole, Rose, Row, RunsAlone, Scenario, Taken, Takes, TakesFront, TakesLine, Usage}
use Rattle.live_calls.proofs.Prelude.{Way, between, call, drawing_by, drawing_of, known, fault_text, idles, is_live, is_live_word, live_report}
use Rattle.live_calls.proofs.Prelude.{live_scenario, none_or_some, not_both, of_done, of_two, own_at, places_of, reads_at, status_of, taken_have}
use Rattle.live_calls.proofs.Prelude.ends
use Rattle.live_calls.proofs.Prelude.own
use Rattle.live_calls.proofs.Prelude.usage
use Rattle.live_calls.proofs.Prelude.way
use Rattle.live_calls.proofs.LiveScenarios.{alone_read}

-- ---- the command line

not_drawn : (o : Option Own) (p : Places) → is_live_word o ≡ true → drawing_by o p ≡ None
not_drawn None p is = refl
not_drawn (Some own.Generate) p is = absurd cc
not_drawn _ p is = refl

-- a command line that asks for a live run asks something of a scenario that is read
pub live_reads : (p : Places) → is_live p ≡ true → drawing_of p ≡ None
live_reads p is = not_drawn (own_at p.command) p is

-- a command line that doesn't name `live` doesn't ask for such a run
pub never_both : (words : List (List ℕ)) → IsPlain words → AskLive words → ⊥
never_both words plain ask = unlike (is_live ask.places) ask.live (plain ask.places ask.taken)

pub is_plain : (words : List (List ℕ)) (p : Places) → places_of words ≡ Ok p → is_live p ≡ false → IsPlain words
is_plain words p taken is = λ q other. subst (λ (x : Places). is_live x ≡ false) (both_ok (places_of words) p q taken other) is

pub bad_is_plain : (words : List (List ℕ)) → places_of words ≡ Err usage.BadWords → IsPlain words
bad_is_plain words bad = λ q other. absurd (not_both (places_of words) q usage.BadWords other bad)

-- it names `live`, or it doesn't
pub plain_or_live : (words : List (List ℕ)) → IsPlain words ⊎ AskLive words
plain_or_live words = at (places_of words) refl
  where
    by : (p : Places) → places_of words ≡ Ok p → (b : Bool) → is_live p ≡ b → IsPlain words ⊎ AskLive words
    by p taken true is = inr (record { places = p; taken = taken; live = is })
    by p taken false is = inl (is_plain words p taken is)

    at : (r : Result Places Usage) → places_of words ≡ r → IsPlain words ⊎ AskLive words
    at (Ok p) taken = by p taken (is_live p) refl
    at (Err u) bad = inl (λ q other. absurd (not_both (places_of words) q u other bad))

pub live_draws_nothing : (words : List (List ℕ)) (p : Places) (d : Drawing) → places_of words ≡ Ok p → is_live p ≡ true → AskToDraw words d → ⊥
live_draws_nothing words p d taken live ask =
    none_or_some (drawing_of p) d (live_reads p live) (subst (λ (q : Places). drawing_of q ≡ Some d) (both_ok (places_of words) ask.0 p ask.1 taken) ask.2)

-- there are some pollers and workers, and few
pub few_threads : (p : Places) → IsTaken p → (p.pollers ≤ 16) × (p.workers ≤ 16)
few_threads p taken = let has = taken_have taken.0 p taken.1 in (has.pollers.1, has.workers.1)

-- ---- by each way to end

module _ (words : List (List ℕ)) (bytes : List ℕ) (p : Places) (s : Scenario) (old new : Option (List Row)) (out err : End) (taken_as : places_of words ≡ Ok p) (live : is_live p ≡ true) (read_as : live_scenario bytes ≡ Ok s) where
  abbrev c : Call
  c = call words bytes old new out err

  lives : (P : LiveReport → Type 0) (es : List Entry) → IsLive s p.wait es → P (live_report s p.wait old es) → Lives c P
  lives P es is holds = record { asks = record { places = p; taken = taken_as; live = live }; scenario = s; read = read_as; entries = es; is = is; holds = holds }

  pub written : (refused : Bool) → LiveTells s p.wait old new out (ends.Written refused) → Takes err [] → LiveEnds c (way.Reported refused)
  written refused (inl ran) told = lives (λ r. (new ≡ r.kept) × Takes out r.out × Takes err [] × (refused ≡ r.is_refused)) ran.entries ran.is (ran.delivers.0, ran.delivers.1, told, ran.delivers.2)
  written refused (inr never) told = absurd never

  pub unwritten : LiveTells s p.wait old new out ends.Unwritten → TakesLine err (codes "write fault\n") → LiveEnds c way.Sink
  unwritten (inl ran) told = lives (λ r. (new ≡ r.kept) × FailsIn out r.out × TakesLine err (codes "write fault\n")) ran.entries ran.is (ran.delivers.0, ran.delivers.1, told)
  unwritten (inr never) told = absurd never

  pub keeper_failed : LiveTells s p.wait old new out ends.Keeper → TakesLine err (codes "keeper fault\n") → LiveEnds c way.Keeper
  keeper_failed (inl ran) told = lives (λ r. Idles c (codes "keeper fault\n")) ran.entries ran.is (record { kept = ran.delivers.0; out = ran.delivers.1; err = told })
  keeper_failed (inr never) told = absurd never

  pub wanting : LiveTells s p.wait old new out ends.Memory → TakesLine err (codes "out of memory\n") → LiveEnds c way.Memory
  wanting (inl ran) told = inr (lives (λ r. ((new ≡ old) ⊎ (new ≡ r.kept)) × TakesFront out r.out × TakesLine err (codes "out of memory\n")) ran.entries ran.is (ran.delivers.0, ran.delivers.1, told))
  wanting (inr never) told = inl (record { kept = never.0; out = never.1; err = told })

pub sink_rose : (s : Scenario) (wait : ℕ) (old new : Option (List Row)) (out : End) → LiveTells s wait old new out ends.Unwritten → Fails out
sink_rose s wait old new out (inl ran) = ran.delivers.1.failed
sink_rose s wait old new out (inr never) = absurd never

-- the scenario has a fault
pub faulty : (words : List (List ℕ)) (bytes : List ℕ) (fault : Fault) (kept : Option (List Row)) (out : Taken) (err : End) (w : Way) → live_scenario bytes ≡ Err fault
    → ((w ≡ way.Fault) × TakesLine err (fault_text fault)) ⊎ ((w ≡ way.Memory) × TakesLine err (codes "out of memory\n")) → LiveEnds (call words bytes kept kept (between out out) err) w
faulty words bytes fault kept out err w read_as (inl closed) =
    subst (LiveEnds (call words bytes kept kept (between out out) err)) (sym closed.0) (fault, read_as, idles words bytes kept out err (fault_text fault) closed.1)
faulty words bytes fault kept out err w read_as (inr closed) =
    subst (LiveEnds (call words bytes kept kept (between out out) err)) (sym closed.0) (inl (idles words bytes kept out err (codes "out of memory\n") closed.1))

-- ---- statuses

-- a scenario has no fault
sound : (bytes : List ℕ) (s : Scenario) (f : Fault) → live_scenario bytes ≡ Ok s → live_scenario bytes ≡ Err f → ⊥
sound bytes s f read_as fault_as = not_both (live_scenario bytes) s f read_as fault_as

module _ (c : Call) where
  fault_back : (w : Way) → LiveEnds c w → w ≡ way.Fault → (f : Fault) × (live_scenario c.bytes ≡ Err f)
  fault_back w ends_so is = let at : LiveEnds c way.Fault = subst (LiveEnds c) is ends_so in (at.0, at.1)

  fault_on : (w : Way) (f : Fault) → LiveEnds c w → live_scenario c.bytes ≡ Err f → (status_of w ≡ 2) ⊎ (status_of w ≡ 3) ⊎ (status_of w ≡ 6)
  fault_on way.Drawn f ends_so fault_as = absurd ends_so
  fault_on way.Usage f ends_so fault_as = absurd ends_so
  fault_on way.Fault f ends_so fault_as = inl refl
  fault_on way.Source f ends_so fault_as = inr (inl refl)
  fault_on way.Memory f ends_so fault_as = inr (inr refl)
  fault_on _ f ends_so fault_as = absurd (sound c.bytes ends_so.scenario f ends_so.read fault_as)

  pub faults : (w : Way) → LiveEnds c w → FaultsBy (live_scenario c.bytes) (status_of w)
  faults w ends_so = record {
    only = λ two. fault_back w ends_so (of_two w two);
    always = λ f fault_as. fault_on w f ends_so fault_as;
  }

-- the source was read to its end
pub read_whole : (words : List (List ℕ)) (left left_now : Option (List ℕ)) (kept kept_now : Option (List Row)) (out err : End) (w : Way) (status : ℕ) → status ≡ status_of w → (IsReported w → IfSome left (λ bytes. Consumes left left_now bytes))
    → OfRead left (λ bytes. LiveEnds (call words bytes kept kept_now out err) w) → IfSome left (λ bytes. ReadsWhole words bytes status left left_now)
read_whole words None left_now kept kept_now out err w status is read ended = tt
read_whole words (Some bytes) left_now kept kept_now out err w status is read ended = λ ask done. go (of_done w (subst (λ (n : ℕ). (n ≡ 0) ⊎ (n ≡ 7)) is done))
  where
    go : IsReported w ⊎ (w ≡ way.Drawn) → Consumes (Some bytes) left_now bytes
    go (inl reported) = read reported
    go (inr drawn) = let at : LiveEnds (call words bytes kept kept_now out err) way.Drawn = subst (LiveEnds (call words bytes kept kept_now out err)) drawn ended in absurd at

pub complete : (c : Call) (w : Way) (sb sa kb ka : ℕ) → AskLive c.words → (w ≡ way.Source → Rose sb sa) → (w ≡ way.Sink → Rose c.out.old.faults c.out.new.faults) → (w ≡ way.Keeper → Rose kb ka) → LiveEnds c w → IsGood c.words c.bytes → RunsAlone c.words c.bytes
    → NoneRose sb sa kb ka c.out c.err → IsComplete (status_of w)
complete c (way.Reported true) sb sa kb ka ask source sink keeper ends_so good alone none = inr (inl refl)
complete c (way.Reported false) sb sa kb ka ask source sink keeper ends_so good alone none = inl refl
complete c way.Drawn sb sa kb ka ask source sink keeper ends_so good alone none = inl refl
complete c way.Usage sb sa kb ka ask source sink keeper ends_so good alone none = absurd ends_so
complete c way.Fault sb sa kb ka ask source sink keeper ends_so good alone none =
    let read = good.read (reads_at c.words good.places good.taken (ask.places, ask.taken, live_reads ask.places ask.live)) in
    absurd (sound c.bytes read.0 ends_so.0 (alone_read c.bytes read.0 read.1 (alone ask read.0 read.1)) ends_so.1)
complete c way.Source sb sa kb ka ask source sink keeper ends_so good alone none = absurd (none.no_source (source refl))
complete c way.Sink sb sa kb ka ask source sink keeper ends_so good alone none = absurd (none.no_out (sink refl))
complete c way.Keeper sb sa kb ka ask source sink keeper ends_so good alone none = absurd (none.no_keeper (keeper refl))
complete c way.Memory sb sa kb ka ask source sink keeper ends_so good alone none = inr (inr refl)

-- ---- of both kinds of command lines

module _ (words : List (List ℕ)) (left left_now : Option (List ℕ)) (kept kept_now : Option (List Row)) (out err : End) (w : Way) (status : ℕ) (is : status ≡ status_of w)
    (live : AskLive words → OfRead left (λ bytes. LiveEnds (call words bytes kept kept_now out err) w)) (plain : IsPlain words → OfRead left (λ bytes. Ends (call words bytes kept kept_now out err) w)) where
  pub read_either : (IsReported w → IfSome left (λ bytes. Consumes left left_now bytes)) → IfSome left (λ bytes. ReadsWhole words bytes status left left_now)
  read_either read = at (plain_or_live words)
    where
      at : IsPlain words ⊎ AskLive words → IfSome left (λ bytes. ReadsWhole words bytes status left left_now)
      at (inl not_live) = plain_read words left left_now kept kept_now out err w status is read (plain not_live)
      at (inr ask) = read_whole words left left_now kept kept_now out err w status is read (live ask)

  pub complete_either : (sb sa kb ka : ℕ) → (w ≡ way.Source → Rose sb sa) → (w ≡ way.Sink → Rose out.old.faults out.new.faults ⊎ Rose err.old.faults err.new.faults) → (w ≡ way.Keeper → Rose kb ka)
      → IfSome left (λ bytes. IsGood words bytes → RunsAlone words bytes → NoneRose sb sa kb ka out err → IsComplete status)
  complete_either sb sa kb ka source sink keeper = at (plain_or_live words)
    where
      on_out : NoneRose sb sa kb ka out err → Rose out.old.faults out.new.faults ⊎ Rose err.old.faults err.new.faults → Rose out.old.faults out.new.faults
      on_out none (inl rose) = rose
      on_out none (inr rose) = absurd (none.no_err rose)

      at : IsPlain words ⊎ AskLive words → IfSome left (λ bytes. IsGood words bytes → RunsAlone words bytes → NoneRose sb sa kb ka out err → IsComplete status)
      at (inl not_live) =
          known left _ _ (λ bytes e good alone none. subst IsComplete (sym is) (plain_complete (call words bytes kept kept_now out err) w sb sa kb ka source sink keeper e good none)) (plain not_live)
      at (inr ask) =
          known left _ _ (λ bytes e good alone none. subst IsComplete (sym is) (complete (call words bytes kept kept_now out err) w sb sa kb ka ask source (λ s. on_out none (sink s)) keeper e good alone none)) (live ask)
