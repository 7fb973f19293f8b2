use Rattle.std.proofs.Common.{◌∙◌, ℕ, List, map, subst, sym}
use Rattle.live_calls.proofs.Prelude.{DrawEnds, End, FaultsAs, FaultsBy, IsPlain, IsUsage, FailsByKeeper, between, both, call}
use Rattle.live_calls.proofs.Prelude.{err_by, keeper_rose, kept_by_report, known, lifted, live_scenario, of_four, of_three, out_by, places_of}
use Rattle.live_calls.proofs.Prelude.{promised, scenario_in, status_told, taken}
use Rattle.live_calls.proofs.Ends.{complete_either, faults, plain_faults, read_either}
use Rattle.live_calls.proofs.Runs.{goes_well}
use Rattle.live_calls.proofs.top.orch.Goals as goal

pub returns : goal.returns
returns g c =
    let words : List (List ℕ) = map (λ w. w.items) c.args.words.now in
    let left = g.S.Source.left c.args.scenario.now in
    let kept = g.K.Keeper.kept c.args.keeper.now in
    let kept_now = g.K.Keeper.kept c.orch_parsed.new.keeper in
    let out : End = between (taken (g.O.Sink.written c.args.out.now) (g.O.Sink.faults c.args.out.now)) (taken (g.O.Sink.written c.orch_parsed.new.out) (g.O.Sink.faults c.orch_parsed.new.out)) in
    let err : End = between (taken (g.E.Sink.written c.args.err.now) (g.E.Sink.faults c.args.err.now)) (taken (g.E.Sink.written c.orch_parsed.new.err) (g.E.Sink.faults c.orch_parsed.new.err)) in
    let way = c.orch_parsed.result in
    let live = c.orch_parsed.ensures.live words c.read-parsed.ensures in
    let ends = c.orch_parsed.ensures.ends words c.read-parsed.ensures in
    let by = λ (plain : IsPlain words). lifted left _ _ (λ bytes e. (way, c.status.ensures, e)) (ends plain) in
    record {
      usage = subst (λ (n : ℕ). IsUsage words n) (sym c.status.ensures) (c.orch_parsed.ensures.usage words c.read-parsed.ensures);
      fault = λ plain. known left _ _ (λ bytes e. subst (λ (n : ℕ). FaultsAs (places_of words) (scenario_in bytes) n) (sym c.status.ensures) (plain_faults (call words bytes kept kept_now out err) way e)) (ends plain);
      live_fault = λ ask. known left _ _ (λ bytes e. subst (λ (n : ℕ). FaultsBy (live_scenario bytes) n) (sym c.status.ensures) (faults (call words bytes kept kept_now out err) way e)) (live ask);
      source = λ three. c.orch_parsed.ensures.source (of_three way (sym c.status.ensures ∙ three));
      sink = λ four. c.orch_parsed.ensures.sink (of_four way (sym c.status.ensures ∙ four));
      keeper = subst (λ (n : ℕ). FailsByKeeper (g.K.Keeper.faults c.args.keeper.now) (g.K.Keeper.faults c.orch_parsed.new.keeper) n) (sym c.status.ensures) c.orch_parsed.ensures.keeper;
      read = read_either words left (g.S.Source.left c.orch_parsed.new.source) kept kept_now out err way _ c.status.ensures live ends c.orch_parsed.ensures.read;
      drawn = λ d ask. subst (λ (n : ℕ). DrawEnds d n out err) (sym c.status.ensures) (c.orch_parsed.ensures.drawn words d c.read-parsed.ensures ask);
      unread = λ d ask. c.orch_parsed.ensures.unread words d c.read-parsed.ensures ask;
      unkept = λ d ask. c.orch_parsed.ensures.unkept words d c.read-parsed.ensures ask;
      live = λ ask. lifted left _ _ (λ bytes e. (way, c.status.ensures, e)) (live ask);
      ends = by;
      status = λ plain. status_told left kept kept_now words out err _ (by plain);
      out = λ plain. both left kept _ _ (λ bytes rows known by. out_by (call words bytes kept kept_now out err) rows _ known by) (by plain);
      err = λ plain. both left kept _ _ (λ bytes rows known by. err_by (call words bytes kept kept_now out err) rows _ known by) (by plain);
      kept = λ plain. both left kept _ _ (λ bytes rows known by. kept_by_report (call words bytes kept kept_now out err) rows _ known by) (by plain);
      complete =
          complete_either words left (g.S.Source.left c.orch_parsed.new.source) kept kept_now out err way _ c.status.ensures live ends _ _ _ _
          c.orch_parsed.ensures.source c.orch_parsed.ensures.sink (keeper_rose _ _ way c.orch_parsed.ensures.keeper);
      promises = promised words;
      well = goes_well words;
    }
