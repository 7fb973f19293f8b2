use Rattle.std.proofs.Common.{◌∙◌, ℕ, List, map, subst, sym}
use Rattle.top_call.proofs.Prelude.{DrawEnds, End, FaultsAs, IsComplete, IsUsage, FailsByKeeper, between, call, places_of, scenario_in, taken}
use Rattle.top_call.proofs.Ends.{complete, faults, keeper_rose, known, lifted, of_four, of_three, read_whole}
use Rattle.top_call.proofs.Reports.{both, err_by, kept_by_report, out_by, status_told}
use Rattle.top_call.proofs.Runs.{promised}
use Rattle.top_call.proofs.top.orch_plain.Goals as goal

pub returns : goal.returns
returns g c =
    let words : List (List ℕ) = map (λ w. w.items) c.args.words.now in
    let left = g.S.Source.left c.args.scenario.now in
    let kept = g.K.Keeper.kept c.args.keeper.now in
    let out : End = between (taken (g.O.Sink.written c.args.out.now) (g.O.Sink.faults c.args.out.now)) (taken (g.O.Sink.written c.respond.new.out) (g.O.Sink.faults c.respond.new.out)) in
    let err : End = between (taken (g.E.Sink.written c.args.err.now) (g.E.Sink.faults c.args.err.now)) (taken (g.E.Sink.written c.respond.new.err) (g.E.Sink.faults c.respond.new.err)) in
    let ends = c.respond.ensures.ends words c.read-parsed.ensures in
    let by = lifted left _ _ (λ bytes e. (c.respond.result, c.status.ensures, e)) ends in
    record {
      usage = subst (λ (n : ℕ). IsUsage words n) (sym c.status.ensures) (c.respond.ensures.usage words c.read-parsed.ensures);
      fault = known left _ _ (λ bytes e. subst (λ (n : ℕ). FaultsAs (places_of words) (scenario_in bytes) n) (sym c.status.ensures) (faults (call words bytes _ _ _ _) c.respond.result e)) ends;
      source = λ three. c.respond.ensures.source (of_three c.respond.result (sym c.status.ensures ∙ three));
      sink = λ four. c.respond.ensures.sink (of_four c.respond.result (sym c.status.ensures ∙ four));
      keeper = subst (λ (n : ℕ). FailsByKeeper (g.K.Keeper.faults c.args.keeper.now) (g.K.Keeper.faults c.respond.new.keeper) n) (sym c.status.ensures) c.respond.ensures.keeper;
      read = read_whole words left (g.S.Source.left c.respond.new.source) _ _ _ _ c.respond.result _ c.status.ensures c.respond.ensures.read ends;
      drawn = λ d ask. subst (λ (n : ℕ). DrawEnds d n out err) (sym c.status.ensures) (c.respond.ensures.drawn words d c.read-parsed.ensures ask);
      unread = λ d ask. c.respond.ensures.unread words d c.read-parsed.ensures ask;
      unkept = λ d ask. c.respond.ensures.unkept words d c.read-parsed.ensures ask;
      ends = by;
      status = status_told left kept (g.K.Keeper.kept c.respond.new.keeper) words out err _ by;
      out = both left kept _ _ (λ bytes rows known by. out_by (call words bytes _ _ _ _) rows _ known by) by;
      err = both left kept _ _ (λ bytes rows known by. err_by (call words bytes _ _ _ _) rows _ known by) by;
      kept = both left kept _ _ (λ bytes rows known by. kept_by_report (call words bytes _ _ _ _) rows _ known by) by;
      complete = known left _ _
          (λ bytes e good none. subst IsComplete (sym c.status.ensures) (complete (call words bytes _ _ _ _) c.respond.result _ _ _ _ c.respond.ensures.source c.respond.ensures.sink (keeper_rose _ _ c.respond.result c.respond.ensures.keeper) e good none))
          ends;
      promises = promised words;
    }
