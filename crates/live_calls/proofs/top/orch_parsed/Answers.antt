use Rattle.std.proofs.Common.{inl, refl, rules, sym}
use Rattle.live_calls.proofs.Prelude.{End, between, each, idles, memory_usage, no_usage, parse_bad, parse_ok, taken, undrawn, unmoved}
use Rattle.live_calls.proofs.Prelude.way
use Rattle.live_calls.proofs.Ends.{bad_is_plain, is_plain, live_draws_nothing, never_both}
use Rattle.live_calls.proofs.top.orch_parsed.Goals as goal

-- ---- the command line asks for a live run

pub returns-then-is_live : goal.returns-then-is_live
returns-then-is_live g c =
    let places = c.in-Ok.places in
    record {
      live = λ words t ask. c.answer.ensures.ends words (parse_ok words _ places (search rules) t) ask;
      ends = λ words t plain. absurd (never_both words plain (record { places = places; taken = parse_ok words _ places (search rules) t; live = sym c.if-is_live.ensures }));
      usage = λ words t. no_usage words places c.answer.result (parse_ok words _ places (search rules) t) c.answer.ensures.not_usage;
      source = c.answer.ensures.source;
      sink = λ is. inl (c.answer.ensures.sink is);
      keeper = c.answer.ensures.keeper;
      read = c.answer.ensures.read;
      drawn = λ words d t ask. absurd (live_draws_nothing words places d (parse_ok words _ places (search rules) t) (sym c.if-is_live.ensures) ask);
      unread = λ words d t ask. absurd (live_draws_nothing words places d (parse_ok words _ places (search rules) t) (sym c.if-is_live.ensures) ask);
      unkept = λ words d t ask. absurd (live_draws_nothing words places d (parse_ok words _ places (search rules) t) (sym c.if-is_live.ensures) ask);
    }

-- ---- it doesn't

pub returns-else-is_live-clause-live : goal.returns-else-is_live-clause-live
returns-else-is_live-clause-live g c = λ words t ask. absurd (never_both words (is_plain words c.in-Ok.places (parse_ok words _ c.in-Ok.places (search rules) t) (sym c.if-is_live.ensures)) ask)

pub returns-else-is_live-clause-ends : goal.returns-else-is_live-clause-ends
returns-else-is_live-clause-ends g c = λ words t plain. c.respond.ensures.ends words t

pub returns-in-Err-BadWords-clause-live : goal.returns-in-Err-BadWords-clause-live
returns-in-Err-BadWords-clause-live g c = λ words t ask. absurd (never_both words (bad_is_plain words (parse_bad words _ (search rules) t)) ask)

pub returns-in-Err-BadWords-clause-ends : goal.returns-in-Err-BadWords-clause-ends
returns-in-Err-BadWords-clause-ends g c = λ words t plain. c.respond-in-Err-BadWords.ensures.ends words t

-- ---- memory ran out

pub returns-in-Err-Memory : goal.returns-in-Err-Memory
returns-in-Err-Memory g c =
    let left = g.S.Source.left c.args.source.now in
    let out = taken (g.O.Sink.written c.args.out.now) (g.O.Sink.faults c.args.out.now) in
    let err : End = between (taken (g.E.Sink.written c.args.err.now) (g.E.Sink.faults c.args.err.now)) (taken (g.E.Sink.written c.close.new.err) (g.E.Sink.faults c.close.new.err)) in
    record {
      live = λ words t ask. each left _ (λ bytes. inl (idles words bytes _ _ _ _ c.close.ensures.took));
      ends = λ words t plain. each left _ (λ bytes. inl (idles words bytes _ _ _ _ c.close.ensures.took));
      usage = λ words t. memory_usage words;
      source = λ is. absurd cc;
      sink = λ is. absurd cc;
      keeper = unmoved _ _ way.Memory (λ is. absurd cc) refl;
      read = λ is. absurd is;
      drawn = λ words d t ask. undrawn d out err c.close.ensures.took;
      unread = λ words d t ask. refl;
      unkept = λ words d t ask. refl;
    }
