use Rattle.std.proofs.Common.{inl, refl, rules, sym}
use Rattle.top_call.proofs.Prelude.{DrawEnds, Drawing, End, between, drawing_of, status_of, taken}
use Rattle.top_call.proofs.Prelude.way
use Rattle.top_call.proofs.Ends.{bad_usage, draw_rose, draw_way, drawing_sound, drawn_once, draws_at, drew, each, idles, memory_usage, no_usage, none_or_some, not_asked, parse_bad, parse_ok, undrawn, unmoved}
use Rattle.top_call.proofs.top.respond.Goals as goal

-- ---- a scenario is drawn

pub draw-requires : goal.draw-requires
draw-requires g c = drawing_sound c.in-Ok.places c.in-Some.drawing (search rules) (sym c.in-Some.ensures)

pub returns-in-Some : goal.returns-in-Some
returns-in-Some g c =
    let places = c.in-Ok.places in
    let out : End = between (taken (g.O.Sink.written c.args.out.now) (g.O.Sink.faults c.args.out.now)) (taken (g.O.Sink.written c.draw.new.out) (g.O.Sink.faults c.draw.new.out)) in
    let err : End = between (taken (g.E.Sink.written c.args.err.now) (g.E.Sink.faults c.args.err.now)) (taken (g.E.Sink.written c.draw.new.err) (g.E.Sink.faults c.draw.new.err)) in
    record {
      ends = λ words t. each (g.S.Source.left c.args.source.now) _ (λ bytes. drew words bytes places c.in-Some.drawing _ _ _ (parse_ok words _ places (search rules) t) (sym c.in-Some.ensures) c.draw.result c.draw.ensures.ends c.draw.ensures.way);
      usage = λ words t. no_usage words places c.draw.result (parse_ok words _ places (search rules) t) (draw_way c.draw.result c.draw.ensures.way).not_usage;
      source = λ is. absurd ((draw_way c.draw.result c.draw.ensures.way).not_source is);
      sink = λ is. inl (draw_rose c.in-Some.drawing c.draw.result _ _ c.draw.ensures.ends is);
      keeper = unmoved _ _ c.draw.result (draw_way c.draw.result c.draw.ensures.way).not_keeper refl;
      read = λ is. absurd ((draw_way c.draw.result c.draw.ensures.way).not_reported is);
      drawn = λ words d t ask.
          drawn_once (λ (e : Drawing). DrawEnds e (status_of c.draw.result) out err) (drawing_of places) c.in-Some.drawing d (sym c.in-Some.ensures) (draws_at words places (parse_ok words _ places (search rules) t) d ask) c.draw.ensures.ends;
      unread = λ words d t ask. refl;
      unkept = λ words d t ask. refl;
    }

-- ---- or it is read

pub returns-in-None-clause-ends : goal.returns-in-None-clause-ends
returns-in-None-clause-ends g c = λ words t. c.answer.ensures.ends words (parse_ok words _ c.in-Ok.places (search rules) t)

pub returns-in-None-clause-usage : goal.returns-in-None-clause-usage
returns-in-None-clause-usage g c = λ words t. no_usage words c.in-Ok.places c.answer.result (parse_ok words _ c.in-Ok.places (search rules) t) c.answer.ensures.not_usage

pub returns-in-None-clause-drawn : goal.returns-in-None-clause-drawn
returns-in-None-clause-drawn g c = λ words d t ask. absurd (none_or_some (drawing_of c.in-Ok.places) d (sym c.in-None.ensures) (draws_at words c.in-Ok.places (parse_ok words _ c.in-Ok.places (search rules) t) d ask))

pub returns-in-None-clause-unread : goal.returns-in-None-clause-unread
returns-in-None-clause-unread g c = λ words d t ask. absurd (none_or_some (drawing_of c.in-Ok.places) d (sym c.in-None.ensures) (draws_at words c.in-Ok.places (parse_ok words _ c.in-Ok.places (search rules) t) d ask))

pub returns-in-None-clause-unkept : goal.returns-in-None-clause-unkept
returns-in-None-clause-unkept g c = λ words d t ask. absurd (none_or_some (drawing_of c.in-Ok.places) d (sym c.in-None.ensures) (draws_at words c.in-Ok.places (parse_ok words _ c.in-Ok.places (search rules) t) d ask))

-- ---- the command line isn't accepted, or memory ran out

pub returns-in-Err-BadWords-clause-ends : goal.returns-in-Err-BadWords-clause-ends
returns-in-Err-BadWords-clause-ends g c = λ words t. each (g.S.Source.left c.args.source.now) _ (λ bytes. (parse_bad words _ (search rules) t, idles words bytes _ _ _ _ c.close.ensures.took))

pub returns-in-Err-BadWords-clause-usage : goal.returns-in-Err-BadWords-clause-usage
returns-in-Err-BadWords-clause-usage g c = λ words t. bad_usage words (parse_bad words _ (search rules) t)

pub returns-in-Err-BadWords-clause-keeper : goal.returns-in-Err-BadWords-clause-keeper
returns-in-Err-BadWords-clause-keeper g c = unmoved _ _ way.Usage (λ is. absurd cc) refl

pub returns-in-Err-BadWords-clause-drawn : goal.returns-in-Err-BadWords-clause-drawn
returns-in-Err-BadWords-clause-drawn g c = λ words d t ask. absurd (not_asked words d (parse_bad words _ (search rules) t) ask)

pub returns-in-Err-BadWords-clause-unread : goal.returns-in-Err-BadWords-clause-unread
returns-in-Err-BadWords-clause-unread g c = λ words d t ask. refl

pub returns-in-Err-BadWords-clause-unkept : goal.returns-in-Err-BadWords-clause-unkept
returns-in-Err-BadWords-clause-unkept g c = λ words d t ask. refl

pub returns-in-Err-Memory-clause-ends : goal.returns-in-Err-Memory-clause-ends
returns-in-Err-Memory-clause-ends g c = λ words t. each (g.S.Source.left c.args.source.now) _ (λ bytes. inl (idles words bytes _ _ _ _ c.close-in-Err-Memory.ensures.took))

pub returns-in-Err-Memory-clause-usage : goal.returns-in-Err-Memory-clause-usage
returns-in-Err-Memory-clause-usage g c = λ words t. memory_usage words

pub returns-in-Err-Memory-clause-keeper : goal.returns-in-Err-Memory-clause-keeper
returns-in-Err-Memory-clause-keeper g c = unmoved _ _ way.Memory (λ is. absurd cc) refl

pub returns-in-Err-Memory-clause-drawn : goal.returns-in-Err-Memory-clause-drawn
returns-in-Err-Memory-clause-drawn g c = λ words d t ask.
    let out = taken (g.O.Sink.written c.args.out.now) (g.O.Sink.faults c.args.out.now) in
    let err : End = between (taken (g.E.Sink.written c.args.err.now) (g.E.Sink.faults c.args.err.now)) (taken (g.E.Sink.written c.close-in-Err-Memory.new.err) (g.E.Sink.faults c.close-in-Err-Memory.new.err)) in
    undrawn d out err c.close-in-Err-Memory.ensures.took

pub returns-in-Err-Memory-clause-unread : goal.returns-in-Err-Memory-clause-unread
returns-in-Err-Memory-clause-unread g c = λ words d t ask. refl

pub returns-in-Err-Memory-clause-unkept : goal.returns-in-Err-Memory-clause-unkept
returns-in-Err-Memory-clause-unkept g c = λ words d t ask. refl
