-- The end of a live run.
use Rattle.std.proofs.Common.{◌≡◌, ◌∙◌, ℕ, zero, suc, Bool, true, cond, List, [], ◌∷◌, ◌++◌, length, get_or, map, refl, subst, sym, ap, Some, append_assoc, append-nil, All, ◌<◌, slice_get, is_some, ◌==◌}
use Rattle.live_desk.proofs.Prelude.{All-append, All-nil, DeskState, Entry, Finished, Finishes, Held, IsDesk, IsFinish, IsLive, IsTurn, NamesOneOf}
use Rattle.live_desk.proofs.Prelude.{Recorded, Reply, Row, RunsOn, ServerNo, Turn, Unended, by_name, commands_in, driver_list, entries_of, eq-eqb}
use Rattle.live_desk.proofs.Prelude.{flat_map, fold-append, held_of, held_run, held_step, is_open, job_at, named-round, number_of, opening, others_in}
use Rattle.live_desk.proofs.Prelude.{polls, recorder, replicates, reply_of, round_of, round_over, run_of, same_Some, times, turns-round, turns_in}
use Rattle.live_desk.proofs.Entries.{driver-append, entries-more, pairs-entries, those-append, turns-append, turns-pairs}

-- one more entry
pub entries-snoc : (ns : List ℕ) (ps : List (Turn × Reply)) (p : Turn × Reply) → entries_of ns (ps ++ p ∷ []) ≡ entries_of ns ps ++ (get_or ns (length ps) 0, p.0, p.1) ∷ []
entries-snoc [] [] p = refl
entries-snoc [] (q ∷ qs) p = ap (λ (es : List Entry). (0, q.0, q.1) ∷ es) (entries-snoc [] qs p)
entries-snoc (n ∷ ns) [] p = refl
entries-snoc (n ∷ ns) (q ∷ qs) p = ap (λ (es : List Entry). (n, q.0, q.1) ∷ es) (entries-snoc ns qs p)

-- ---- turns of which none is a command

pub RunsOn-none : (h : Held Recorded) → RunsOn h h
RunsOn-none h = record { turns = []; jobs = []; ran = refl; none = refl; over = All-nil (IsTurn (length h.state.state.world.servers)); named = λ nodes. All-nil (NamesOneOf nodes); servers = refl; rounds = refl }

-- one more job is finished
finishes-more : (h : Held Recorded) (jobs : List ℕ) (ts : List Turn) (job k : ℕ) → Finishes h jobs ts → IsFinish (held_run recorder h ts).state.state job k
    → Finishes h (jobs ++ job ∷ []) (ts ++ times k (round_of (held_run recorder h ts).state.state job))
finishes-more h [] ts job k done fin =
    let first = subst (λ (us : List Turn). IsFinish (held_run recorder h us).state.state job k) done fin in
    subst (λ (us : List Turn). Finishes h (job ∷ []) (us ++ times k (round_of (held_run recorder h us).state.state job))) (sym done)
    (k, [], first, sym (append-nil (times k (round_of h.state.state job))), refl)
finishes-more h (j ∷ js) ts job k done fin =
    let first = times done.0 (round_of h.state.state j) in
    let after = held_run recorder h first in
    let same : held_run recorder h ts ≡ held_run recorder after done.1 = ap (held_run recorder h) done.3 ∙ fold-append (held_step recorder) h first done.1 in
    let last = times k (round_of (held_run recorder after done.1).state.state job) in (
      done.0,
      done.1 ++ last,
      done.2,
      ap (λ (us : List Turn). us ++ times k (round_of (held_run recorder h ts).state.state job)) done.3
          ∙ append_assoc first done.1 (times k (round_of (held_run recorder h ts).state.state job))
          ∙ ap (λ (g : Held Recorded). first ++ (done.1 ++ times k (round_of g.state.state job))) same,
      finishes-more after js done.1 job k done.4 (subst (λ (g : Held Recorded). IsFinish g.state.state job k) same fin),
    )

pub RunsOn-more : (h h' h'' : Held Recorded) (job k : ℕ) → RunsOn h h' → IsFinish h'.state.state job k → h'' ≡ held_run recorder h' (times k (round_of h'.state.state job)) → commands_in (times k (round_of h'.state.state job)) ≡ []
    → All (IsTurn (length h'.state.state.world.servers)) (times k (round_of h'.state.state job)) → ((nodes : ℕ) → All (NamesOneOf nodes) (times k (round_of h'.state.state job)))
    → length h''.state.state.world.servers ≡ length h'.state.state.world.servers → RunsOn h h''
RunsOn-more h h' h'' job k on fin ran none over named servers =
    let ts = times k (round_of h'.state.state job) in
    record {
      turns = on.turns ++ ts;
      jobs = on.jobs ++ job ∷ [];
      ran = ran ∙ ap (λ (g : Held Recorded). held_run recorder g ts) on.ran ∙ sym (fold-append (held_step recorder) h on.turns ts);
      none = those-append true on.turns ts ∙ ap (λ (us : List Turn). us ++ commands_in ts) on.none ∙ none;
      over =
          let count = length h.state.state.world.servers in
          All-append (IsTurn count) on.turns ts on.over (subst (λ (n : ℕ). All (IsTurn n) ts) on.servers over);
      named = λ nodes. All-append (NamesOneOf nodes) on.turns ts (on.named nodes) (named nodes);
      servers = servers ∙ on.servers;
      rounds =
          subst (λ (g : Held Recorded). Finishes h (on.jobs ++ job ∷ []) (on.turns ++ times k (round_of g.state.state job))) (sym on.ran)
          (finishes-more h on.jobs on.turns job k on.rounds (subst (λ (g : Held Recorded). IsFinish g.state.state job k) on.ran fin));
    }

replicates-none : (servers : List ServerNo) → commands_in (flat_map replicates servers) ≡ []
replicates-none [] = refl
replicates-none (n ∷ ns) = replicates-none ns

polls-none : (servers : List ServerNo) → commands_in (flat_map polls servers) ≡ []
polls-none [] = refl
polls-none (n ∷ ns) = polls-none ns

round-none : (servers : List ServerNo) (job : ℕ) → commands_in (round_over servers job) ≡ []
round-none servers job =
    those-append true (flat_map replicates servers) (flat_map polls servers)
    ∙ ap (λ (us : List Turn). us ++ commands_in (flat_map polls servers)) (replicates-none servers) ∙ polls-none servers

pub times-none : (k : ℕ) (servers : List ServerNo) (job : ℕ) → commands_in (times k (round_over servers job)) ≡ []
times-none zero servers job = refl
times-none (suc k) servers job =
    those-append true (round_over servers job) (times k (round_over servers job))
    ∙ ap (λ (us : List Turn). us ++ commands_in (times k (round_over servers job))) (round-none servers job) ∙ times-none k servers job

-- the turns of rounds are turns over the servers
times-over : (count k : ℕ) (ts : List Turn) → All (IsTurn count) ts → All (IsTurn count) (times k ts)
times-over count zero ts all = All-nil (IsTurn count)
times-over count (suc k) ts all = All-append (IsTurn count) ts (times k ts) all (times-over count k ts all)

-- and name no orchestrator
times-named : (nodes k : ℕ) (ts : List Turn) → All (NamesOneOf nodes) ts → All (NamesOneOf nodes) (times k ts)
times-named nodes zero ts all = All-nil (NamesOneOf nodes)
times-named nodes (suc k) ts all = All-append (NamesOneOf nodes) ts (times k ts) all (times-named nodes k ts all)

-- a job that was finished
pub RunsOn-finished : (h : Held Recorded) (rows rows' : List Row) (run run' : Recorded) (job : ℕ) → RunsOn h (record { rows = rows; state = run }) → Finished recorder (λ r. r.state) (Some rows) run job (Some rows') run'
    → All (λ n. n.0 < length run.state.world.servers) (by_name run.state.book.names) → length run'.state.world.servers ≡ length run.state.world.servers → RunsOn h (record { rows = rows'; state = run' })
RunsOn-finished h rows rows' run run' job on done within servers =
    let before : Held Recorded = record { rows = rows; state = run } in
    let ts = times done.k (round_of run.state job) in
    let after = held_run recorder before ts in
    let same : record { rows = rows'; state = run' } ≡ after =
    ap (λ (xs : List Row). record { rows = xs; state = run' }) (same_Some rows' after.rows done.ran.rows) ∙ ap (λ (r : Recorded). record { rows = after.rows; state = r }) done.ran.state in
    RunsOn-more h before (record { rows = rows'; state = run' }) job done.k on done.rounds same (times-none done.k (by_name run.state.book.names) job)
    (times-over (length run.state.world.servers) done.k (round_of run.state job) (turns-round (length run.state.world.servers) (by_name run.state.book.names) job within))
    (λ nodes. times-named nodes done.k (round_of run.state job) (named-round nodes (by_name run.state.book.names) job)) servers

-- the first job is open
pub first-open : (jobs : List Unended) (j : Unended) → slice_get jobs 0 ≡ Some j → is_open jobs (number_of j) ≡ true
first-open [] j e = cc
first-open (k ∷ js) j e =
    let same : k ≡ j = same_Some k j e in
    let here : (number_of k == number_of j) ≡ true = eq-eqb (number_of k) (number_of j) (ap number_of same) in
    ap (λ (b : Bool). is_some (cond b (Some k) (job_at js (number_of j)))) here

-- ---- the journal grows by what is taken

pub record Grows (before after : Held Recorded) (ts : List Turn) : Type 0 where
  pub more : List (Turn × Reply)
  pub joined : after.state.journal ≡ before.state.journal ++ more
  pub turns : map (λ p. p.0) more ≡ ts

grows : (h : Held Recorded) (ts : List Turn) → Grows h (held_run recorder h ts) ts
grows h [] = record { more = []; joined = sym (append-nil h.state.journal); turns = refl }
grows h (t ∷ ts) =
    let rest = grows (held_step recorder h t) ts in
    let p : Turn × Reply = (t, reply_of h.state.state t) in
    record {
      more = p ∷ rest.more;
      joined = rest.joined ∙ append_assoc h.state.journal (p ∷ []) rest.more;
      turns = ap (λ (us : List Turn). t ∷ us) rest.turns;
    }

-- the run over all of its turns, the caller's last ones too
pub ended-run : (d : DeskState) (ns : List ℕ) (h : Held Recorded) → IsDesk d → d.entries ≡ entries_of ns d.run.journal → length ns ≡ length d.run.journal → RunsOn (held_of d) h → run_of d.scenario d.wait (turns_in (entries_of ns h.state.journal)) ≡ h
ended-run d ns h is entries long on =
    let grown = grows (held_of d) on.turns in
    let last : List Entry = entries_of [] grown.more in
    let journal : h.state.journal ≡ d.run.journal ++ grown.more = ap (λ (g : Held Recorded). g.state.journal) on.ran ∙ grown.joined in
    let all : entries_of ns h.state.journal ≡ d.entries ++ last =
    ap (entries_of ns) journal ∙ entries-more ns d.run.journal grown.more long ∙ ap (λ (es : List Entry). es ++ last) (sym entries) in
    let tail : turns_in last ≡ on.turns = turns-pairs last ∙ ap (map (λ (p : Turn × Reply). p.0)) (pairs-entries [] grown.more) ∙ grown.turns in
    let turns : turns_in (entries_of ns h.state.journal) ≡ turns_in d.entries ++ on.turns = ap turns_in all ∙ turns-append d.entries last ∙ ap (λ (us : List Turn). turns_in d.entries ++ us) tail in
    ap (run_of d.scenario d.wait) turns ∙ fold-append (held_step recorder) (opening d.scenario d.wait) (turns_in d.entries) on.turns
    ∙ ap (λ (g : Held Recorded). held_run recorder g on.turns) (sym is.run) ∙ sym on.ran

pub live-end : (d : DeskState) (ns : List ℕ) (h : Held Recorded) → IsDesk d → d.commands ≡ [] → d.listed ≡ [] → d.entries ≡ entries_of ns d.run.journal → length ns ≡ length d.run.journal → RunsOn (held_of d) h → h.state.state.jobs ≡ []
    → IsLive d.scenario d.wait (entries_of ns h.state.journal)
live-end d ns h is commands listed entries long on ended =
    let grown = grows (held_of d) on.turns in
    let last : List Entry = entries_of [] grown.more in
    let journal : h.state.journal ≡ d.run.journal ++ grown.more = ap (λ (g : Held Recorded). g.state.journal) on.ran ∙ grown.joined in
    let all : entries_of ns h.state.journal ≡ d.entries ++ last =
    ap (entries_of ns) journal ∙ entries-more ns d.run.journal grown.more long ∙ ap (λ (es : List Entry). es ++ last) (sym entries) in
    let tail : turns_in last ≡ on.turns = turns-pairs last ∙ ap (map (λ (p : Turn × Reply). p.0)) (pairs-entries [] grown.more) ∙ grown.turns in
    let turns : turns_in (entries_of ns h.state.journal) ≡ turns_in d.entries ++ on.turns = ap turns_in all ∙ turns-append d.entries last ∙ ap (λ (us : List Turn). turns_in d.entries ++ us) tail in
    let run : run_of d.scenario d.wait (turns_in (entries_of ns h.state.journal)) ≡ h = ended-run d ns h is entries long on in
    let front : commands_in (turns_in d.entries) ≡ commands_in d.scenario.turns =
    sym (append-nil (commands_in (turns_in d.entries))) ∙ ap (λ (us : List Turn). commands_in (turns_in d.entries) ++ us) (sym commands) ∙ is.commands in
    let driven : driver_list d.entries ≡ others_in d.scenario.turns ++ is.listed.extra =
    sym (append-nil (driver_list d.entries)) ∙ ap (λ (us : List Turn). driver_list d.entries ++ us) (sym listed) ∙ is.listed.joined in
    record {
      run = pairs-entries ns h.state.journal ∙ sym (ap (λ (g : Held Recorded). g.state.journal) run);
      turns =
          let count = length d.scenario.opening.servers in
          subst (All (IsTurn count)) (sym turns) (All-append (IsTurn count) (turns_in d.entries) on.turns is.turns (subst (λ (n : ℕ). All (IsTurn n) on.turns) is.servers on.over));
      named =
          let nodes = d.scenario.nodes in
          subst (All (NamesOneOf nodes)) (sym turns) (All-append (NamesOneOf nodes) (turns_in d.entries) on.turns is.named (on.named nodes));
      commands =
          ap commands_in turns ∙ those-append true (turns_in d.entries) on.turns
          ∙ ap (λ (us : List Turn). commands_in (turns_in d.entries) ++ us) (on.none ∙ sym commands) ∙ is.commands;
      listed = (
        is.listed.extra ++ driver_list last,
        ap driver_list all ∙ driver-append d.entries last
            ∙ ap (λ (us : List Turn). us ++ driver_list last) driven
            ∙ append_assoc (others_in d.scenario.turns) is.listed.extra (driver_list last),
      );
      caller = record {
        front = d.entries;
        last = grown.more;
        jobs = on.jobs;
        whole = all;
        commands = front;
        listed = (is.listed.extra, driven);
        rounds =
            subst (λ (us : List Turn). Finishes (run_of d.scenario d.wait (turns_in d.entries)) on.jobs us) (sym grown.turns)
            (subst (λ (g : Held Recorded). Finishes g on.jobs on.turns) is.run on.rounds);
      };
      ended = ap (λ (g : Held Recorded). g.state.state.jobs) run ∙ ended;
    }
