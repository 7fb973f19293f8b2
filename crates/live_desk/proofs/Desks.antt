-- A desk keeps what it keeps.
use Rattle.std.proofs.Common.{◌≡◌, ◌∙◌, ℕ, Bool, true, false, cond, List, [], ◌∷◌, ◌++◌, length, drop, refl, sym, ap, subst, append_assoc, append-nil, inl, inr, ⊎_elim, All}
use Rattle.live_desk.proofs.Prelude.{All-append, All-cons, All-nil, DeskState, Entry, Held, IsDesk, IsDriven, IsNext, IsNextOfAny, IsScenario, IsTurn}
use Rattle.live_desk.proofs.Prelude.{MayTake, NamesOneOf, Recorded, Reply, Row, Scenario, State, Turn, changed, changes_of, commands_in, driver_list}
use Rattle.live_desk.proofs.Prelude.{drives, entries_of, fold-append, held_of, held_step, is_command, left_from, made, nodes_of, opening, others_in}
use Rattle.live_desk.proofs.Prelude.{pairs_in, record_turn, recorder, reply_of, run_of, start, start_changes, taken, turns_in}
use Rattle.live_desk.proofs.Entries.{driver-append, entries-push, pairs-append, those-append, turns-append}

-- the opening
pub made-desk : (d : DeskState) → IsScenario d.scenario → d ≡ made d.scenario d.wait → length d.run.state.world.servers ≡ length d.scenario.opening.servers → nodes_of d.run.state ≡ d.scenario.nodes → IsDesk d
made-desk d is same servers nodes = record {
  scenario = is;
  run = ap held_of same ∙ ap (λ (e : DeskState). run_of d.scenario d.wait (turns_in e.entries)) (sym same);
  journal = ap (λ (e : DeskState). pairs_in e.entries) same ∙ sym (ap (λ (e : DeskState). e.run.journal) same);
  turns = subst (λ (e : DeskState). All (IsTurn (length d.scenario.opening.servers)) (turns_in e.entries)) (sym same) (All-nil (IsTurn (length d.scenario.opening.servers)));
  named = subst (λ (e : DeskState). All (NamesOneOf d.scenario.nodes) (turns_in e.entries)) (sym same) (All-nil (NamesOneOf d.scenario.nodes));
  commands = ap (λ (e : DeskState). commands_in (turns_in e.entries) ++ e.commands) same;
  listed = record {
    extra = [];
    joined = ap (λ (e : DeskState). driver_list e.entries ++ e.listed) same ∙ sym (append-nil (others_in d.scenario.turns));
    one = inr refl;
  };
  servers = servers;
  nodes = nodes;
}

-- the commands after a turn
commands-taken : (b : Bool) (t : Turn) (done left all : List Turn) → is_command t ≡ b → (b ≡ true → IsNext t left) → done ++ left ≡ all
    → (done ++ cond b (t ∷ []) []) ++ cond b (drop 1 left) left ≡ all
commands-taken false t done left all e may joined = ap (λ (us : List Turn). us ++ left) (append-nil done) ∙ joined
commands-taken true t done [] all e may joined = absurd (may refl)
commands-taken true t done (u ∷ us) all e may joined =
    let same : t ≡ u = may refl in
    append_assoc done (t ∷ []) us ∙ ap (λ (v : Turn). done ++ v ∷ us) same ∙ joined

-- the turns of the driver and the caller
driven-taken : (b : Bool) (t : Turn) (driver left all : List Turn) → (b ≡ true → IsNextOfAny t left) → IsDriven driver left all → IsDriven (driver ++ cond b (t ∷ []) []) (cond b (drop 1 left) left) all
driven-taken false t driver left all may is = subst (λ (us : List Turn). IsDriven us left all) (sym (append-nil driver)) is
driven-taken true t driver [] all may is = record {
  extra = is.extra ++ t ∷ [];
  joined =
      append-nil (driver ++ t ∷ []) ∙ ap (λ (us : List Turn). us ++ t ∷ []) (sym (append-nil driver) ∙ is.joined)
      ∙ append_assoc all is.extra (t ∷ []);
  one = inl refl;
}
driven-taken true t driver (u ∷ us) all may is =
    let same : t ≡ u = may refl in
    let none : is.extra ≡ [] = ⊎_elim (λ h. absurd (let no : ⊥ = cc in no)) (λ h. h) is.one in
    record {
      extra = is.extra;
      joined = append_assoc driver (t ∷ []) us ∙ ap (λ (v : Turn). driver ++ v ∷ us) same ∙ is.joined;
      one = inr none;
    }

pub taken-desk : (d : DeskState) (by : ℕ) (t : Turn) → IsDesk d → MayTake d by t → IsTurn (length d.scenario.opening.servers) t → NamesOneOf d.scenario.nodes t
    → length (taken d by t).run.state.world.servers ≡ length d.run.state.world.servers → nodes_of (taken d by t).run.state ≡ nodes_of d.run.state → IsDesk (taken d by t)
taken-desk d by t is may over names servers nodes =
    let e : Entry = (by, t, reply_of d.run.state t) in
    let turns : turns_in (d.entries ++ e ∷ []) ≡ turns_in d.entries ++ t ∷ [] = turns-append d.entries (e ∷ []) in
    record {
      scenario = is.scenario;
      run =
          ap (λ (h : Held Recorded). held_step recorder h t) is.run
          ∙ sym (fold-append (held_step recorder) (opening d.scenario d.wait) (turns_in d.entries) (t ∷ []))
          ∙ ap (run_of d.scenario d.wait) (sym turns);
      turns =
          let count = length d.scenario.opening.servers in
          subst (All (IsTurn count)) (sym turns) (All-append (IsTurn count) (turns_in d.entries) (t ∷ []) is.turns (All-cons (IsTurn count) t [] over (All-nil (IsTurn count))));
      named =
          let some = d.scenario.nodes in
          subst (All (NamesOneOf some)) (sym turns) (All-append (NamesOneOf some) (turns_in d.entries) (t ∷ []) is.named (All-cons (NamesOneOf some) t [] names (All-nil (NamesOneOf some))));
      journal = pairs-append d.entries (e ∷ []) ∙ ap (λ (ps : List (Turn × Reply)). ps ++ (t, reply_of d.run.state t) ∷ []) is.journal;
      commands =
          ap (λ (us : List Turn). us ++ (taken d by t).commands) (ap commands_in turns ∙ those-append true (turns_in d.entries) (t ∷ []))
          ∙ commands-taken (is_command t) t (commands_in (turns_in d.entries)) d.commands (commands_in d.scenario.turns) refl may.command is.commands;
      listed =
          subst (λ (us : List Turn). IsDriven us (taken d by t).listed (others_in d.scenario.turns)) (sym (driver-append d.entries (e ∷ []) ∙ ap (λ (us : List Turn). driver_list d.entries ++ us) (one-driven (drives by t) e)))
          (driven-taken (drives by t) t (driver_list d.entries) d.listed (others_in d.scenario.turns) may.listed is.listed);
      servers = servers ∙ is.servers;
      nodes = nodes ∙ is.nodes;
    }
  where
    one-driven : (b : Bool) (e : Entry) → turns_in (cond b (e ∷ []) []) ≡ cond b (e.1 ∷ []) []
    one-driven true e = refl
    one-driven false e = refl

-- what a desk shows of its parts
abbrev pub shown : Scenario → ℕ → List Row → Recorded → List ℕ → ℕ → ℕ → DeskState
shown s wait rows run ns command listed = record {
  scenario = s;
  wait = wait;
  rows = rows;
  run = run;
  entries = entries_of ns run.journal;
  commands = left_from true s.turns command;
  listed = left_from false s.turns listed;
}

-- each part after a turn is the desk after it
pub shown-taken : (s : Scenario) (wait : ℕ) (rows rows' : List Row) (run run' : Recorded) (ns ns' : List ℕ) (command command' listed listed' by : ℕ) (t : Turn) → length ns ≡ length run.journal
    → run' ≡ record_turn rows run t
    → rows' ≡ changed rows (changes_of rows run.state t)
    → ns' ≡ ns ++ by ∷ []
    → left_from true s.turns command' ≡ cond (is_command t) (drop 1 (left_from true s.turns command)) (left_from true s.turns command)
    → left_from false s.turns listed' ≡ cond (drives by t) (drop 1 (left_from false s.turns listed)) (left_from false s.turns listed)
    → shown s wait rows' run' ns' command' listed' ≡ taken (shown s wait rows run ns command listed) by t
shown-taken s wait rows rows' run run' ns ns' command command' listed listed' by t long ran kept numbers commands others =
    let make : List Row → Recorded → List Entry → List Turn → List Turn → DeskState = λ a b c d e. record { scenario = s; wait = wait; rows = a; run = b; entries = c; commands = d; listed = e } in
    let es : entries_of ns' run'.journal ≡ entries_of ns run.journal ++ (by, t, reply_of run.state t) ∷ [] =
    ap (λ (xs : List ℕ). entries_of xs run'.journal) numbers ∙ ap (λ (r : Recorded). entries_of (ns ++ by ∷ []) r.journal) ran
    ∙ entries-push ns run.journal by (t, reply_of run.state t) long in
    ap (λ (a : List Row). make a run' (entries_of ns' run'.journal) (left_from true s.turns command') (left_from false s.turns listed')) kept
    ∙ ap (λ (b : Recorded). make (changed rows (changes_of rows run.state t)) b (entries_of ns' run'.journal) (left_from true s.turns command') (left_from false s.turns listed')) ran
    ∙ ap (λ (c : List Entry). make (changed rows (changes_of rows run.state t)) (record_turn rows run t) c (left_from true s.turns command') (left_from false s.turns listed')) es
    ∙ ap (λ (d : List Turn). make (changed rows (changes_of rows run.state t)) (record_turn rows run t) (entries_of ns run.journal ++ (by, t, reply_of run.state t) ∷ []) d (left_from false s.turns listed')) commands
    ∙ ap (λ (e : List Turn). make (changed rows (changes_of rows run.state t)) (record_turn rows run t) (entries_of ns run.journal ++ (by, t, reply_of run.state t) ∷ []) (cond (is_command t) (drop 1 (left_from true s.turns command)) (left_from true s.turns command)) e) others

-- the parts of a desk at its opening
pub shown-made : (s : Scenario) (wait : ℕ) (rows none : List Row) (run : Recorded) (ns : List ℕ) (command listed : ℕ) → none ≡ [] → ns ≡ [] → run.state ≡ start s wait none → run.journal ≡ []
    → rows ≡ changed none (start_changes s none)
    → left_from true s.turns command ≡ commands_in s.turns
    → left_from false s.turns listed ≡ others_in s.turns
    → shown s wait rows run ns command listed ≡ made s wait
shown-made s wait rows none run ns command listed nothing nobody begins empty kept commands others =
    let make : List Row → State → List (Turn × Reply) → List Entry → List Turn → List Turn → DeskState = λ a b j c d e. record { scenario = s; wait = wait; rows = a; run = record { state = b; journal = j }; entries = c; commands = d; listed = e } in
    let es = entries_of ns run.journal in
    let cs = left_from true s.turns command in
    let os = left_from false s.turns listed in
    let rows' = changed [] (start_changes s []) in
    let state' = start s wait [] in
    let entries : es ≡ [] = ap (λ (xs : List ℕ). entries_of xs run.journal) nobody ∙ ap (entries_of []) empty in
    ap (λ (a : List Row). make a run.state run.journal es cs os) (kept ∙ ap (λ (rs : List Row). changed rs (start_changes s rs)) nothing)
    ∙ ap (λ (b : State). make rows' b run.journal es cs os) (begins ∙ ap (start s wait) nothing)
    ∙ ap (λ (j : List (Turn × Reply)). make rows' state' j es cs os) empty
    ∙ ap (λ (c : List Entry). make rows' state' [] c cs os) entries
    ∙ ap (λ (d : List Turn). make rows' state' [] [] d os) commands
    ∙ ap (λ (e : List Turn). make rows' state' [] [] (commands_in s.turns) e) others
